use Rattle.std.proofs.Common.{◌≡◌, ◌<◌, ◌∙◌, [], ap, length, arith}
use Rattle.std.proofs.lemmas.List.{length-map}
use Rattle.shape_data.specs.declared.program.Node.{Node}
use Rattle.solve_laws.specs.Candidates.Searching.{Search}
use Rattle.pre_gen.proofs.turning.started.Goals as goal

pub pair_comes-requires : goal.pair_comes-requires
pair_comes-requires c =
    let same : length c.in_ok-search.search.nodes.items ≡ length c.args.task.now.flow.now.nodes =
    ap (λ (s : Search). length s.nodes) c.in_ok-search.ensures ∙ length-map c.args.task.now.flow.now.nodes (λ (node : Node). []) in
    let some : 0 < length c.args.task.now.flow.now.nodes = c.requires.flow.entry in
    omega (arith, same, some)
