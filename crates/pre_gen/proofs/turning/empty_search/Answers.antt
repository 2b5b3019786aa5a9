-- Nothing is listed.
use Rattle.std.proofs.Common.{◌≡◌, ◌∙◌, ap}
use Rattle.std.specs.declared.option.Option.TheVariants.{None}
use Rattle.pre_gen.specs.InSearch.{no_pairs_of}
use Rattle.pre_gen.proofs.turning.empty_search.Goals as goal

pub returns : goal.returns
returns c =
    let lists : c.in_ok-lists.lists.items ≡ no_pairs_of c.args.task.now.flow.now.nodes =
    c.in_ok-lists.ensures ∙ ap no_pairs_of c.as_slice-nodes.ensures in
    λ i. record { nodes = lists i; queue = c.new.ensures.items i; pres = c.new-2.ensures i; first_drop = None }
