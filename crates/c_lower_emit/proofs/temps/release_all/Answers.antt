use Rattle.std.proofs.Common.{◌∙◌, rules}
use Rattle.std.proofs.lemmas.List.Edits.{map_over_more}
use Rattle.c_lower_emit.proofs.TakenTemps.{all_written}
use Rattle.c_lower_emit.specs.KeptTemps.{unused}
use Rattle.c_lower_emit.proofs.temps.release_all.Goals as goal

pub loop-place-preserved : goal.loop-place-preserved
loop-place-preserved c =
    map_over_more unused c.args.temps.now.items c.loop-place.temps.items c.loop-place.place c.index_mut.result.now
    (search rules) c.loop-place.invariant c.index_mut.ensures.value

pub returns : goal.returns
returns c = c.loop-place.invariant ∙ all_written unused c.args.temps.now.items c.loop-place.place (search rules)
