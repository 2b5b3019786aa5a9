use Rattle.std.proofs.Common.{◌≡◌, drop}
use Rattle.sym_canon.specs.Numbering.{sight}
use Rattle.sym_canon.proofs.sights.see_exps.Given as goal

abbrev pub invariant-loop-e : goal.invariant-loop-e
invariant-loop-e l = sight l.which l.list l.initial.seen.items ≡ sight l.which (drop l.e-index l.list) l.seen.items
