use Rattle.std.proofs.Common.{◌≡◌, filter}
use Rattle.sym_parts.specs.Laws.Junks.{is_junk, is_other}
use Rattle.sym_canon.proofs.placing.without_junk.Given as goal

abbrev pub invariant-loop-atom : goal.invariant-loop-atom
invariant-loop-atom l = (l.junk.items ≡ filter is_junk l.yielded) × (l.others.items ≡ filter is_other l.yielded)
