use Rattle.std.proofs.Common.{◌≡◌}
use Rattle.std.specs.List.{list_any}
use Rattle.sym_parts.specs.Laws.Junks.{is_junk}
use Rattle.sym_pure.specs.Redundancy.{one_junk}
use Rattle.sym_pure.proofs.redundancy.one_junk.Given as goal

abbrev pub invariant-loop-atom : goal.invariant-loop-atom
invariant-loop-atom l = (l.kept.items ≡ one_junk l.yielded) × (l.seen ≡ list_any is_junk l.yielded)
