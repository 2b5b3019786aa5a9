use Rattle.std.proofs.Common.{◌≡◌, drop}
use Rattle.sym_parts.specs.Laws.Addresses.{addresses}
use Rattle.sym_pure.specs.Redundancy.{needed}
use Rattle.sym_pure.proofs.redundancy.needed.Given as goal

abbrev pub invariant-loop-fact : goal.invariant-loop-fact
invariant-loop-fact l = needed (addresses l.atoms) l.facts l.initial.kept.items
    ≡ needed (addresses l.atoms) (drop l.fact-index l.facts) l.kept.items
