use Rattle.std.proofs.Common.{◌≡◌, filter, not}
use Rattle.sym_abstract.specs.Counted.{is_kept_by}
use Rattle.sym_abstract.proofs.reaching.part.Given as goal

abbrev pub invariant-loop-atom : goal.invariant-loop-atom
invariant-loop-atom l = (l.kept.items ≡ filter (is_kept_by l.seen) l.yielded)
    × (l.left.items ≡ filter (λ atom. not (is_kept_by l.seen atom)) l.yielded)
