-- The places so far.
use Rattle.std.proofs.Common.{◌≡◌, map, take}
use Rattle.shape_data.specs.declared.program.Proc.{Proc}
use Rattle.bottom_up.specs.Placed.{answers_kept, summary_among, summary_in}
use Rattle.bottom_up.proofs.places.places_named.Given as goal

abbrev pub invariant-loop-proc : goal.invariant-loop-proc
invariant-loop-proc l = map (summary_in (answers_kept l.kept)) l.places.items
    ≡ map (λ (proc : Proc). summary_among (answers_kept l.kept) proc.flow.name) (take l.proc-index l.procs)
