use Rattle.std.proofs.Common.{◌≡◌, ◌<◌, ℕ, List, false, slice_get, Some}
use Rattle.shape_data.specs.declared.program.Program.{Program}
use Rattle.claim_laws.specs.World.{Out}
use Rattle.summary_book.specs.Rows.{AreOut}
use Rattle.summary_book.specs.Views.{is_claim}
use Rattle.summary_book.proofs.outstanding.holds.Given as goal

abbrev pub invariant-loop-row : goal.invariant-loop-row
invariant-loop-row l =
    (program : Program) (claims : List Out) (k : ℕ) (out : Out) → AreOut l.log program l.out claims → k < l.row-index
    → slice_get claims k ≡ Some out → is_claim l.claim out ≡ false
