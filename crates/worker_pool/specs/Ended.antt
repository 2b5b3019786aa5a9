-- How a claim ends in a log.
use Rattle.std.specs.Prelude.{◌≡◌, ℕ, Bool, true, false, List, [], ◌∷◌, ◌++◌}
use Rattle.shape_data.specs.declared.answer.Answer.{Answer}
use Rattle.claim_core.specs.Views.{Claimed}
use Rattle.claim_laws.specs.World.{Event}
use Rattle.claim_laws.specs.Logs.{replay}
use Rattle.summary_book.specs.Views.{is_own}

-- a claim of the book is published with the answer; of another one nothing is told
abbrev pub IsPublishedIf : Bool → List Event → List Event → ℕ → Answer → Type 0
IsPublishedIf true log later number answer = (kept : Bool) × (later ≡ log ++ Event.Publish number answer kept ∷ [])
IsPublishedIf false log later number answer = later ≡ log

abbrev pub IsPublished : List Event → List Event → Claimed → Answer → Type 0
IsPublished log later claim answer = IsPublishedIf (is_own (replay log) claim) log later claim.number answer

-- a claim of the book is given back; of another one nothing is told
abbrev pub IsGivenBackIf : Bool → List Event → List Event → ℕ → Type 0
IsGivenBackIf true log later number = later ≡ log ++ Event.GiveBack number ∷ []
IsGivenBackIf false log later number = later ≡ log

abbrev pub IsGivenBack : List Event → List Event → Claimed → Type 0
IsGivenBack log later claim = IsGivenBackIf (is_own (replay log) claim) log later claim.number
