-- Keys and answers by their places in a log.
use Rattle.std.specs.Prelude.{ℕ, List, slice_get}
use Rattle.std.specs.declared.option.Option.{Option}
use Rattle.std.specs.declared.option.Option.TheVariants.{None, Some}
use Rattle.shape_data.specs.declared.answer.Answer.{Answer}
use Rattle.shape_data.specs.declared.answer.Key.{Key}
use Rattle.claim_core.specs.declared.event.Event.{Event as Told}
use Rattle.claim_core.specs.declared.event.Event.TheVariants as told

-- the key of a claim
abbrev pub key_in : Option Told → Option Key
key_in (Some (told.Claim number worker component key)) = Some key.value
key_in _ = None

abbrev pub key_at : List Told → ℕ → Option Key
key_at log place = key_in (slice_get log place)

-- the answer that was published
abbrev pub answer_in : Option Told → Option Answer
answer_in (Some (told.Publish number answer kept)) = Some answer.value
answer_in _ = None

abbrev pub answer_at : List Told → ℕ → Option Answer
answer_at log place = answer_in (slice_get log place)
