-- What the program's events tell.
use Rattle.std.specs.Prelude.{List, map}
use Rattle.shape_data.specs.declared.answer.Answer.{Answer}
use Rattle.shape_data.specs.declared.answer.Key.{Key}
use Rattle.claim_core.specs.declared.event.Event.{Event as Told}
use Rattle.claim_core.specs.declared.event.Event.TheVariants as told
use Rattle.claim_laws.specs.World.{Event}
use Rattle.claim_laws.specs.Logs.{IsLegal}

-- an event with what its shared parts hold
abbrev pub event_of : Told → Event
event_of (told.Revise revision program) = Event.Revise revision program.value
event_of (told.Claim number worker component key) = Event.Claim number worker component key.value
event_of (told.Publish number answer kept) = Event.Publish number answer.value kept
event_of (told.GiveBack number) = Event.GiveBack number

abbrev pub events_of : List Told → List Event
events_of log = map event_of log

-- the log is legal, where each answer means what the job says
abbrev pub IsLegalFor : (Key → Answer → Type 0) → List Told → Type 0
IsLegalFor solves log = IsLegal solves (events_of log)
