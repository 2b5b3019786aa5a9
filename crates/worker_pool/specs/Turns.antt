-- What one hold of the lock gives the leader, and which events it adds to the log.
use Rattle.std.specs.Prelude.{◌≡◌, ◌⊎◌, ℕ, ◌≤◌, List, ◌++◌, map, vec_len}
use Rattle.shape_data.specs.declared.answer.Answer.{Answer}
use Rattle.shape_data.specs.declared.answer.Kept.{Kept}
use Rattle.shape_data.specs.declared.answer.Key.{Key}
use Rattle.shape_data.specs.declared.program.Program.{Program}
use Rattle.claim_laws.specs.World.{Event}
use Rattle.claim_laws.specs.Logs.{published, replay}
use Rattle.summary_book.specs.Aims.{aimed}
use Rattle.summary_book.specs.Book.{met_by, met_events}
use Rattle.summary_book.specs.Next.{IsNext, events_by, slots_by}
use Rattle.summary_book.specs.Views.{slot_solution}
use Rattle.claim_core.specs.Views.{solution_of}
use Rattle.summary_book.specs.declared.aims.Aim.{Aim}
use Rattle.summary_book.specs.declared.answers.Next.{Next}
use Rattle.summary_book.specs.declared.answers.Next.TheVariants as next
use Rattle.worker_pool.specs.declared.turn.Turn.{Turn}
use Rattle.worker_pool.specs.declared.turn.Turn.TheVariants.{Done, Yours, Waits}
use Rattle.worker_pool.specs.Entries.{AreEntries}

-- the number under which the leader claims
abbrev pub leader : ℕ
leader = 0

-- the log once a program was met
abbrev pub met_log : List Event → Program → List Event
met_log log program = log ++ met_events program (met_by (replay log) program)

-- what the book says is next, where the leader's turn is this
abbrev pub next_in : Turn → Next
next_in (Done kept) = next.All
next_in (Yours claim) = next.Yours claim
next_in (Waits claim) = next.Waits claim

-- the entries are those of the aim, and they are what the log leaves: the keys and answers of its slots. All that was published was seen
pub record AreCollected (solves : Key → Answer → Type 0) (log : List Event) (program : Program) (aim : Aim) (seen : ℕ)
    (kept : List Kept) : Type 0 where
  pub entries : AreEntries solves program aim kept
  pub slots : map solution_of kept ≡ map slot_solution (slots_by (replay log) (aimed program aim))
  pub seen_is : seen ≡ published log

-- where it ends with entries, they were collected from the log, and as many publishes were seen at least
abbrev pub IsTurn : (Key → Answer → Type 0) → List Event → Program → Aim → ℕ → Turn → Type 0
IsTurn solves log program aim seen (Done kept) = AreCollected solves log program aim seen kept.items × (vec_len kept ≤ seen)
IsTurn solves log program aim seen (Yours claim) = Unit {0}
IsTurn solves log program aim seen (Waits claim) = Unit {0}

-- the program was met, and this is next in it
abbrev pub IsMetTurn : List Event → List Event → Program → Aim → Next → Type 0
IsMetTurn log later program aim next =
    (later ≡ met_log log program ++ events_by leader next) × IsNext (replay (met_log log program)) (aimed program aim) next

-- the log is as before, or the program was met
abbrev pub IsMetAtMost : List Event → List Event → Program → Type 0
IsMetAtMost log later program = (later ≡ log) ⊎ (later ≡ met_log log program)

-- a hold that does not meet the program at first: it adds what is next in whatever program is present, or is a turn where nothing is left
abbrev pub GoesOn : List Event → List Event → Program → Aim → Turn → Type 0
GoesOn log later program aim (Done kept) = later ≡ met_log log program
GoesOn log later program aim (Yours claim) =
    ((later ≡ log ++ events_by leader (next.Yours claim)) × IsNext (replay log) (aimed (replay log).program aim) (next.Yours claim))
    ⊎ IsMetTurn log later program aim (next.Yours claim)
GoesOn log later program aim (Waits claim) =
    ((later ≡ log) × IsNext (replay log) (aimed (replay log).program aim) (next.Waits claim))
    ⊎ IsMetTurn log later program aim (next.Waits claim)
