-- What is answered for an aim.
use Rattle.std.specs.Prelude.{◌≡◌, All, List, map}
use Rattle.shape_data.specs.declared.answer.Answer.{Answer}
use Rattle.shape_data.specs.declared.answer.Kept.{Kept}
use Rattle.shape_data.specs.declared.answer.Key.{Key}
use Rattle.shape_data.specs.declared.program.Program.{Program}
use Rattle.claim_core.specs.Views.{IsSolution, solution_of}
use Rattle.claim_laws.specs.World.{Event}
use Rattle.claim_laws.specs.Logs.{IsLegal, replay}
use Rattle.summary_book.specs.declared.aims.Aim.{Aim}
use Rattle.summary_book.specs.Aims.{aimed}
use Rattle.summary_book.specs.Next.{IsSettled, slots_by}
use Rattle.summary_book.specs.Views.{slot_solution}

-- The entries of the components that an aim reaches in a program, callees first. There is a legal log that leaves the program present and
-- each of these components settled, and the entries are the keys and answers of their slots. Each answer is right for its key
pub record AreEntries (solves : Key → Answer → Type 0) (program : Program) (aim : Aim) (kept : List Kept) : Type 0 where
  pub log : List Event
  pub legal : IsLegal solves log
  pub program_is : (replay log).program ≡ program
  pub settled : IsSettled (replay log) (aimed program aim)
  pub kept_are : map solution_of kept ≡ map slot_solution (slots_by (replay log) (aimed program aim))
  pub right : All (λ (one : Kept). IsSolution solves one.key.value one.answer.value) kept
