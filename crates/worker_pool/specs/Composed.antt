-- What the entries of an aim are, said of the program alone: a key for each component that the aim reaches, over the answers before it.
use Rattle.std.specs.Prelude.{◌≡◌, ℕ, ◌==◌, List, [], ◌∷◌, map, length, slice_get, if◌then◌else◌}
use Rattle.std.specs.List.{AllZip, filter, range_with_len}
use Rattle.std.specs.Option.{option_map}
use Rattle.std.specs.declared.option.Option.{Option}
use Rattle.std.specs.declared.option.Option.TheVariants.{None, Some}
use Rattle.shape_data.specs.declared.answer.Answer.{Answer}
use Rattle.shape_data.specs.declared.answer.Callee.{Callee}
use Rattle.shape_data.specs.declared.answer.Kept.{Kept}
use Rattle.shape_data.specs.declared.answer.Key.{Key}
use Rattle.shape_data.specs.declared.program.Program.{Program}
use Rattle.component_keys.specs.Keys.{Component, Outer, key_over, program_components, specs_in}
use Rattle.claim_core.specs.Views.{Solution, solution_of}
use Rattle.summary_book.specs.declared.aims.Aim.{Aim}
use Rattle.summary_book.specs.Aims.{aimed}
use Rattle.worker_pool.specs.Entries.{AreEntries}

-- the numbers of the components that an aim reaches, callees first
abbrev pub reached_by : Program → Aim → List ℕ
reached_by program aim = filter (aimed program aim) (range_with_len 0 (length (program_components program)))

-- the answer of a component, where the entries are those of the components of these numbers
abbrev pub answer_among : List ℕ → List Solution → ℕ → Option Answer
answer_among [] entries component = None
answer_among (number ∷ numbers) [] component = None
answer_among (number ∷ numbers) (entry ∷ entries) component =
    if number == component then Some entry.answer else answer_among numbers entries component

-- a procedure as a callee, with the specs that the entries have for it
abbrev pub callee_by : Outer → Answer → Callee
callee_by outer answer = record { name = outer.name; params = outer.params; specs = specs_in answer outer.name }

abbrev pub callee_among : List ℕ → List Solution → Outer → Option Callee
callee_among numbers entries outer = option_map (callee_by outer) (answer_among numbers entries outer.component)

-- the entry has the key of the component: its procedures, over the callees that the entries have
pub record IsComposed (program : Program) (numbers : List ℕ) (entries : List Solution) (number : ℕ) (entry : Solution) : Type 0 where
  pub part : Component
  pub part_is : slice_get (program_components program) number ≡ Some part
  pub callees : List Callee
  pub callees_are : map (callee_among numbers entries) part.outer ≡ map (λ (callee : Callee). Some callee) callees
  pub key_is : entry.key ≡ key_over program.structs part.flows callees

-- each component that the aim reaches has its entry, in order
abbrev pub AreComposed : Program → Aim → List Solution → Type 0
AreComposed program aim entries = AllZip (IsComposed program (reached_by program aim) entries) (reached_by program aim) entries

abbrev pub EntriesAreComposed : (Key → Answer → Type 0) → Type 0
EntriesAreComposed solves = (program : Program) (aim : Aim) (kept : List Kept) → AreEntries solves program aim kept →
    AreComposed program aim (map solution_of kept)
