-- Where the procedures of a program stand among its components, and their summaries among the components' answers.
use Rattle.std.specs.Prelude.{◌≡◌, ℕ, List, length, map, slice_get}
use Rattle.std.specs.Borrow.{Bor}
use Rattle.std.specs.List.{find, flat_map}
use Rattle.std.specs.Option.{option_and_then, option_map}
use Rattle.std.specs.Str.{bytes_eq}
use Rattle.std.specs.declared.option.Option.{Option}
use Rattle.std.specs.declared.option.Option.TheVariants.{Some}
use Rattle.indexmap.specs.IndexMap.{IndexMap, get_by}
use Rattle.shape_data.specs.declared.answer.Answer.{Answer}
use Rattle.shape_data.specs.declared.answer.Kept.{Kept}
use Rattle.shape_data.specs.declared.answer.ProcSummary.{ProcSummary}
use Rattle.shape_data.specs.declared.program.Program.{Program}
use Rattle.component_keys.specs.Keys.{flows_of, program_components}
use Rattle.composed_keys.specs.declared.rows.Component.{Component as Row}
use Rattle.composed_keys.specs.Rows.{AreWithin, component_value}
use Rattle.bottom_up.specs.declared.places.Place.{Place}

-- the rows are the components of the program
pub record AreRows (program : Program) (rows : List Row) : Type 0 where
  pub are : map (component_value (flows_of program)) rows ≡ program_components program
  pub within : AreWithin (length program.procs) rows

-- the answers that are kept
abbrev pub answers_kept : List Kept → List Answer
answers_kept kept = map (λ (one : Kept). one.answer.value) kept

-- the summaries of answers
abbrev pub summaries_in : List Answer → List ProcSummary
summaries_in answers = flat_map (λ (answer : Answer). answer.procs) answers

-- the first of these summaries with the name
abbrev pub first_named : List ProcSummary → List ℕ → Option ProcSummary
first_named summaries name = find (λ (summary : ProcSummary). bytes_eq summary.name name) summaries

-- the first summary of the name among answers
abbrev pub summary_among : List Answer → List ℕ → Option ProcSummary
summary_among answers name = first_named (summaries_in answers) name

-- the summary at a place
abbrev pub summary_in : List Answer → Place → Option ProcSummary
summary_in answers place = option_and_then (λ (answer : Answer). slice_get answer.procs place.member) (slice_get answers place.component)

-- the place that a map has for the name
abbrev pub first_place : {S : Type 0} → IndexMap (Bor (List ℕ)) Place S → List ℕ → Option Place
first_place firsts name = get_by (λ k. bytes_eq name k.now) firsts

-- a map has, for the names of these summaries and for no other, the place among answers of the first of them with that name
abbrev pub AreFirst : {S : Type 0} → List Answer → List ProcSummary → IndexMap (Bor (List ℕ)) Place S → Type 0
AreFirst answers summaries firsts =
    (name : List ℕ)
    → option_map (summary_in answers) (first_place firsts name) ≡ option_map (λ summary. Some summary) (first_named summaries name)
