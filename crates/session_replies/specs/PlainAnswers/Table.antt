-- What a table has of the components of a program, by their numbers: something of those that are reached, nothing of the others.
use Rattle.std.specs.Prelude.{◌≡◌, ℕ, Bool, true, false, nat_eq, List, map, slice_get}
use Rattle.std.specs.List.{list_any, range_with_len}
use Rattle.std.specs.Option.{option_and_then, option_map}
use Rattle.std.specs.Cmp.Lexicographic.{pointwise}
use Rattle.std.specs.declared.option.Option.{Option}
use Rattle.std.specs.declared.option.Option.TheVariants.{None, Some}
use Rattle.shape_data.specs.declared.answer.Answer.{Answer}
use Rattle.shape_data.specs.declared.answer.Callee.{Callee}
use Rattle.shape_data.specs.declared.answer.Kept.{Kept}
use Rattle.shape_data.specs.declared.answer.Key.{Key}
use Rattle.shape_data.specs.declared.program.Flow.{Flow}
use Rattle.shape_data.specs.declared.program.Proc.{Proc}
use Rattle.shape_data.specs.declared.program.Program.{Program}
use Rattle.shape_data.specs.declared.program.StructDef.{StructDef}
use Rattle.component_keys.specs.Keys.{Component, Outer, key_over, program_components}
use Rattle.claim_core.specs.Views.{Solution, solution_of}
use Rattle.bottom_up.specs.BottomUp.{callee_by, specs_known}

-- NAMES

-- the procedure that may be there has the name
abbrev pub has_own_name : List ℕ → Option Proc → Bool
has_own_name name None = false
has_own_name name (Some proc) = pointwise nat_eq proc.flow.name name

-- one of the procedures at these places has the name
abbrev pub names_one : List Proc → List ℕ → List ℕ → Bool
names_one procs name members = list_any (λ (number : ℕ). has_own_name name (slice_get procs number)) members

-- REACHED

-- each component that a reached one calls is reached
abbrev pub IsClosed : Program → (ℕ → Bool) → Type 0
IsClosed program reached =
    (place k : ℕ) (part : Component) (outer : Outer) → reached place ≡ true → slice_get (program_components program) place ≡ Some part →
    slice_get part.outer k ≡ Some outer → reached outer.component ≡ true

-- what is known, where it is reached
abbrev pub where_reached : Bool → Option Solution → Option Solution
where_reached false known = None
where_reached true known = known

-- the same of a component
abbrev pub known_where : (ℕ → Bool) → List Solution → ℕ → Option Solution
known_where reached known place = where_reached (reached place) (slice_get known place)

-- the table has this of the components below a count
abbrev pub IsTable : (ℕ → Bool) → List Solution → ℕ → List (Option Kept) → Type 0
IsTable reached known count table = map (option_map solution_of) table ≡ map (known_where reached known) (range_with_len 0 count)

-- KEYS

-- the answer of an entry
abbrev pub entry_answer : Option Kept → Option Answer
entry_answer None = None
entry_answer (Some kept) = Some kept.answer.value

-- the answer that a table has of a component
abbrev pub answer_at : List (Option Kept) → ℕ → Option Answer
answer_at table component = option_and_then entry_answer (slice_get table component)

-- a procedure as a callee, with the specs that an answer has for it
abbrev pub callee_as : Flow → Option Answer → Callee
callee_as flow answer = record { name = flow.name; params = flow.params; specs = specs_known answer flow.name }

-- a procedure outside as a callee, with the specs that its component's answer has for it
abbrev pub callee_over : (ℕ → Option Answer) → Outer → Callee
callee_over answers outer = callee_by outer (answers outer.component)

-- the key of a component over such answers
abbrev pub key_by : List StructDef → (ℕ → Option Answer) → Component → Key
key_by structs answers part = key_over structs part.flows (map (callee_over answers) part.outer)
