-- What is known of a program when all its components are answered, callees first, each by a loaded entry or else by solving it.
use Rattle.std.specs.Prelude.{ℕ, List, [], ◌∷◌, ◌++◌, map, slice_get}
use Rattle.std.specs.List.{filter_map, find, flat_map}
use Rattle.std.specs.Str.{bytes_eq}
use Rattle.std.specs.declared.option.Option.{Option}
use Rattle.std.specs.declared.option.Option.TheVariants.{None, Some}
use Rattle.shape_data.specs.declared.answer.Answer.{Answer}
use Rattle.shape_data.specs.declared.answer.Callee.{Callee}
use Rattle.shape_data.specs.declared.answer.Key.{Key}
use Rattle.shape_data.specs.declared.answer.ProcSummary.{ProcSummary}
use Rattle.shape_data.specs.declared.program.Proc.{Proc}
use Rattle.shape_data.specs.declared.program.Program.{Program}
use Rattle.shape_data.specs.declared.program.StructDef.{StructDef}
use Rattle.shape_data.specs.declared.symbolic.Spec.{Spec}
use Rattle.component_keys.specs.Keys.{Component, Outer, key_over, program_components, specs_in}
use Rattle.loaded_answers.specs.Lookup.{lookup}
use Rattle.solve_laws.specs.Solving.{solve}
use Rattle.claim_core.specs.Views.{Solution}

-- a key with the answer that it is given
abbrev pub answered : (Key → Answer) → Key → Solution
answered answer_of key = record { key = key; answer = answer_of key }

-- the answers alone
abbrev pub answers_in : List Solution → List Answer
answers_in known = map (λ (one : Solution). one.answer) known

-- the specs that a component's answer has for a procedure
abbrev pub specs_known : Option Answer → List ℕ → List Spec
specs_known None name = []
specs_known (Some answer) name = specs_in answer name

-- a procedure outside as a callee, with the specs that its component's answer has for it
abbrev pub callee_by : Outer → Option Answer → Callee
callee_by outer answer = record { name = outer.name; params = outer.params; specs = specs_known answer outer.name }

abbrev pub callee_from : List Answer → Outer → Callee
callee_from answers outer = callee_by outer (slice_get answers outer.component)

-- the key of a component, made of the answers of the components before it
abbrev pub key_after : List StructDef → List Answer → Component → Key
key_after structs answers part = key_over structs part.flows (map (callee_from answers) part.outer)

-- a component is known, and then those after it
abbrev pub known_then : (List Answer → List Solution) → List Answer → Solution → List Solution
known_then others answers one = one ∷ others (answers ++ one.answer ∷ [])

-- each component is answered over those before it
abbrev pub known_over : (Key → Answer) → List StructDef → List Component → List Answer → List Solution
known_over answer_of structs [] answers = []
known_over answer_of structs (part ∷ parts) answers =
    known_then (known_over answer_of structs parts) answers (answered answer_of (key_after structs answers part))

-- what is known of the components of a program, callees first, where each key has such an answer
unfoldable pub known_by : (Key → Answer) → Program → List Solution
known_by answer_of program = known_over answer_of program.structs (program_components program) []

-- BOTTOM UP, over loaded entries: each key is looked up
abbrev pub bottom_up : List Solution → Program → List Solution
bottom_up loaded program = known_by (lookup solve loaded) program

-- THE SUMMARIES

-- the summaries of all components
abbrev pub all_summaries : List Solution → List ProcSummary
all_summaries known = flat_map (λ (one : Solution). one.answer.procs) known

-- the summary of a procedure's name
abbrev pub summary_named : List Solution → List ℕ → Option ProcSummary
summary_named known name = find (λ (summary : ProcSummary). bytes_eq summary.name name) (all_summaries known)

-- the summaries of procedures, in their order
abbrev pub summaries_for : List Solution → List Proc → List ProcSummary
summaries_for known procs = filter_map (λ (proc : Proc). summary_named known proc.flow.name) procs

-- the summaries of a program's procedures over loaded entries, in their order
abbrev pub program_summaries : List Solution → Program → List ProcSummary
program_summaries loaded program = summaries_for (bottom_up loaded program) program.procs
