-- The first place at which an answer is not inductive: by procedure, by spec, and within a spec the entry, then the states by node
-- and place, then the posts.
use Rattle.std.specs.Prelude.{ℕ, suc, Bool, true, false, ◌&&◌, List, [], ◌∷◌, option_map, slice_get, zip}
use Rattle.std.specs.List.{list_all}
use Rattle.std.specs.Option.{option_and_then, option_map_or, option_or}
use Rattle.std.specs.declared.option.Option.{Option}
use Rattle.std.specs.declared.option.Option.TheVariants.{None, Some}
use Rattle.shape_data.specs.declared.answer.Answer.{Answer}
use Rattle.shape_data.specs.declared.answer.Fault.TheVariants as fault
use Rattle.shape_data.specs.declared.answer.Key.{Key}
use Rattle.shape_data.specs.declared.answer.ProcSummary.{ProcSummary}
use Rattle.shape_data.specs.declared.program.Flow.{Flow}
use Rattle.shape_data.specs.declared.symbolic.Cert.{Cert}
use Rattle.shape_data.specs.declared.symbolic.Post.{Post}
use Rattle.shape_data.specs.declared.symbolic.Spec.{Spec}
use Rattle.shape_data.specs.declared.symbolic.SymState.{SymState}
use Rattle.sound_laws.specs.Certificates.{states_at}
use Rattle.exec_laws.specs.declared.parts.Step.{Step}
use Rattle.exec_laws.specs.declared.parts.Step.TheVariants as step
use Rattle.exec_laws.specs.Execution.{line_of}
use Rattle.solve_laws.specs.declared.certificates.parts.Gap.{Gap}
use Rattle.solve_laws.specs.declared.certificates.parts.SpecGap.{SpecGap}
use Rattle.solve_laws.specs.Certificates.Coming.{Task, at_exit, at_node, normal_post, normal_state, start_at_node}
use Rattle.solve_laws.specs.Certificates.Coverings.{is_covered, is_post_covered}
use Rattle.solve_laws.specs.Certificates.Inductive.{execution, task_of}

-- what a search finds first among things from a place on, each with its place
abbrev pub first_found : {A B : Type 0} → (ℕ → A → Option B) → ℕ → List A → Option B
first_found search place [] = None
first_found search place (thing ∷ things) = option_or (search place thing) (first_found search (suc place) things)

-- a test is passed by what is there
abbrev pub passes : {A : Type 0} → (A → Bool) → Option A → Bool
passes test thing = option_map_or test thing true

-- A SPEC

-- the line of a node
abbrev pub line_at : Task → ℕ → ℕ
line_at task at = line_of (slice_get task.flow.nodes at)

-- at a node something is not covered, unless a test is passed
abbrev pub uncovered_unless : Bool → Task → ℕ → Option SpecGap
uncovered_unless true task at = None
uncovered_unless false task at = Some (record { fault = fault.Cover; line = line_at task at })

-- at the entry: the start state is not covered
abbrev pub start_gap : Task → Spec → Cert → Option SpecGap
start_gap task spec cert = uncovered_unless (passes (is_covered (states_at cert 0)) (start_at_node task spec.pre)) task 0

-- a state that is given is covered
abbrev pub is_next_covered : Task → Cert → ℕ × SymState → Bool
is_next_covered task cert next = passes (is_covered (states_at cert next.0)) (at_node task next.0 next.1)

-- an exit that is given is covered
abbrev pub is_exit_covered : Task → Cert → Post → Bool
is_exit_covered task cert exit = passes (is_post_covered cert.exits) (at_exit task exit)

-- at a state of a node: its execution fails, or something that it gives is not covered
abbrev pub step_gap : Task → Cert → ℕ → Step → Option SpecGap
step_gap task cert at (step.Next nexts exits) =
    uncovered_unless (list_all (is_next_covered task cert) nexts && list_all (is_exit_covered task cert) exits) task at
step_gap task cert at (step.Fail cause line) = Some (record { fault = cause; line = line })

-- the same of its normal form; a contradiction has no gap
abbrev pub state_gap : Task → Cert → ℕ → SymState → Option SpecGap
state_gap task cert at state = option_and_then (λ form. step_gap task cert at (execution task at form)) (normal_state state)

-- at the states of a node
abbrev pub node_gap : Task → Cert → ℕ → List SymState → Option SpecGap
node_gap task cert at states = first_found (λ place state. state_gap task cert at state) 0 states

-- at the posts: a certificate exit is not covered
abbrev pub post_gap : Task → Spec → Cert → Option SpecGap
post_gap task spec cert = uncovered_unless (list_all (λ exit. passes (is_post_covered spec.posts) (normal_post exit)) cert.exits) task 0

-- the first gap of a spec: at the entry, at the states by node and place, at the posts
abbrev pub spec_gap : Task → Spec → Cert → Option SpecGap
spec_gap task spec cert =
    option_or (start_gap task spec cert) (option_or (first_found (node_gap task cert) 0 cert.nodes) (post_gap task spec cert))

-- AN ANSWER

-- a gap of the spec at a place of the procedure at a place
abbrev pub placed : ℕ → ℕ → SpecGap → Gap
placed proc spec gap = record { proc = proc; spec = spec; line = gap.line; fault = gap.fault }

-- the first gap of a procedure, by spec
abbrev pub summary_gap : Task → ℕ → ProcSummary → Option Gap
summary_gap task proc summary =
    first_found (λ place (both : Spec × Cert). option_map (placed proc place) (spec_gap task both.0 both.1)) 0
    (zip summary.specs summary.certs)

-- THE FIRST GAP of an answer, by procedure
abbrev pub first_gap : Key → Answer → Option Gap
first_gap key answer =
    first_found (λ place (both : Flow × ProcSummary). summary_gap (task_of key answer both.0) place both.1) 0 (zip key.procs answer.procs)
