-- Solving a component. Not recursive: the candidates of its procedure are annotated. Recursive: rounds from no specs of its own
-- procedures, each with the specs of the round before; then each spec is annotated strictly; then what is not inductive is dropped, all
-- at once, until nothing is.
use Rattle.std.specs.Prelude.{ℕ, zero, suc, Bool, true, false, ◌==◌, if◌then◌else◌, List, [], ◌∷◌, map}
use Rattle.std.specs.declared.option.Option.{Option}
use Rattle.std.specs.declared.option.Option.TheVariants.{None, Some}
use Rattle.shape_data.specs.declared.answer.Answer.{Answer}
use Rattle.shape_data.specs.declared.answer.Budget.TheVariants as budget
use Rattle.shape_data.specs.declared.answer.Key.{Key}
use Rattle.shape_data.specs.declared.answer.ProcSummary.{ProcSummary}
use Rattle.shape_data.specs.declared.answer.Reason.TheVariants as reason
use Rattle.shape_data.specs.declared.program.Flow.{Flow}
use Rattle.shape_data.specs.declared.symbolic.Cert.{Cert}
use Rattle.shape_data.specs.declared.symbolic.Spec.{Spec}
use Rattle.exec_laws.specs.declared.parts.Table.{Table}
use Rattle.solve_laws.specs.declared.certificates.parts.SpecGap.{SpecGap}
use Rattle.solve_laws.specs.Certificates.Coming.{Task}
use Rattle.solve_laws.specs.Certificates.Gaps.{spec_gap}
use Rattle.solve_laws.specs.declared.parts.Attempt.{Attempt}
use Rattle.solve_laws.specs.declared.parts.Trial.{Trial}
use Rattle.solve_laws.specs.declared.parts.Trial.TheVariants.{Fell, Stands}
use Rattle.solve_laws.specs.Attempts.{attempt, count_of, specs_of, summaries_of, try}
use Rattle.solve_laws.specs.Tables.{same_specs, table_with, task_under}

-- each procedure's candidates, annotated under a table
abbrev pub attempts_under : Key → Table → List Attempt
attempts_under key table = map (λ flow. attempt (task_under key table flow)) key.procs

-- ROUNDS

-- a round: all procedures' candidates and annotations with the cut table of the round before
abbrev pub round : Key → List (List Spec) → List Attempt
round key before = attempts_under key (table_with key before true)

-- the rounds end at the round whose specs equal those of the one before; else there is a next one
abbrev pub ended_or : (List (List Spec) → Option (List Attempt)) → List (List Spec) → List Attempt → Option (List Attempt)
ended_or next before attempts = if same_specs (specs_of attempts) before then Some attempts else next (specs_of attempts)

-- so many rounds are left; none, where they are spent
abbrev pub rounds : ℕ → Key → List (List Spec) → Option (List Attempt)
rounds zero key before = None
rounds (suc left) key before = ended_or (rounds left key) before (round key before)

-- no specs for any procedure
abbrev pub no_specs : Key → List (List Spec)
no_specs key = map (λ flow. []) key.procs

-- how many rounds there are at most
abbrev pub MOST_ROUNDS : ℕ
MOST_ROUNDS = 8

-- AFTER THE ROUNDS

-- what stands is tested again, in its place
abbrev pub again_with : (Task → Spec → Cert → Trial) → Task → Trial → Trial
again_with test task (Stands spec cert) = test task spec cert
again_with test task (Fell why) = Fell why

abbrev pub attempt_again : (Task → Spec → Cert → Trial) → Task → Attempt → Attempt
attempt_again test task one = record { found = one.found; trials = map (again_with test task) one.trials }

abbrev pub attempts_again : (Task → Spec → Cert → Trial) → Key → Table → List Flow → List Attempt → List Attempt
attempts_again test key table [] attempts = []
attempts_again test key table (flow ∷ flows) [] = []
attempts_again test key table (flow ∷ flows) (one ∷ attempts) =
    attempt_again test (task_under key table flow) one ∷ attempts_again test key table flows attempts

-- all that stands is tested by the strict table of it
abbrev pub all_again : (Task → Spec → Cert → Trial) → Key → List Attempt → List Attempt
all_again test key attempts = attempts_again test key (table_with key (specs_of attempts) false) key.procs attempts

-- each spec is annotated by the strict table of the last round
abbrev pub annotated_again : Task → Spec → Cert → Trial
annotated_again task spec cert = try task spec.pre

abbrev pub strictly : Key → List Attempt → List Attempt
strictly key attempts = all_again annotated_again key attempts

-- a spec that has a gap falls for it
abbrev pub unless_gap : Spec → Cert → Option SpecGap → Trial
unless_gap spec cert None = Stands spec cert
unless_gap spec cert (Some gap) = Fell (reason.Failed gap.fault gap.line)

abbrev pub checked_again : Task → Spec → Cert → Trial
checked_again task spec cert = unless_gap spec cert (spec_gap task spec cert)

-- a pass: the specs that are not inductive are dropped, all at once
abbrev pub pass : Key → List Attempt → List Attempt
pass key attempts = all_again checked_again key attempts

-- none was dropped, or there is a next pass
abbrev pub settled_or : (List Attempt → List Attempt) → List Attempt → List Attempt → List Attempt
settled_or next before after = if count_of after == count_of before then after else next after

-- passes, until none is dropped: each but the last drops a spec, so as many as there are specs are enough
abbrev pub passes : ℕ → Key → List Attempt → List Attempt
passes zero key attempts = attempts
passes (suc left) key attempts = settled_or (passes left key) attempts (pass key attempts)

abbrev pub all_passes : Key → List Attempt → List Attempt
all_passes key attempts = passes (count_of attempts) key attempts

-- THE ANSWER

-- no procedure has a spec: the rounds were spent
abbrev pub without_specs : Flow → ProcSummary
without_specs flow = record { name = flow.name; specs = []; certs = []; reason = Some (reason.Spent budget.Rounds MOST_ROUNDS) }

-- NOT RECURSIVE: by the strict table without own specs
abbrev pub solve_alone : Key → List ProcSummary
solve_alone key = summaries_of key.procs (attempts_under key (table_with key [] false))

-- RECURSIVE: the rounds; then strict annotation, then passes
abbrev pub after_rounds : Key → Option (List Attempt) → List ProcSummary
after_rounds key None = map without_specs key.procs
after_rounds key (Some attempts) = summaries_of key.procs (all_passes key (strictly key attempts))

abbrev pub solve_together : Key → List ProcSummary
solve_together key = after_rounds key (rounds MOST_ROUNDS key (no_specs key))

abbrev pub summaries_by : Bool → Key → List ProcSummary
summaries_by true key = solve_together key
summaries_by false key = solve_alone key

-- SOLVE
unfoldable pub solve : Key → Answer
solve key = record { stored = false; procs = summaries_by key.recursive key }
