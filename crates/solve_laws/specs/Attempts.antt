-- What was found for a procedure, and what became of each candidate.
use Rattle.std.specs.Prelude.{ℕ, List, [], ◌∷◌, filter_map, flat_map, length, map}
use Rattle.std.specs.declared.option.Option.{Option}
use Rattle.std.specs.declared.option.Option.TheVariants.{None, Some}
use Rattle.shape_data.specs.declared.answer.ProcSummary.{ProcSummary}
use Rattle.shape_data.specs.declared.answer.Reason.{Reason}
use Rattle.shape_data.specs.declared.answer.Reason.TheVariants as reason
use Rattle.shape_data.specs.declared.program.Flow.{Flow}
use Rattle.shape_data.specs.declared.symbolic.Cert.{Cert}
use Rattle.shape_data.specs.declared.symbolic.Spec.{Spec}
use Rattle.shape_data.specs.declared.symbolic.SymHeap.{SymHeap}
use Rattle.solve_laws.specs.Certificates.Coming.{Task}
use Rattle.solve_laws.specs.declared.annotation.parts.Annotated.{Annotated}
use Rattle.solve_laws.specs.declared.annotation.parts.Annotated.TheVariants.{Done, Fail, Spent}
use Rattle.solve_laws.specs.Annotation.Annotation.{annotate}
use Rattle.solve_laws.specs.declared.candidates.parts.Dropped.{Dropped}
use Rattle.solve_laws.specs.declared.candidates.parts.Found.{Found}
use Rattle.solve_laws.specs.Candidates.Candidates.{candidates}
use Rattle.solve_laws.specs.declared.parts.Attempt.{Attempt}
use Rattle.solve_laws.specs.declared.parts.Trial.{Trial}
use Rattle.solve_laws.specs.declared.parts.Trial.TheVariants.{Fell, Stands}

-- done gives a spec; else the candidate fell, for its fault or its budget
abbrev pub trial_of : SymHeap → Annotated → Trial
trial_of pre (Done posts cert) = Stands (record { pre = pre; posts = posts }) cert
trial_of pre (Fail cause line) = Fell (reason.Failed cause line)
trial_of pre (Spent what count) = Fell (reason.Spent what count)

-- a candidate is annotated
abbrev pub try : Task → SymHeap → Trial
try task pre = trial_of pre (annotate task pre)

-- each candidate that was found is annotated
abbrev pub tried : Task → Found → Attempt
tried task found = record { found = found; trials = map (try task) found.pres }

-- the candidates of a procedure, each annotated
abbrev pub attempt : Task → Attempt
attempt task = tried task (candidates task)

-- WHAT STANDS

-- the spec of what stands
abbrev pub spec_of : Trial → Option Spec
spec_of (Stands spec cert) = Some spec
spec_of (Fell why) = None

-- its certificate
abbrev pub cert_of : Trial → Option Cert
cert_of (Stands spec cert) = Some cert
cert_of (Fell why) = None

-- the specs of a procedure
abbrev pub specs_in : Attempt → List Spec
specs_in one = filter_map spec_of one.trials

-- the specs of each procedure
abbrev pub specs_of : List Attempt → List (List Spec)
specs_of attempts = map specs_in attempts

-- how many specs stand
abbrev pub count_of : List Attempt → ℕ
count_of attempts = length (flat_map specs_in attempts)

-- SUMMARIES

-- without a candidate: the first drop, or endless if nothing was dropped
abbrev pub no_path : Option Dropped → Reason
no_path (Some dropped) = reason.NoPath dropped.fault dropped.line
no_path None = reason.Endless

-- why a procedure has no spec: it has no candidate, or its first candidate fell
abbrev pub why_none : Found → List Trial → Option Reason
why_none found [] = Some (no_path found.first_drop)
why_none found (Fell why ∷ trials) = Some why
why_none found (Stands spec cert ∷ trials) = None

-- where it has a spec, there is no reason
abbrev pub reason_of : Attempt → List Spec → Option Reason
reason_of one [] = why_none one.found one.trials
reason_of one (spec ∷ specs) = None

-- the summary of a procedure
abbrev pub summary_of : Flow → Attempt → ProcSummary
summary_of flow one = record {
  name = flow.name;
  specs = specs_in one;
  certs = filter_map cert_of one.trials;
  reason = reason_of one (specs_in one);
}

-- one for each procedure
abbrev pub summaries_of : List Flow → List Attempt → List ProcSummary
summaries_of [] attempts = []
summaries_of (flow ∷ flows) [] = []
summaries_of (flow ∷ flows) (one ∷ attempts) = summary_of flow one ∷ summaries_of flows attempts
