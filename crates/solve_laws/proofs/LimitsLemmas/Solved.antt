-- The answer of a key within the limits of a store is within them.
use Rattle.std.specs.Prelude.{◌≤◌, Bool, false, List, length, Contains}
use Rattle.std.specs.List.{AllZip}
use Rattle.std.proofs.Common.{refl, arith}
use Rattle.std.proofs.lemmas.List.Elements.{All-contains, All-contains_itself, All-nil}
use Rattle.shape_data.specs.declared.answer.Key.{Key}
use Rattle.shape_data.specs.declared.program.Flow.{Flow}
use Rattle.shape_data.specs.declared.symbolic.Cert.{Cert}
use Rattle.shape_data.specs.declared.symbolic.Spec.{Spec}
use Rattle.shape_data.specs.declared.symbolic.SymHeap.{SymHeap}
use Rattle.shape_data.specs.WellFormed.{IsAnswer, IsCert, IsKey, IsSpec, IsStorableKey, IsSummary, IsSymHeap, storable}
use Rattle.solve_laws.specs.Certificates.Limits.{analysable}
use Rattle.solve_laws.proofs.CertificatesLemmas.LimitLaws as limits
use Rattle.solve_laws.proofs.AnnotationLemmas.AnnotationLaws.{done_is_small}
use Rattle.solve_laws.specs.Candidates.Searching.{MOST_CANDIDATES}
use Rattle.solve_laws.proofs.CandidatesLemmas.PresLaws.{candidates_are_few}
use Rattle.solve_laws.specs.declared.parts.Attempt.{Attempt}
use Rattle.solve_laws.specs.Attempts.{specs_in, specs_of, summary_of}
use Rattle.solve_laws.specs.Laws.{FitKey}
use Rattle.solve_laws.specs.Solving.{solve, summaries_by, without_specs}
use Rattle.solve_laws.specs.Standing.{IsFormed, IsTried}
use Rattle.solve_laws.specs.Tables.{table_with, task_under}
use Rattle.solve_laws.proofs.KeepingLaws.{Keeps, summaries-are}
use Rattle.solve_laws.proofs.SolvedLaws.{solved_has_reasons, specs_fit_keys}
use Rattle.solve_laws.proofs.TaskLaws.{empty-are-own, none-are-own, task-with}
use Rattle.solve_laws.proofs.TrialLaws.{standing-certs, standing-few, standing-one_each, standing-specs, standing-weaker, zip-at}
use Rattle.solve_laws.proofs.TrialLaws.{zip-length, zip-weaker}
use Rattle.solve_laws.specs.Limits.Laws.{SolvedIsStorable}
use Rattle.shape_data.specs.Sizes.{HasFewSlots, HasKeySizes}
use Rattle.solve_laws.specs.Limits.Sizes.{HasTaskSizes}
use Rattle.solve_laws.proofs.LimitsLemmas.Annotated.{done_is_storable}
use Rattle.solve_laws.proofs.LimitsLemmas.Searched.{candidates_are_storable}

module _ (key : Key) (is_key : IsStorableKey key) (sizes : HasKeySizes key) where
  known : IsKey analysable key
  known = limits.key_widens storable analysable key limits.storable_is_analysable.0 is_key

  abbrev IsMember : Flow → Type 0
  IsMember = Contains key.procs

  abbrev Own : List (List Spec) → Type 0
  Own = FitKey key

  abbrev StoredPre : Flow → SymHeap → Type 0
  StoredPre flow pre = IsSymHeap storable key.structs (length flow.params) pre

  abbrev Stored : Flow → Spec → Cert → Type 0
  Stored flow spec cert = IsSpec storable key.structs (length flow.params) spec × IsCert storable key.structs flow cert

  task-sizes : (specs : List (List Spec)) (cut : Bool) (flow : Flow) → IsMember flow
      → HasTaskSizes (task_under key (table_with key specs cut) flow)
  task-sizes specs cut flow stands = record { structs = sizes.structs; flow = All-contains HasFewSlots key.procs flow sizes.procs stands }

  -- what stands within the limits is well formed
  stored-formed : (flow : Flow) (spec : Spec) (cert : Cert) → Stored flow spec cert → IsFormed key.structs flow spec cert
  stored-formed flow spec cert is = (
    limits.spec storable analysable limits.storable_is_analysable.0 (length flow.params) key.structs spec is.0,
    limits.cert storable analysable limits.storable_is_analysable.0 key.structs flow cert is.1,
  )

  tried-formed : (flow : Flow) (one : Attempt) → IsTried Stored flow one → IsTried (IsFormed key.structs) flow one
  tried-formed flow one is =
      record { few = is.few; stand = standing-weaker (Stored flow) (IsFormed key.structs flow) (stored-formed flow) one.trials is.stand }

  specs-fit : (attempts : List Attempt) → AllZip (IsTried Stored) key.procs attempts → Own (specs_of attempts)
  specs-fit attempts all =
      (specs_fit_keys key).standing attempts
      (zip-weaker (IsTried Stored) (IsTried (IsFormed key.structs)) tried-formed key.procs attempts all)

  stored-keeps : Keeps key IsMember Own StoredPre Stored
  stored-keeps = record {
    flows = All-contains_itself key.procs;
    none = none-are-own key.structs key.procs;
    first = empty-are-own key.structs key.procs;
    table = specs-fit;
    found = λ specs cut flow good stands.
        candidates_are_storable (task_under key (table_with key specs cut) flow) (task-with key known specs cut flow good stands)
        (task-sizes specs cut flow stands);
    again = λ flow spec cert is. is.0.pre;
    done = λ specs cut flow good stands pre holds posts cert is.
        done_is_storable (task_under key (table_with key specs cut) flow) pre posts cert (task-with key known specs cut flow good stands)
        (task-sizes specs cut flow stands) holds is;
  }

  summed : (flow : Flow) (one : Attempt) → IsTried Stored flow one → IsSummary storable key.structs flow (summary_of flow one)
  summed flow one is =
      let fewer : length (specs_in one) ≤ length one.trials = standing-few one.trials in
      let few : length one.trials ≤ MOST_CANDIDATES = is.few in record {
        name = refl;
        few = omega (arith, fewer, few);
        specs = standing-specs (IsSpec storable key.structs (length flow.params)) one.trials
            (standing-weaker (Stored flow) (λ spec cert. IsSpec storable key.structs (length flow.params) spec)
            (λ spec cert both. both.0) one.trials is.stand);
        one_each = standing-one_each one.trials;
        certs = standing-certs (IsCert storable key.structs flow) one.trials
            (standing-weaker (Stored flow) (λ spec cert. IsCert storable key.structs flow cert)
            (λ spec cert both. both.1) one.trials is.stand);
      }

  blank : (flow : Flow) → IsSummary storable key.structs flow (without_specs flow)
  blank flow = record {
    name = refl;
    few = omega arith;
    specs = All-nil (IsSpec storable key.structs (length flow.params));
    one_each = refl;
    certs = All-nil (IsCert storable key.structs flow);
  }

  all-stored : AllZip (IsSummary storable key.structs) key.procs (summaries_by key.recursive key)
  all-stored =
      summaries-are candidates_are_few key IsMember Own StoredPre Stored stored-keeps
      (IsSummary storable key.structs) summed blank key.recursive

  answer-stored : (stored : Bool) → IsAnswer storable key (record { stored = stored; procs = summaries_by key.recursive key })
  answer-stored stored = record {
    one_each = zip-length (IsSummary storable key.structs) key.procs (summaries_by key.recursive key) all-stored;
    each = zip-at (IsSummary storable key.structs) key.procs (summaries_by key.recursive key) all-stored;
  }

pub solved_is_storable : SolvedIsStorable
unfolding solve
solved_is_storable key is_key sizes =
    record { answers = answer-stored key is_key sizes false; reasons = solved_has_reasons candidates_are_few done_is_small key }
