-- The laws of solving.
use Rattle.std.specs.Prelude.{◌≡◌, ◌≤◌, Bool, true, false, List, [], ◌∷◌, filter_map, length, map, All, Contains, IfSome, IsSome}
use Rattle.std.specs.List.{AllZip}
use Rattle.std.specs.declared.option.Option.{Option}
use Rattle.std.specs.declared.option.Option.TheVariants.{None, Some}
use Rattle.std.proofs.Common.{refl, sym, ap, subst, arith}
use Rattle.std.proofs.lemmas.List.Elements.{All-contains_itself, All-head, All-nil, All-tail}
use Rattle.shape_data.specs.declared.answer.Key.{Key}
use Rattle.shape_data.specs.declared.answer.ProcSummary.{ProcSummary}
use Rattle.shape_data.specs.declared.program.Flow.{Flow}
use Rattle.shape_data.specs.declared.symbolic.Cert.{Cert}
use Rattle.shape_data.specs.declared.symbolic.Spec.{Spec}
use Rattle.shape_data.specs.declared.symbolic.SymHeap.{SymHeap}
use Rattle.shape_data.specs.WellFormed.{HasReason, IsAnswer, IsCert, IsKey, IsSpec, IsSummary, IsSymHeap, widest}
use Rattle.sound_laws.specs.Answers.{own_callees}
use Rattle.exec_laws.specs.declared.parts.Table.{Table}
use Rattle.solve_laws.specs.Certificates.Coming.{Task}
use Rattle.solve_laws.specs.Certificates.Conditions.{IsTask}
use Rattle.solve_laws.specs.Certificates.Inductive.{Inductive, IsInductiveCert, IsInductiveSummary, task_of}
use Rattle.solve_laws.specs.Certificates.Limits.{analysable}
use Rattle.solve_laws.proofs.CertificatesLemmas.LimitLaws as limits
use Rattle.solve_laws.specs.Annotation.Laws.{DoneIsInductive, DoneIsSmall, DoneIsWellFormed, IsSmallCert, spec_of}
use Rattle.solve_laws.specs.declared.candidates.parts.Found.{Found}
use Rattle.solve_laws.specs.Candidates.Candidates.{candidates}
use Rattle.solve_laws.specs.Candidates.Laws.{CandidatesAreFew, CandidatesAreWellFormed}
use Rattle.solve_laws.specs.Candidates.Searching.{MOST_CANDIDATES}
use Rattle.solve_laws.specs.declared.parts.Attempt.{Attempt}
use Rattle.solve_laws.specs.declared.parts.Trial.{Trial}
use Rattle.solve_laws.specs.declared.parts.Trial.TheVariants.{Fell, Stands}
use Rattle.solve_laws.specs.Attempts.{attempt, specs_in, specs_of, summaries_of, summary_of, why_none}
use Rattle.solve_laws.specs.Attempts as attempts
use Rattle.solve_laws.specs.Laws.{FitKey, IsSmallSummary, SolvedHasReasons, SolvedIsFew, SolvedIsInductive, SolvedIsWellFormed}
use Rattle.solve_laws.specs.Laws.{SpecsFitKeys, StandingIsWellFormed, StandingStaysWellFormed, TasksAreWellFormed}
use Rattle.solve_laws.specs.Solving.{after_rounds, all_passes, attempts_under, no_specs, rounds, solve, strictly, summaries_by}
use Rattle.solve_laws.specs.Solving.{without_specs, MOST_ROUNDS}
use Rattle.solve_laws.specs.Standing.{AllStanding, AreOwnSpecs, AreSpecs, IsFormed, IsTried}
use Rattle.solve_laws.specs.Tables.{own_with, table_with, task_under}
use Rattle.solve_laws.proofs.KeepingLaws.{AreTried, Keeps, all-tried, pass-tried, rounds-tried, strictly-tried, summaries-are, tried-under}
use Rattle.solve_laws.proofs.MovingLaws.{moves, own-apart, own-none}
use Rattle.solve_laws.proofs.PassLaws.{InductiveTogether, all-settle}
use Rattle.solve_laws.proofs.TaskLaws.{empty-are-own, none-are-own, task-with, tasks-with}
use Rattle.solve_laws.proofs.TrialLaws.{standing-both, standing-certs, standing-few, standing-one_each, standing-specs, standing-weaker}
use Rattle.solve_laws.proofs.TrialLaws.{zip-at, zip-length, zip-others, zip-stand, zip-weaker}

-- ---- few, and reasons: of any key

module _ (few_found : CandidatesAreFew) (done_small : DoneIsSmall) (key : Key) where
  abbrev Small : Flow → Spec → Cert → Type 0
  Small flow spec cert = IsSmallCert cert

  small-keeps : Keeps key (λ flow. Unit {0}) (λ specs. Unit {0}) (λ flow pre. Unit {0}) Small
  small-keeps = record {
    flows = λ k d below. tt;
    none = tt;
    first = tt;
    table = λ attempts all. tt;
    found = λ specs cut flow good fine k d below. tt;
    again = λ flow spec cert is. tt;
    done =
        λ specs cut flow good fine pre holds posts cert is.
        (done_small (task_under key (table_with key specs cut) flow) pre posts cert is).1;
  }

  all-small : (P : Flow → ProcSummary → Type 0) → ((flow : Flow) (one : Attempt) → IsTried Small flow one → P flow (summary_of flow one)) →
      ((flow : Flow) → P flow (without_specs flow)) →
      AllZip P key.procs (summaries_by key.recursive key)
  all-small P summed blank =
      summaries-are few_found key (λ flow. Unit {0}) (λ specs. Unit {0})
      (λ flow pre. Unit {0}) Small small-keeps P summed blank key.recursive

  few-specs : (one : Attempt) → length one.trials ≤ MOST_CANDIDATES → length (specs_in one) ≤ MOST_CANDIDATES
  few-specs one few = let fewer = standing-few one.trials in omega (arith, few, fewer)

  small-summaries : All IsSmallSummary (summaries_by key.recursive key)
  small-summaries =
      zip-others IsSmallSummary key.procs (summaries_by key.recursive key)
      (all-small (λ flow summary. IsSmallSummary summary)
      (λ flow one is. record { specs = few-specs one is.few; certs = standing-certs IsSmallCert one.trials is.stand })
      (λ flow. record { specs = omega arith; certs = All-nil IsSmallCert }))

  -- where nothing stands, something is told
  told : (found : Found) (trials : List Trial) → filter_map attempts.spec_of trials ≡ [] → IsSome (why_none found trials)
  told found [] none = refl
  told found (Fell why ∷ trials) none = refl
  told found (Stands spec cert ∷ trials) none = let never : ◌≡◌ {A = List Spec} (spec ∷ filter_map attempts.spec_of trials) [] = none in cc

  summary-told : (flow : Flow) (one : Attempt) → HasReason (summary_of flow one)
  summary-told flow one none = by_specs (specs_in one) none (told one.found one.trials none)
    where
      by_specs : (specs : List Spec) → specs ≡ [] → IsSome (why_none one.found one.trials) → IsSome (attempts.reason_of one specs)
      by_specs [] none some = some
      by_specs (spec ∷ specs) none some = let never : ◌≡◌ {A = List Spec} (spec ∷ specs) [] = none in cc

  told-summaries : All HasReason (summaries_by key.recursive key)
  told-summaries =
      zip-others HasReason key.procs (summaries_by key.recursive key)
      (all-small (λ flow summary. HasReason summary) (λ flow one is. summary-told flow one) (λ flow none. refl))

-- ---- specs that stand

module _ (key : Key) where
  are-specs : (flow : Flow) (one : Attempt) → IsTried (IsFormed key.structs) flow one → AreSpecs key.structs flow (specs_in one)
  are-specs flow one is =
      let fewer = standing-few one.trials in
      let few = is.few in record {
        few = omega (arith, few, fewer);
        each = standing-specs (IsSpec analysable key.structs (length flow.params)) one.trials
            (standing-weaker (IsFormed key.structs flow) (λ spec cert. IsSpec analysable key.structs (length flow.params) spec)
            (λ spec cert both. both.0) one.trials is.stand);
      }

  own-formed : (flows : List Flow) (ones : List Attempt) → AllZip (IsTried (IsFormed key.structs)) flows ones →
      AreOwnSpecs key.structs flows (specs_of ones)
  own-formed [] [] all = tt
  own-formed [] (one ∷ ones) all = absurd all
  own-formed (flow ∷ flows) [] all = absurd all
  own-formed (flow ∷ flows) (one ∷ ones) all = (are-specs flow one all.0, own-formed flows ones all.1)

-- ---- well formed, and inductive: of a well-formed key

module _ (few_found : CandidatesAreFew) (found_formed : CandidatesAreWellFormed) (done_formed : DoneIsWellFormed) (key : Key)
    (is_key : IsKey analysable key) where
  abbrev Formed : Flow → Spec → Cert → Type 0
  Formed = IsFormed key.structs

  abbrev Own : List (List Spec) → Type 0
  Own specs = AreOwnSpecs key.structs key.procs specs

  abbrev IsMember : Flow → Type 0
  IsMember = Contains key.procs

  abbrev FormedPre : Flow → SymHeap → Type 0
  FormedPre flow pre = IsSymHeap analysable key.structs (length flow.params) pre

  formed-keeps : Keeps key IsMember Own FormedPre Formed
  formed-keeps = record {
    flows = All-contains_itself key.procs;
    none = none-are-own key.structs key.procs;
    first = empty-are-own key.structs key.procs;
    table = own-formed key key.procs;
    found =
        λ specs cut flow good stands. found_formed (task_under key (table_with key specs cut) flow)
        (task-with key is_key specs cut flow good stands);
    again = λ flow spec cert is. is.0.pre;
    done = λ specs cut flow good stands pre holds posts cert is.
        done_formed (task_under key (table_with key specs cut) flow) pre posts cert
        (task-with key is_key specs cut flow good stands) holds is;
  }

  all-formed : AllZip (IsSummary analysable key.structs) key.procs (summaries_by key.recursive key)
  all-formed =
      summaries-are few_found key IsMember Own FormedPre Formed formed-keeps (IsSummary analysable key.structs) summed blank key.recursive
    where
      summed : (flow : Flow) (one : Attempt) → IsTried Formed flow one → IsSummary analysable key.structs flow (summary_of flow one)
      summed flow one is =
          let are = are-specs key flow one is in record {
            name = refl;
            few = are.few;
            specs = are.each;
            one_each = standing-one_each one.trials;
            certs = standing-certs (IsCert analysable key.structs flow) one.trials
                (standing-weaker (Formed flow) (λ spec cert. IsCert analysable key.structs flow cert)
                (λ spec cert both. both.1) one.trials is.stand);
          }

      blank : (flow : Flow) → IsSummary analysable key.structs flow (without_specs flow)
      blank flow = record {
        name = refl;
        few = omega arith;
        specs = All-nil (IsSpec analysable key.structs (length flow.params));
        one_each = refl;
        certs = All-nil (IsCert analysable key.structs flow);
      }

  answer-formed : (stored : Bool) → IsAnswer analysable key (record { stored = stored; procs = summaries_by key.recursive key })
  answer-formed stored = record {
    one_each = zip-length (IsSummary analysable key.structs) key.procs (summaries_by key.recursive key) all-formed;
    each = zip-at (IsSummary analysable key.structs) key.procs (summaries_by key.recursive key) all-formed;
  }

  -- ---- inductive

  module _ (done_inductive : DoneIsInductive) where
    -- not recursive: without own specs
    abbrev alone : Flow → Task
    alone flow = task_under key (table_with key [] false) flow

    alone-among : (flows : List Flow) → All IsMember flows →
        AllZip (λ flow one. AllStanding (IsInductiveCert (alone flow)) one.trials) flows (map (λ flow. attempt (alone flow)) flows)
    alone-among [] stand = tt
    alone-among (flow ∷ flows) stand =
        let good : IsTask (alone flow) =
        task-with key is_key [] false flow (none-are-own key.structs key.procs) (All-head IsMember flow flows stand) in (
          all-tried (IsInductiveCert (alone flow)) (FormedPre flow) (alone flow)
              (λ pre holds posts cert is. done_inductive (alone flow) pre posts cert good holds is)
              (candidates (alone flow)).pres (found_formed (alone flow) good),
          alone-among flows (All-tail IsMember flow flows stand),
        )

    -- so with any of them
    joined : (specs : List (List Spec)) (flow : Flow) (spec : Spec) (cert : Cert) → IsInductiveCert (alone flow) spec cert →
        IsInductiveCert (task_under key (table_with key specs false) flow) spec cert
    joined specs flow spec cert is =
        moves flow key.structs (own_with key.procs specs) key.callees
        (λ name callee found. own-apart key.callees name callee key.procs specs is_key.apart found) key.recursive spec cert
        (subst (λ own. IsInductiveCert (task_under key (record { own = own; outer = key.callees; cut = false }) flow) spec cert)
        (own-none key.procs) is)

    alone-together : InductiveTogether key (attempts_under key (table_with key [] false))
    alone-together =
        let ones : List Attempt = attempts_under key (table_with key [] false) in
        zip-weaker (λ flow one. AllStanding (IsInductiveCert (alone flow)) one.trials)
        (λ flow one. AllStanding (IsInductiveCert (task_under key (table_with key (specs_of ones) false) flow)) one.trials)
        (λ flow one all. standing-weaker (IsInductiveCert (alone flow))
        (IsInductiveCert (task_under key (table_with key (specs_of ones) false) flow)) (joined (specs_of ones) flow) one.trials all)
        key.procs ones (alone-among key.procs (All-contains_itself key.procs))

    -- the table of an answer is that of what stands
    own-same : (flows : List Flow) (ones : List Attempt) → own_callees flows (summaries_of flows ones) ≡ own_with flows (specs_of ones)
    own-same [] ones = refl
    own-same (flow ∷ flows) [] = refl
    own-same (flow ∷ flows) (one ∷ ones) =
        ap (λ own. record { name = flow.name; params = flow.params; specs = specs_in one } ∷ own) (own-same flows ones)

    -- each summary is inductive under the table of an answer
    abbrev AllInductive : List ProcSummary → Type 0
    AllInductive procs =
        AllZip (λ flow summary. IsInductiveSummary (task_of key (record { stored = false; procs = procs }) flow) summary) key.procs procs

    summed-inductive : (table : Table) (flows : List Flow) (ones : List Attempt) →
        AllZip (λ flow one. AllStanding (IsInductiveCert (task_under key table flow)) one.trials) flows ones →
        AllZip (λ flow summary. IsInductiveSummary (task_under key table flow) summary) flows (summaries_of flows ones)
    summed-inductive table [] [] all = tt
    summed-inductive table [] (one ∷ ones) all = absurd all
    summed-inductive table (flow ∷ flows) [] all = absurd all
    summed-inductive table (flow ∷ flows) (one ∷ ones) all =
        (standing-both (IsInductiveCert (task_under key table flow)) one.trials all.0, summed-inductive table flows ones all.1)

    together-inductive : (ones : List Attempt) → InductiveTogether key ones → AllInductive (summaries_of key.procs ones)
    together-inductive ones all =
        subst (λ own. AllZip
        (λ flow summary. IsInductiveSummary
        (task_under key (record { own = own; outer = key.callees; cut = false }) flow) summary) key.procs (summaries_of key.procs ones))
        (sym (own-same key.procs ones)) (summed-inductive (table_with key (specs_of ones) false) key.procs ones all)

    blank-inductive : (procs : List ProcSummary) (flows : List Flow) →
        AllZip (λ flow summary. IsInductiveSummary (task_of key (record { stored = false; procs = procs }) flow) summary) flows
        (map without_specs flows)
    blank-inductive procs [] = tt
    blank-inductive procs (flow ∷ flows) =
        (λ at spec cert stand. let never : ◌≡◌ {A = Option Spec} None (Some spec) = stand.0 in cc, blank-inductive procs flows)

    abbrev Tried : List Attempt → Type 0
    Tried ones = AreTried few_found key IsMember Own FormedPre Formed formed-keeps ones

    rounds-inductive : (found : Option (List Attempt)) → IfSome found Tried → AllInductive (after_rounds key found)
    rounds-inductive None all = blank-inductive (map without_specs key.procs) key.procs
    rounds-inductive (Some ones) all =
        together-inductive (all_passes key (strictly key ones))
        (all-settle key (IsTried Formed) (pass-tried few_found key IsMember Own FormedPre Formed formed-keeps) (strictly key ones)
        (strictly-tried few_found key IsMember Own FormedPre Formed formed-keeps ones all))

    all-inductive : (recursive : Bool) → AllInductive (summaries_by recursive key)
    all-inductive true =
        rounds-inductive (rounds MOST_ROUNDS key (no_specs key))
        (rounds-tried few_found key IsMember Own FormedPre Formed formed-keeps MOST_ROUNDS (no_specs key) formed-keeps.first)
    all-inductive false = together-inductive (attempts_under key (table_with key [] false)) alone-together

    inductive : Inductive key (record { stored = false; procs = summaries_by key.recursive key })
    inductive = record {
      is_key = limits.key_widens analysable widest key limits.storable_is_analysable.1 is_key;
      is_answer =
          limits.answer_widens analysable widest key
          (record { stored = false; procs = summaries_by key.recursive key }) limits.storable_is_analysable.1 (answer-formed false);
      specs = λ flow summary stand.
          zip-stand (λ flow summary. IsInductiveSummary
          (task_of key (record { stored = false; procs = summaries_by key.recursive key }) flow) summary) key.procs
          (summaries_by key.recursive key)
          (all-inductive key.recursive) stand.0 flow summary stand.1;
    }

-- ---- the laws

pub solved_is_inductive : CandidatesAreFew → CandidatesAreWellFormed → DoneIsWellFormed → DoneIsInductive → SolvedIsInductive
unfolding solve
solved_is_inductive few_found found_formed done_formed done_inductive key is_key =
    inductive few_found found_formed done_formed key is_key done_inductive

pub solved_is_well_formed : CandidatesAreFew → CandidatesAreWellFormed → DoneIsWellFormed → SolvedIsWellFormed
unfolding solve
solved_is_well_formed few_found found_formed done_formed key is_key = answer-formed few_found found_formed done_formed key is_key false

pub solved_is_few : CandidatesAreFew → DoneIsSmall → SolvedIsFew
unfolding solve
solved_is_few few_found done_small key = small-summaries few_found done_small key

pub solved_has_reasons : CandidatesAreFew → DoneIsSmall → SolvedHasReasons
unfolding solve
solved_has_reasons few_found done_small key = told-summaries few_found done_small key

pub specs_fit_keys : SpecsFitKeys
specs_fit_keys key =
    record { none = none-are-own key.structs key.procs; empty = empty-are-own key.structs key.procs; standing = own-formed key key.procs }

pub tasks_are_well_formed : TasksAreWellFormed
tasks_are_well_formed key specs cut is_key fit = tasks-with key is_key specs cut fit

pub standing_is_well_formed : CandidatesAreFew → CandidatesAreWellFormed → DoneIsWellFormed → StandingIsWellFormed
standing_is_well_formed few_found found_formed done_formed key specs cut is_key fit =
    tried-under few_found key (Contains key.procs) (FitKey key) (λ flow pre. IsSymHeap analysable key.structs (length flow.params) pre)
    (IsFormed key.structs)
    (formed-keeps few_found found_formed done_formed key is_key) specs cut fit

pub standing_stays_well_formed : CandidatesAreFew → CandidatesAreWellFormed → DoneIsWellFormed → StandingStaysWellFormed
standing_stays_well_formed few_found found_formed done_formed key attempts is_key all =
    let keeps = formed-keeps few_found found_formed done_formed key is_key in (
      strictly-tried few_found key (Contains key.procs) (FitKey key) (λ flow pre. IsSymHeap analysable key.structs (length flow.params) pre)
          (IsFormed key.structs) keeps attempts all,
      pass-tried few_found key (Contains key.procs) (FitKey key) (λ flow pre. IsSymHeap analysable key.structs (length flow.params) pre)
          (IsFormed key.structs) keeps attempts all,
    )
