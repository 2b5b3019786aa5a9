-- What every annotation gives holds of all that stands, through rounds, strict annotation and passes.
use Rattle.std.specs.Prelude.{◌≡◌, ℕ, zero, suc, ◌≤◌, Bool, true, false, cond, ◌==◌, List, [], ◌∷◌, length, map, All, IfSome}
use Rattle.std.specs.List.{AllZip}
use Rattle.std.specs.declared.option.Option.{Option}
use Rattle.std.specs.declared.option.Option.TheVariants.{None, Some}
use Rattle.std.proofs.Common.{refl}
use Rattle.std.proofs.lemmas.List.{length-map}
use Rattle.std.proofs.lemmas.List.Elements.{All-head, All-map, All-tail, All-weaker, recursion_from_All}
use Rattle.shape_data.specs.declared.answer.Key.{Key}
use Rattle.shape_data.specs.declared.answer.ProcSummary.{ProcSummary}
use Rattle.shape_data.specs.declared.program.Flow.{Flow}
use Rattle.shape_data.specs.declared.symbolic.Cert.{Cert}
use Rattle.shape_data.specs.declared.symbolic.Post.{Post}
use Rattle.shape_data.specs.declared.symbolic.Spec.{Spec}
use Rattle.shape_data.specs.declared.symbolic.SymHeap.{SymHeap}
use Rattle.exec_laws.specs.declared.parts.Table.{Table}
use Rattle.solve_laws.specs.declared.certificates.parts.SpecGap.{SpecGap}
use Rattle.solve_laws.specs.Certificates.Coming.{Task}
use Rattle.solve_laws.specs.Certificates.Gaps.{spec_gap}
use Rattle.solve_laws.specs.declared.annotation.parts.Annotated.{Annotated}
use Rattle.solve_laws.specs.declared.annotation.parts.Annotated.TheVariants.{Done, Fail, Spent}
use Rattle.solve_laws.specs.Annotation.Annotation.{annotate}
use Rattle.solve_laws.specs.Annotation.Laws.{spec_of}
use Rattle.solve_laws.specs.Candidates.Candidates.{candidates}
use Rattle.solve_laws.specs.Candidates.Laws.{CandidatesAreFew}
use Rattle.solve_laws.specs.Candidates.Searching.{MOST_CANDIDATES}
use Rattle.solve_laws.specs.declared.parts.Attempt.{Attempt}
use Rattle.solve_laws.specs.declared.parts.Trial.{Trial}
use Rattle.solve_laws.specs.declared.parts.Trial.TheVariants.{Fell, Stands}
use Rattle.solve_laws.specs.Attempts.{attempt, count_of, specs_of, summaries_of, summary_of, trial_of, try}
use Rattle.solve_laws.specs.Solving.{after_rounds, again_with, all_passes, annotated_again, attempts_again, attempts_under, checked_again}
use Rattle.solve_laws.specs.Solving.{no_specs, pass, passes, round, rounds, strictly, summaries_by, unless_gap, without_specs, MOST_ROUNDS}
use Rattle.solve_laws.specs.Tables.{same_specs, table_with, task_under}
use Rattle.solve_laws.specs.Standing.{AllStanding, IsTried, OfStanding}

-- what is annotated under tables such as come up is such
pub record Keeps (key : Key) (F : Flow → Type 0) (T : List (List Spec) → Type 0) (H : Flow → SymHeap → Type 0)
    (Q : Flow → Spec → Cert → Type 0) : Type 0 where
  -- the procedures, and the tables: that without own specs, the first of the rounds, and what stands
  pub flows : All F key.procs
  pub none : T []
  pub first : T (no_specs key)
  pub table : (attempts : List Attempt) → AllZip (IsTried Q) key.procs attempts → T (specs_of attempts)
  -- preconditions
  pub found : (specs : List (List Spec)) (cut : Bool) (flow : Flow) → T specs → F flow →
      All (H flow) (candidates (task_under key (table_with key specs cut) flow)).pres
  pub again : (flow : Flow) (spec : Spec) (cert : Cert) → Q flow spec cert → H flow spec.pre
  -- what is done
  pub done : (specs : List (List Spec)) (cut : Bool) (flow : Flow) → T specs → F flow → (pre : SymHeap) → H flow pre →
      (posts : List Post) (cert : Cert) →
      annotate (task_under key (table_with key specs cut) flow) pre ≡ Done posts cert → Q flow (spec_of pre posts) cert

-- what is done with a precondition is such: then so is what stands of its trial
pub tried-stands : (P : Spec → Cert → Type 0) (task : Task) (pre : SymHeap) →
    ((posts : List Post) (cert : Cert) → annotate task pre ≡ Done posts cert → P (spec_of pre posts) cert) →
    OfStanding P (try task pre)
tried-stands P task pre done = by_end (annotate task pre) done
  where
    by_end : (annotated : Annotated) → ((posts : List Post) (cert : Cert) → annotated ≡ Done posts cert → P (spec_of pre posts) cert) →
        OfStanding P (trial_of pre annotated)
    by_end (Done posts cert) done = done posts cert refl
    by_end (Fail cause line) done = tt
    by_end (Spent what count) done = tt

-- the trials of all candidates
pub all-tried : (P : Spec → Cert → Type 0) (H : SymHeap → Type 0) (task : Task) →
    ((pre : SymHeap) → H pre → (posts : List Post) (cert : Cert) → annotate task pre ≡ Done posts cert → P (spec_of pre posts) cert) →
    (pres : List SymHeap) → All H pres → AllStanding P (map (try task) pres)
all-tried P H task done pres all =
    recursion_from_All (OfStanding P) (map (try task) pres)
    (All-map (OfStanding P) (try task) pres
    (All-weaker H (λ pre. OfStanding P (try task pre)) (λ pre holds. tried-stands P task pre (done pre holds)) pres all))

module _ (few_found : CandidatesAreFew) where
  pub few-tried : (task : Task) → length (attempt task).trials ≤ MOST_CANDIDATES
  few-tried task =
      let as_many : length (attempt task).trials ≡ length (candidates task).pres = length-map (candidates task).pres (try task) in
      let few : length (candidates task).pres ≤ MOST_CANDIDATES = few_found task in
      rw as_many few

  module _ (key : Key) (F : Flow → Type 0) (T : List (List Spec) → Type 0) (H : Flow → SymHeap → Type 0) (Q : Flow → Spec → Cert → Type 0)
      (keeps : Keeps key F T H Q) where
    -- each procedure's attempt is such
    abbrev pub AreTried : List Attempt → Type 0
    AreTried attempts = AllZip (IsTried Q) key.procs attempts

    -- ---- annotation under a table

    module _ (specs : List (List Spec)) (cut : Bool) (good : T specs) where
      under : (flows : List Flow) → All F flows →
          AllZip (IsTried Q) flows (map (λ flow. attempt (task_under key (table_with key specs cut) flow)) flows)
      under [] fine = tt
      under (flow ∷ flows) fine =
          let here : F flow = All-head F flow flows fine in
          let task : Task = task_under key (table_with key specs cut) flow in (
            record {
              few = few-tried task;
              stand =
                  all-tried (Q flow) (H flow) task (keeps.done specs cut flow good here) (candidates task).pres
                  (keeps.found specs cut flow good here);
            },
            under flows (All-tail F flow flows fine),
          )

      pub tried-under : AreTried (attempts_under key (table_with key specs cut))
      tried-under = under key.procs keeps.flows

    -- ---- what stands is tested again

    module _ (test : Task → Spec → Cert → Trial) (table : Table)
        (holds : (flow : Flow) → F flow → (spec : Spec) (cert : Cert) → Q flow spec cert →
        OfStanding (Q flow) (test (task_under key table flow) spec cert)) where
      trials-again : (flow : Flow) → F flow → (trials : List Trial) → AllStanding (Q flow) trials →
          AllStanding (Q flow) (map (again_with test (task_under key table flow)) trials)
      trials-again flow fine [] all = tt
      trials-again flow fine (Stands spec cert ∷ trials) all = (holds flow fine spec cert all.0, trials-again flow fine trials all.1)
      trials-again flow fine (Fell why ∷ trials) all = (tt, trials-again flow fine trials all.1)

      again-among : (flows : List Flow) (attempts : List Attempt) → All F flows → AllZip (IsTried Q) flows attempts →
          AllZip (IsTried Q) flows (attempts_again test key table flows attempts)
      again-among [] [] fine all = tt
      again-among [] (one ∷ attempts) fine all = absurd all
      again-among (flow ∷ flows) [] fine all = absurd all
      again-among (flow ∷ flows) (one ∷ attempts) fine all =
          let as_many : length (map (again_with test (task_under key table flow)) one.trials) ≡ length one.trials =
          length-map one.trials (again_with test (task_under key table flow)) in (
            record { few = rw as_many all.0.few; stand = trials-again flow (All-head F flow flows fine) one.trials all.0.stand },
            again-among flows attempts (All-tail F flow flows fine) all.1,
          )

    pub strictly-tried : (attempts : List Attempt) → AreTried attempts → AreTried (strictly key attempts)
    strictly-tried attempts all =
        again-among annotated_again (table_with key (specs_of attempts) false) holds key.procs attempts keeps.flows all
      where
        good : T (specs_of attempts)
        good = keeps.table attempts all

        holds : (flow : Flow) → F flow → (spec : Spec) (cert : Cert) → Q flow spec cert →
            OfStanding (Q flow) (try (task_under key (table_with key (specs_of attempts) false) flow) spec.pre)
        holds flow fine spec cert is =
            tried-stands (Q flow) (task_under key (table_with key (specs_of attempts) false) flow) spec.pre
            (keeps.done (specs_of attempts) false flow good fine spec.pre (keeps.again flow spec cert is))

    pub pass-tried : (attempts : List Attempt) → AreTried attempts → AreTried (pass key attempts)
    pass-tried attempts all =
        again-among checked_again (table_with key (specs_of attempts) false)
        (λ flow fine spec cert is. by_gap flow spec cert
        (spec_gap (task_under key (table_with key (specs_of attempts) false) flow) spec cert) is) key.procs attempts keeps.flows all
      where
        by_gap : (flow : Flow) (spec : Spec) (cert : Cert) (gap : Option SpecGap) → Q flow spec cert →
            OfStanding (Q flow) (unless_gap spec cert gap)
        by_gap flow spec cert None is = is
        by_gap flow spec cert (Some gap) is = tt

    passes-tried : (left : ℕ) (attempts : List Attempt) → AreTried attempts → AreTried (passes left key attempts)
    passes-tried zero attempts all = all
    passes-tried (suc left) attempts all =
        by_count (count_of (pass key attempts) == count_of attempts) (pass-tried attempts all)
        (passes-tried left (pass key attempts) (pass-tried attempts all))
      where
        by_count : (b : Bool) → AreTried (pass key attempts) → AreTried (passes left key (pass key attempts)) →
            AreTried (cond b (pass key attempts) (passes left key (pass key attempts)))
        by_count true here later = here
        by_count false here later = later

    pub all_passes-tried : (attempts : List Attempt) → AreTried attempts → AreTried (all_passes key attempts)
    all_passes-tried attempts all = passes-tried (count_of attempts) attempts all

    -- ---- rounds

    pub rounds-tried : (left : ℕ) (before : List (List Spec)) → T before → IfSome (rounds left key before) AreTried
    rounds-tried zero before good = tt
    rounds-tried (suc left) before good =
        let made : AreTried (round key before) = tried-under before true good in
        by_same (same_specs (specs_of (round key before)) before) made
        (rounds-tried left (specs_of (round key before)) (keeps.table (round key before) made))
      where
        by_same : (b : Bool) → AreTried (round key before) → IfSome (rounds left key (specs_of (round key before))) AreTried →
            IfSome (cond b (Some (round key before)) (rounds left key (specs_of (round key before)))) AreTried
        by_same true made later = made
        by_same false made later = later

    -- ---- summaries

    module _ (P : Flow → ProcSummary → Type 0) (summed : (flow : Flow) (one : Attempt) → IsTried Q flow one → P flow (summary_of flow one))
        (blank : (flow : Flow) → P flow (without_specs flow)) where
      summaries-among : (flows : List Flow) (attempts : List Attempt) → AllZip (IsTried Q) flows attempts →
          AllZip P flows (summaries_of flows attempts)
      summaries-among [] [] all = tt
      summaries-among [] (one ∷ attempts) all = absurd all
      summaries-among (flow ∷ flows) [] all = absurd all
      summaries-among (flow ∷ flows) (one ∷ attempts) all = (summed flow one all.0, summaries-among flows attempts all.1)

      blanks : (flows : List Flow) → AllZip P flows (map without_specs flows)
      blanks [] = tt
      blanks (flow ∷ flows) = (blank flow, blanks flows)

      by-rounds : (found : Option (List Attempt)) → IfSome found AreTried → AllZip P key.procs (after_rounds key found)
      by-rounds None all = blanks key.procs
      by-rounds (Some attempts) all =
          summaries-among key.procs (all_passes key (strictly key attempts))
          (all_passes-tried (strictly key attempts) (strictly-tried attempts all))

      pub summaries-are : (recursive : Bool) → AllZip P key.procs (summaries_by recursive key)
      summaries-are true = by-rounds (rounds MOST_ROUNDS key (no_specs key)) (rounds-tried MOST_ROUNDS (no_specs key) keeps.first)
      summaries-are false = summaries-among key.procs (attempts_under key (table_with key [] false)) (tried-under [] false keeps.none)
