-- A pass that drops nothing shows that all that stands is inductive under the table of it; and among as many passes as there are specs
-- there is such a one, or nothing stands.
use Rattle.std.specs.Prelude.{◌≡◌, ℕ, zero, suc, ◌+◌, ◌≤◌, Bool, true, false, cond, ◌==◌, List, [], ◌∷◌, filter_map, flat_map, length, map}
use Rattle.std.specs.List.{AllZip}
use Rattle.std.specs.declared.option.Option.{Option}
use Rattle.std.specs.declared.option.Option.TheVariants.{None, Some}
use Rattle.std.proofs.Common.{refl, sym, ap, subst, arith}
use Rattle.std.proofs.lemmas.Bool.{eqb-false, eqb-true}
use Rattle.std.proofs.lemmas.List.{length-append}
use Rattle.shape_data.specs.declared.answer.Key.{Key}
use Rattle.shape_data.specs.declared.program.Flow.{Flow}
use Rattle.exec_laws.specs.declared.parts.Table.{Table}
use Rattle.solve_laws.specs.declared.certificates.parts.SpecGap.{SpecGap}
use Rattle.solve_laws.specs.Certificates.Coming.{Task}
use Rattle.solve_laws.specs.Certificates.Gaps.{spec_gap}
use Rattle.solve_laws.specs.Certificates.Inductive.{IsInductiveCert}
use Rattle.solve_laws.proofs.CertificatesLemmas.GapLaws.{no_spec_gap}
use Rattle.solve_laws.specs.declared.parts.Attempt.{Attempt}
use Rattle.solve_laws.specs.declared.parts.Trial.{Trial}
use Rattle.solve_laws.specs.declared.parts.Trial.TheVariants.{Fell, Stands}
use Rattle.solve_laws.specs.Attempts.{count_of, spec_of, specs_in, specs_of}
use Rattle.solve_laws.specs.Solving.{again_with, all_passes, attempt_again, attempts_again, checked_again, pass, passes, unless_gap}
use Rattle.solve_laws.specs.Tables.{table_with, task_under}
use Rattle.solve_laws.specs.Standing.{AllStanding}
use Rattle.solve_laws.proofs.TrialLaws.{standing-none}

-- no more are left than there were; where all are left, something holds
record Leaves (left were : ℕ) (Q : Type 0) : Type 0 where
  fewer : left ≤ were
  all : left ≡ were → Q

fall : (now before limit : ℕ) → now ≤ before → (now ≡ before → ⊥) → before ≤ suc limit → now ≤ limit
fall now before limit fewer other few = grind (arith, fewer, other, few)

-- ---- a procedure

module _ (task : Task) where
  abbrev again : Trial → Trial
  again trial = again_with checked_again task trial

  -- the same specs are left, and what stands is inductive
  abbrev Settled : List Trial → Type 0
  Settled trials = (filter_map spec_of (map again trials) ≡ filter_map spec_of trials)
      × AllStanding (IsInductiveCert task) (map again trials)

  trials-leave : (trials : List Trial) →
      Leaves (length (filter_map spec_of (map again trials))) (length (filter_map spec_of trials)) (Settled trials)
  trials-leave [] = record { fewer = omega arith; all = λ same. (refl, tt) }
  trials-leave (Fell why ∷ trials) =
      let rest =
      trials-leave trials in record { fewer = rest.fewer; all = λ same. let settled = rest.all same in (settled.0, (tt, settled.1)) }
  trials-leave (Stands spec cert ∷ trials) = by_gap (spec_gap task spec cert) refl (trials-leave trials)
    where
      by_gap : (gap : Option SpecGap) → spec_gap task spec cert ≡ gap →
          Leaves (length (filter_map spec_of (map again trials))) (length (filter_map spec_of trials)) (Settled trials) →
          Leaves (length (filter_map spec_of (unless_gap spec cert gap ∷ map again trials))) (suc (length (filter_map spec_of trials)))
          ((filter_map spec_of (unless_gap spec cert gap ∷ map again trials) ≡ spec ∷ filter_map spec_of trials)
          × AllStanding (IsInductiveCert task) (unless_gap spec cert gap ∷ map again trials))
      by_gap None is rest =
          let fewer = rest.fewer in record {
            fewer = omega (arith, fewer);
            all =
                λ same. let settled =
                rest.all (omega (arith, same)) in (ap (λ specs. spec ∷ specs) settled.0, ((no_spec_gap task spec cert).0 is, settled.1));
          }
      by_gap (Some gap) is rest =
          let fewer = rest.fewer in record { fewer = omega (arith, fewer); all = λ same. absurd (omega (arith, fewer, same)) }

-- ---- all procedures

module _ (key : Key) where
  -- what stands is inductive under a table
  abbrev InductiveUnder : Table → List Flow → List Attempt → Type 0
  InductiveUnder table flows attempts =
      AllZip (λ flow one. AllStanding (IsInductiveCert (task_under key table flow)) one.trials) flows attempts

  -- under the table of itself
  abbrev pub InductiveTogether : List Attempt → Type 0
  InductiveTogether attempts = InductiveUnder (table_with key (specs_of attempts) false) key.procs attempts

  module _ (P : Flow → Attempt → Type 0) where
    nothing-stands : (table : Table) (flows : List Flow) (attempts : List Attempt) → AllZip P flows attempts → count_of attempts ≡ 0 →
        InductiveUnder table flows attempts
    nothing-stands table [] [] all none = tt
    nothing-stands table [] (one ∷ attempts) all none = absurd all
    nothing-stands table (flow ∷ flows) [] all none = absurd all
    nothing-stands table (flow ∷ flows) (one ∷ attempts) all none =
        let sum : count_of (one ∷ attempts) ≡ length (specs_in one) + count_of attempts =
        length-append (specs_in one) (flat_map specs_in attempts) in (
          standing-none (IsInductiveCert (task_under key table flow)) one.trials (omega (arith, none, sum)),
          nothing-stands table flows attempts all.1 (omega (arith, none, sum)),
        )

    abbrev passed : Table → List Flow → List Attempt → List Attempt
    passed table flows attempts = attempts_again checked_again key table flows attempts

    attempts-leave : (table : Table) (flows : List Flow) (attempts : List Attempt) → AllZip P flows attempts →
        Leaves (count_of (passed table flows attempts)) (count_of attempts)
        ((specs_of (passed table flows attempts) ≡ specs_of attempts) × InductiveUnder table flows (passed table flows attempts))
    attempts-leave table [] [] all = record { fewer = omega arith; all = λ same. (refl, tt) }
    attempts-leave table [] (one ∷ attempts) all = absurd all
    attempts-leave table (flow ∷ flows) [] all = absurd all
    attempts-leave table (flow ∷ flows) (one ∷ attempts) all =
        let task : Task = task_under key table flow in
        let first = trials-leave task one.trials in
        let rest = attempts-leave table flows attempts all.1 in
        let first_fewer = first.fewer in
        let rest_fewer = rest.fewer in
        let were : count_of (one ∷ attempts) ≡ length (specs_in one) + count_of attempts =
        length-append (specs_in one) (flat_map specs_in attempts) in
        let left : count_of (passed table (flow ∷ flows) (one ∷ attempts))
        ≡ length (specs_in (attempt_again checked_again task one)) + count_of (passed table flows attempts) =
        length-append (specs_in (attempt_again checked_again task one)) (flat_map specs_in (passed table flows attempts)) in
        record {
          fewer = omega (arith, first_fewer, rest_fewer, were, left);
          all = λ same.
              let here = first.all (omega (arith, first_fewer, rest_fewer, were, left, same)) in
              let later = rest.all (omega (arith, first_fewer, rest_fewer, were, left, same)) in
              (λ i. here.0 i ∷ later.0 i, (here.1, later.1));
        }

    module _ (kept : (attempts : List Attempt) → AllZip P key.procs attempts → AllZip P key.procs (pass key attempts)) where
      passes-settle : (left : ℕ) (attempts : List Attempt) → AllZip P key.procs attempts → count_of attempts ≤ left →
          InductiveTogether (passes left key attempts)
      passes-settle zero attempts all few =
          nothing-stands (table_with key (specs_of attempts) false) key.procs attempts all (omega (arith, few))
      passes-settle (suc left) attempts all few =
          by_count (count_of (pass key attempts) == count_of attempts) refl
          (attempts-leave (table_with key (specs_of attempts) false) key.procs attempts all)
          (passes-settle left (pass key attempts) (kept attempts all))
        where
          by_count : (b : Bool) → (count_of (pass key attempts) == count_of attempts) ≡ b →
              Leaves (count_of (pass key attempts)) (count_of attempts)
              ((specs_of (pass key attempts) ≡ specs_of attempts)
              × InductiveUnder (table_with key (specs_of attempts) false) key.procs (pass key attempts)) →
              (count_of (pass key attempts) ≤ left → InductiveTogether (passes left key (pass key attempts))) →
              InductiveTogether (cond b (pass key attempts) (passes left key (pass key attempts)))
          by_count true is leaves later =
              let settled = leaves.all (eqb-true (count_of (pass key attempts)) (count_of attempts) is) in
              subst (λ specs. InductiveUnder (table_with key specs false) key.procs (pass key attempts)) (sym settled.0) settled.1
          by_count false is leaves later =
              let fewer = leaves.fewer in
              let other = eqb-false (count_of (pass key attempts)) (count_of attempts) is in
              later (fall (count_of (pass key attempts)) (count_of attempts) left fewer other few)

      pub all-settle : (attempts : List Attempt) → AllZip P key.procs attempts → InductiveTogether (all_passes key attempts)
      all-settle attempts all = passes-settle (count_of attempts) attempts all (omega arith)
