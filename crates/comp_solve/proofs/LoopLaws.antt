-- The turns of the rounds and of the passes: what is left of them gives the same.
use Rattle.std.specs.Prelude.{◌≡◌, ℕ, suc, ◌+◌, ◌-◌, ◌<◌, ◌≤◌, true, false, ◌==◌, List}
use Rattle.std.specs.declared.option.Option.{Option}
use Rattle.std.specs.declared.option.Option.TheVariants.{None, Some}
use Rattle.std.proofs.Common.{sym, ap, ◌∙◌, arith, eq-eqb}
use Rattle.std.proofs.lemmas.Bool.{cond-false, cond-true, ne_eqb}
use Rattle.shape_data.specs.declared.answer.Key.{Key}
use Rattle.shape_data.specs.declared.answer.ProcSummary.{ProcSummary}
use Rattle.shape_data.specs.declared.symbolic.Spec.{Spec}
use Rattle.solve_laws.specs.declared.parts.Attempt.{Attempt}
use Rattle.solve_laws.specs.Attempts.{count_of, specs_of}
use Rattle.solve_laws.specs.Solving.{pass, passes, round, rounds, solve, summaries_by}
use Rattle.solve_laws.specs.Tables.{same_specs}

-- ---- rounds

module _ (key : Key) (before : List (List Spec)) (turn most : ℕ) (whole : Option (List Attempt))
    (known : rounds (most - turn) key before ≡ whole) where
  module _ (inside : turn < most) (attempts : List Attempt) (specs : List (List Spec)) (made : attempts ≡ round key before)
      (specs_are : specs ≡ specs_of attempts) where
    left : most - turn ≡ suc (most - (turn + 1))
    left = omega (arith, inside)

    test : same_specs specs before ≡ same_specs (specs_of (round key before)) before
    test = ap (λ all. same_specs all before) (specs_are ∙ ap specs_of made)

    pub rounds-end : same_specs specs before ≡ true → Some attempts ≡ whole
    rounds-end same =
        ap Some made
        ∙ sym (cond-true (same_specs (specs_of (round key before)) before) (Some (round key before))
        (rounds (most - (turn + 1)) key (specs_of (round key before))) (sym test ∙ same))
        ∙ sym (ap (λ n. rounds n key before) left)
        ∙ known

    pub rounds-go : same_specs specs before ≡ false → rounds (most - (turn + 1)) key specs ≡ whole
    rounds-go other =
        ap (rounds (most - (turn + 1)) key) (specs_are ∙ ap specs_of made)
        ∙ sym (cond-false (same_specs (specs_of (round key before)) before) (Some (round key before))
        (rounds (most - (turn + 1)) key (specs_of (round key before))) (sym test ∙ other))
        ∙ sym (ap (λ n. rounds n key before) left)
        ∙ known

  pub rounds-spent : most ≤ turn → None ≡ whole
  rounds-spent all = let none : most - turn ≡ 0 = omega (arith, all) in sym (ap (λ n. rounds n key before) none) ∙ known

-- ---- passes

module _ (key : Key) (standing : List Attempt) (turn most : ℕ) (whole : List Attempt)
    (known : passes (most - turn) key standing ≡ whole) where
  module _ (inside : turn < most) (after : List Attempt) (made : after ≡ pass key standing) where
    again : most - turn ≡ suc (most - (turn + 1))
    again = omega (arith, inside)

    pub passes-end : count_of after ≡ count_of standing → after ≡ whole
    passes-end same =
        made
        ∙ sym (cond-true (count_of (pass key standing) == count_of standing) (pass key standing)
        (passes (most - (turn + 1)) key (pass key standing))
        (eq-eqb (count_of (pass key standing)) (count_of standing) (sym (ap count_of made) ∙ same)))
        ∙ sym (ap (λ n. passes n key standing) again)
        ∙ known

    pub passes-go : (count_of after ≡ count_of standing → ⊥) → passes (most - (turn + 1)) key after ≡ whole
    passes-go other =
        ap (passes (most - (turn + 1)) key) made
        ∙ sym (cond-false (count_of (pass key standing) == count_of standing) (pass key standing)
        (passes (most - (turn + 1)) key (pass key standing))
        (ne_eqb (count_of (pass key standing)) (count_of standing) (λ same. other (ap count_of made ∙ same))))
        ∙ sym (ap (λ n. passes n key standing) again)
        ∙ known

  pub passes-spent : most ≤ turn → standing ≡ whole
  passes-spent all = let none : most - turn ≡ 0 = omega (arith, all) in sym (ap (λ n. passes n key standing) none) ∙ known

-- ---- the answer

pub solved : (key : Key) (procs : List ProcSummary) → procs ≡ summaries_by key.recursive key
    → record { stored = false; procs = procs } ≡ solve key
unfolding solve
solved key procs is = λ i. record { stored = false; procs = is i }

pub solved-alone : (key : Key) (procs : List ProcSummary) → key.recursive ≡ false → procs ≡ summaries_by false key
    → procs ≡ summaries_by key.recursive key
solved-alone key procs is made = made ∙ ap (λ recursive. summaries_by recursive key) (sym is)

pub solved-together : (key : Key) (procs : List ProcSummary) → key.recursive ≡ true → procs ≡ summaries_by true key
    → procs ≡ summaries_by key.recursive key
solved-together key procs is made = made ∙ ap (λ recursive. summaries_by recursive key) (sym is)
