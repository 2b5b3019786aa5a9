-- Slots that pass a test, kept one after another.
use Rattle.std.proofs.Common.{◌≡◌, ℕ, suc, ◌+◌, ◌<◌, Bool, true, false, List, [], ◌∷◌, ◌++◌, length, drop, get_or, append_assoc, refl, sym}
use Rattle.std.proofs.Common.{ap, ◌∙◌, add-one}
use Rattle.std.specs.Prelude.{if◌then◌else◌}
use Rattle.std.proofs.lemmas.List.{at_drop_more}
use Rattle.shape_data.specs.declared.program.Ty.{Ty}
use Rattle.c_lower_rules.specs.Marks.{slots_that}

pub then_is : {A : Type 0} (b : Bool) (one other : A) → b ≡ true → (if b then one else other) ≡ one
then_is true one other is = refl
then_is false one other is = absurd cc

pub else_is : {A : Type 0} (b : Bool) (one other : A) → b ≡ false → (if b then one else other) ≡ other
else_is false one other is = refl
else_is true one other is = absurd cc

module _ (passes : ℕ → Ty → Bool) (kinds : List Ty) (slot : ℕ) (kind : Ty) (within : slot < length kinds)
    (is : kind ≡ get_or kinds slot kind) where
  -- what is left, taken apart
  left : slots_that passes slot (drop slot kinds)
      ≡ (if passes slot kind then slot ∷ slots_that passes (suc slot) (drop (slot + 1) kinds)
      else slots_that passes (suc slot) (drop (slot + 1) kinds))
  left =
      at_drop_more (slots_that passes slot) kinds slot kind within
      ∙ ap (λ k. if passes slot k then slot ∷ slots_that passes (suc slot) (drop (slot + 1) kinds)
      else slots_that passes (suc slot) (drop (slot + 1) kinds))
      (sym is)

  later : slots_that passes (slot + 1) (drop (slot + 1) kinds) ≡ slots_that passes (suc slot) (drop (slot + 1) kinds)
  later = ap (λ n. slots_that passes n (drop (slot + 1) kinds)) (add-one slot)

  -- a slot that passes
  pub kept : passes slot kind ≡ true → (found after whole : List ℕ) → after ≡ found ++ slot ∷ []
      → found ++ slots_that passes slot (drop slot kinds) ≡ whole
      → after ++ slots_that passes (slot + 1) (drop (slot + 1) kinds) ≡ whole
  kept does found after whole goes known =
      ap (λ xs. xs ++ slots_that passes (slot + 1) (drop (slot + 1) kinds)) goes
      ∙ append_assoc found (slot ∷ []) (slots_that passes (slot + 1) (drop (slot + 1) kinds))
      ∙ ap (λ xs. found ++ slot ∷ xs) later
      ∙ ap (λ xs. found ++ xs) (sym (left ∙ then_is (passes slot kind) _ _ does))
      ∙ known

  -- a slot that doesn't
  pub passed : passes slot kind ≡ false → (found after whole : List ℕ) → after ≡ found
      → found ++ slots_that passes slot (drop slot kinds) ≡ whole
      → after ++ slots_that passes (slot + 1) (drop (slot + 1) kinds) ≡ whole
  passed does found after whole goes known =
      ap (λ xs. xs ++ slots_that passes (slot + 1) (drop (slot + 1) kinds)) goes
      ∙ ap (λ xs. found ++ xs) later
      ∙ ap (λ xs. found ++ xs) (sym (left ∙ else_is (passes slot kind) _ _ does))
      ∙ known
