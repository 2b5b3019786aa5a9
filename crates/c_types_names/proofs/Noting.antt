-- The first thing of each name, after one more thing.
use Rattle.std.proofs.Common.{◌≡◌, ℕ, Bool, true, false, ◌&&◌, List, [], ◌∷◌, ◌++◌, map, option_map, Option, Some, None, Result}
use Rattle.std.proofs.Common.{Ok, OnOk, refl, sym, ap, subst, ◌∙◌, if◌then◌else◌}
use Rattle.std.proofs.lemmas.Slice.Eq.{bytes_eq-Decides}
use Rattle.std.specs.Str.{bytes_eq}
use Rattle.c_types_names.specs.NameMap.{or_first, or_last}

pub from_ok : {T E : Type 0} (r : Result T E) (v : T) (P : Type 0) → r ≡ Ok v → OnOk r P → P
from_ok r v P e p = subst (λ s. OnOk s P) e p

unwanted : {X : Type 0} (o : Option X) (wanted : Bool) (x : X) → o ≡ or_first o (wanted && false) x
unwanted None true x = refl
unwanted None false x = refl
unwanted (Some found) wanted x = refl

wanted_here : (wanted : Bool) → wanted ≡ (wanted && true)
wanted_here true = refl
wanted_here false = refl

-- a part of what is kept of each name, where what is kept of one name is put anew
module _ {A X : Type 0} (old new : List ℕ → Option A) (name : List ℕ) (kept : A)
    (updates : (n : List ℕ) → new n ≡ or_last (old n) (bytes_eq name n) kept) (part : Option A → Option X) (wanted : Bool) (x : X)
    (changed : part (Some kept) ≡ or_first (part (old name)) wanted x) where
  pub part_more : (n : List ℕ) → part (new n) ≡ or_first (part (old n)) (wanted && bytes_eq name n) x
  part_more n = ap part (updates n) ∙ by_test (bytes_eq name n) refl
    where
      by_test : (b : Bool) → bytes_eq name n ≡ b → part (or_last (old n) b kept) ≡ or_first (part (old n)) (wanted && b) x
      by_test true same =
          changed
          ∙ ap (λ bs. or_first (part (old bs)) wanted x) ((bytes_eq-Decides name n).0 same)
          ∙ ap (λ b. or_first (part (old n)) b x) (wanted_here wanted)
      by_test false same = unwanted (part (old n)) wanted x

behind : {X : Type 0} (passes : Bool) (found : X) (o : Option X) (last : Bool) (x : X)
    → (if passes then Some found else or_first o last x) ≡ or_first (if passes then Some found else o) last x
behind true found o last x = refl
behind false found o last x = refl

pub over : {X Y : Type 0} (seen : X → Y) (o : Option X) (passes : Bool) (x : X)
    → option_map seen (or_first o passes x) ≡ or_first (option_map seen o) passes (seen x)
over seen None true x = refl
over seen None false x = refl
over seen (Some found) passes x = refl

pub seen_behind : {X Y : Type 0} (seen : X → Y) (xs : List X) (x : X) → map seen xs ++ seen x ∷ [] ≡ map seen (xs ++ x ∷ [])
seen_behind seen [] x = refl
seen_behind seen (first ∷ others) x = ap (λ ys. seen first ∷ ys) (seen_behind seen others x)

-- the first of a list that passes a test
module _ {X Y : Type 0} (seen : X → Y) (test : Y → Bool) (find : List Y → Option Y) (none : find [] ≡ None)
    (step : (y : Y) (ys : List Y) → find (y ∷ ys) ≡ (if test y then Some y else find ys)) where
  last : (ys : List Y) (y : Y) → or_first (find ys) (test y) y ≡ find (ys ++ y ∷ [])
  last [] y = ap (λ o. or_first o (test y) y) none ∙ sym (step y [] ∙ ap (λ o. if test y then Some y else o) none)
  last (first ∷ others) y =
      ap (λ o. or_first o (test y) y) (step first others)
      ∙ sym (behind (test first) first (find others) (test y) y)
      ∙ ap (λ o. if test first then Some first else o) (last others y)
      ∙ sym (step first (others ++ y ∷ []))

  pub one_more : (before after : Option X) (xs : List X) (x : X) → option_map seen before ≡ find (map seen xs)
      → after ≡ or_first before (test (seen x)) x
      → option_map seen after ≡ find (map seen (xs ++ x ∷ []))
  one_more before after xs x found is =
      ap (option_map seen) is
      ∙ over seen before (test (seen x)) x
      ∙ ap (λ o. or_first o (test (seen x)) (seen x)) found
      ∙ last (map seen xs) (seen x)
      ∙ ap find (seen_behind seen xs x)
