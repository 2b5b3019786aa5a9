-- The first refusal, found one by one.
use Rattle.std.proofs.Common.{◌≡◌, Bool, true, false, Option, Some, None, List, [], ◌∷◌, ◌++◌, map, refl, sym, ap, ◌∙◌}
use Rattle.c_grammar.specs.declared.tokens.places.Refusal.{Refusal}
use Rattle.c_types_rules.specs.declared.at.At.{At}
use Rattle.c_types_rules.specs.Programs.{is_no_later, first_by, earlier, first_of, in_unit}
use Rattle.c_types_rules.proofs.First.{either, no_later}
use Rattle.c_types_names.specs.declared.first_refusal.FirstRefusal.{FirstRefusal}
use Rattle.c_types_names.specs.FirstRefusal.{least, with_refusal, with_refusals, first_with}

pub first_with-append : (found : Option At) (one other : List At)
    → first_with found (one ++ other) ≡ first_with (first_with found one) other
unfolding first_with
first_with-append found [] other = refl
first_with-append found (next ∷ others) other = first_with-append (least found next) others other

pub first_with-nil : (found : Option At) → first_with found [] ≡ found
unfolding first_with
first_with-nil found = refl

pub with_refusals-found : (first : FirstRefusal) (all : List Refusal)
    → (with_refusals first all).found ≡ first_with first.found (map (in_unit first.unit) all)
unfolding with_refusals first_with
with_refusals-found first [] = refl
with_refusals-found first (one ∷ others) = with_refusals-found (with_refusal first one) others

abbrev first_of_two : At → At → At
first_of_two one other = first_by (is_no_later one other) one other

-- of three, in either order
module _ (one other third : At) where
  by_tests : (p q r s : Bool) → is_no_later one other ≡ p → is_no_later other third ≡ q → is_no_later one third ≡ r
      → first_of_two (first_by p one other) third ≡ first_of_two one (first_by q other third)
  by_tests true true r s e f g =
      let h : is_no_later one third ≡ true = no_later one other third e f in
      ap (λ b. first_by b one third) h ∙ sym (ap (λ b. first_by b one other) e)
  by_tests true false r s e f g = refl
  by_tests false true r s e f g = ap (λ b. first_by b other third) f ∙ sym (ap (λ b. first_by b one other) e)
  by_tests false false true s e f g = absurd (later (no_later one third other g (either other third f)) e)
    where
      later : is_no_later one other ≡ true → is_no_later one other ≡ false → ⊥
      later a b = cc
  by_tests false false false s e f g = ap (λ b. first_by b other third) f ∙ sym (ap (λ b. first_by b one third) g)

  pub first_of_three : first_of_two (first_of_two one other) third ≡ first_of_two one (first_of_two other third)
  first_of_three = by_tests (is_no_later one other) (is_no_later other third) (is_no_later one third) true refl refl refl

earlier-least : (one next : At) (rest : Option At) → earlier (first_of_two one next) rest ≡ earlier one (earlier next rest)
earlier-least one next None = refl
earlier-least one next (Some third) = ap Some (first_of_three one next third)

first_with_one : (one : At) (all : List At) → first_with (Some one) all ≡ earlier one (first_of all)
unfolding first_with
first_with_one one [] = refl
first_with_one one (next ∷ others) = first_with_one (first_of_two one next) others ∙ earlier-least one next (first_of others)

pub first_with-is : (all : List At) → first_with None all ≡ first_of all
unfolding first_with
first_with-is [] = refl
first_with-is (one ∷ others) = first_with_one one others
