-- Refusals at one place, of which the first has the least code.
use Rattle.std.specs.Prelude.{not, nat_lt}
use Rattle.std.proofs.Common.{◌≡◌, ℕ, ◌≤◌, Bool, true, false, Option, Some, None, ◌++◌, refl, sym, ap, ◌∙◌, arith}
use Rattle.c_grammar.specs.declared.tokens.places.Place.{Place}
use Rattle.c_grammar.specs.Tokens.Places.{refusal}
use Rattle.c_types_rules.specs.declared.at.At.{At}
use Rattle.c_types_rules.specs.Types.{unless}
use Rattle.c_types_rules.specs.Programs.{stands_before, is_no_later, first_by, in_unit}
use Rattle.c_types_names.specs.declared.first_refusal.FirstRefusal.{FirstRefusal}
use Rattle.c_types_names.specs.FirstRefusal.{least, with_refusal, with_refusals}
use Rattle.c_types_names.proofs.FirstRefusals.{with_refusals-append}
use Rattle.c_types_names.proofs.FirstWith.{first_of_three}
use Rattle.c_lower_rules.specs.Programs.{NODES, SLOTS, PARAMETERS}

level : (n : ℕ) (p : Bool) → p ≡ true → stands_before n n p ≡ true
level n p h = grind (arith, h)

no_less : (code other : ℕ) → code ≤ other → not (nat_lt other code) ≡ true
no_less code other h = grind (arith, h)

in_order : (unit : ℕ) (place : Place) (code other : ℕ) → code ≤ other
    → is_no_later (in_unit unit (refusal place code)) (in_unit unit (refusal place other)) ≡ true
in_order unit place code other h = level unit _ (level place.line _ (level place.column _ (no_less code other h)))

-- where one of two is no later, the other changes nothing
least_kept : (found : Option At) (one other : At) → is_no_later one other ≡ true → least (least found one) other ≡ least found one
least_kept None one other is = ap (λ b. Some (first_by b one other)) is
least_kept (Some x) one other is =
    ap Some
    (first_of_three x one other
    ∙ ap (λ b. first_by (is_no_later x (first_by b one other)) x (first_by b one other)) is)

-- what is refused at a place is not changed by a later code
later : (f : FirstRefusal) (place : Place) (code other : ℕ) → code ≤ other
    → with_refusal (with_refusal f (refusal place code)) (refusal place other) ≡ with_refusal f (refusal place code)
later f place code other h =
    ap (λ (o : Option At). record f { found = o })
    (least_kept f.found (in_unit f.unit (refusal place code)) (in_unit f.unit (refusal place other)) (in_order f.unit place code other h))

later_unless : (f : FirstRefusal) (holds : Bool) (place : Place) (code other : ℕ) → code ≤ other
    → with_refusals (with_refusal f (refusal place code)) (unless holds place other) ≡ with_refusal f (refusal place code)
unfolding with_refusals
later_unless f true place code other h = refl
later_unless f false place code other h = later f place code other h

first_is : (f : FirstRefusal) (place : Place) (code : ℕ) → with_refusals f (unless false place code) ≡ with_refusal f (refusal place code)
unfolding with_refusals
first_is f place code = refl

-- where there are too many nodes, nothing else counts
pub nodes_alone : (f : FirstRefusal) (place : Place) (slots temps params : Bool)
    → with_refusals f (unless false place NODES ++ unless slots place SLOTS ++ unless temps place SLOTS ++ unless params place PARAMETERS)
    ≡ with_refusals f (unless false place NODES)
nodes_alone f place slots temps params =
    let one = unless false place NODES in
    let two = unless slots place SLOTS in
    let three = unless temps place SLOTS in
    let four = unless params place PARAMETERS in
    with_refusals-append f ((one ++ two) ++ three) four
    ∙ ap (λ h. with_refusals h four)
    (with_refusals-append f (one ++ two) three
    ∙ ap (λ h. with_refusals h three)
    (with_refusals-append f one two
    ∙ ap (λ h. with_refusals h two) (first_is f place NODES)
    ∙ later_unless f slots place NODES SLOTS (omega arith))
    ∙ later_unless f temps place NODES SLOTS (omega arith))
    ∙ later_unless f params place NODES PARAMETERS (omega arith)
    ∙ sym (first_is f place NODES)
