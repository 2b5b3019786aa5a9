-- Refusals found in one part and then in another.
use Rattle.std.proofs.Common.{◌≡◌, List, [], ◌∷◌, ◌++◌, refl, sym, ap, ◌∙◌}
use Rattle.c_grammar.specs.declared.tokens.places.Refusal.{Refusal}
use Rattle.c_types_names.specs.declared.first_refusal.FirstRefusal.{FirstRefusal}
use Rattle.c_types_names.specs.FirstRefusal.{with_refusal, with_refusals}

pub with_refusals-nil : (first : FirstRefusal) → with_refusals first [] ≡ first
unfolding with_refusals
with_refusals-nil first = refl

pub with_refusals-append : (first : FirstRefusal) (one other : List Refusal)
    → with_refusals first (one ++ other) ≡ with_refusals (with_refusals first one) other
unfolding with_refusals
with_refusals-append first [] other = refl
with_refusals-append first (next ∷ others) other = with_refusals-append (with_refusal first next) others other

pub ruleset more_refusals = (with_refusals-nil, with_refusals-append)

-- nothing is refused
pub nothing : (first : FirstRefusal) → first ≡ with_refusals first []
nothing first = sym (with_refusals-nil first)

-- one part, and then the other
pub then : (from middle to : FirstRefusal) (one other : List Refusal) → middle ≡ with_refusals from one → to ≡ with_refusals middle other
    → to ≡ with_refusals from (one ++ other)
then from middle to one other is next = next ∙ ap (λ f. with_refusals f other) is ∙ sym (with_refusals-append from one other)

-- the same refusals
pub same : (from to : FirstRefusal) (one other : List Refusal) → to ≡ with_refusals from one → one ≡ other → to ≡ with_refusals from other
same from to one other is e = is ∙ ap (with_refusals from) e

-- a turn of a loop: of what is left, one part was looked at
pub turn : (from to all : FirstRefusal) (left one rest : List Refusal) → to ≡ with_refusals from one → left ≡ one ++ rest
    → with_refusals from left ≡ all → with_refusals to rest ≡ all
turn from to all left one rest is parts before =
    ap (λ f. with_refusals f rest) is ∙ sym (with_refusals-append from one rest) ∙ ap (with_refusals from) (sym parts) ∙ before

-- behind the last turn
pub over : (to all : FirstRefusal) (left : List Refusal) → left ≡ [] → with_refusals to left ≡ all → to ≡ all
over to all left none before = sym (with_refusals-nil to) ∙ ap (with_refusals to) (sym none) ∙ before
