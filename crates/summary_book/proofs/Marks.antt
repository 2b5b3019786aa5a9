-- Marks that tell exactly which of the first components are settled.
use Rattle.std.proofs.Common.{◌≡◌, ℕ, ◌+◌, ◌<◌, Bool, true, false, List, length, is_some, Some, None, Option, sym, ap, ◌∙◌, subst, ⊎_elim}
use Rattle.std.proofs.Common.{arith, option_map}
use Rattle.std.specs.Prelude.{slice_set}
use Rattle.std.proofs.lemmas.Bool.{cases_eq, cases_lt}
use Rattle.std.proofs.lemmas.List.{get_or-set_same, get_or-set_other}
use Rattle.call_components.specs.Reaching.{marked}
use Rattle.component_keys.proofs.Basics.{some_same}
use Rattle.component_keys.proofs.Ordered.{callees_before}
use Rattle.claim_laws.specs.Logs.{settled_at}
use Rattle.claim_laws.specs.World.{Slot, World}
use Rattle.summary_book.specs.Settled.{AreExact, IsExactAt}
use Rattle.summary_book.proofs.Search.{marks_more}

-- what a component calls stands before it
pub exact_below : (world : World) (marks : List Bool) (count : ℕ) → AreExact world marks count → IsExactAt world marks count
exact_below world marks count are part k outer at callee settled =
    are.exact outer.component (callees_before world.program count k part outer at callee) ∙ settled

pub exact_same : (world : World) (marks : List Bool) (count : ℕ) → AreExact world marks count
    → marked marks count ≡ is_some (settled_at world count) → AreExact world marks (count + 1)
exact_same world marks count are own = record {
  marks_are = are.marks_are;
  exact =
      λ place lt. ⊎_elim (λ less. are.exact place less)
      (λ le. let same : place ≡ count = omega (arith, lt, le) in ap (marked marks) same ∙ own
      ∙ ap (λ n. is_some (settled_at world n)) (sym same)) (cases_lt place count);
}

pub exact_set : (world : World) (marks : List Bool) (count : ℕ) → count < length marks → AreExact world marks count
    → is_some (settled_at world count) ≡ true → AreExact world (slice_set marks count true) (count + 1)
exact_set world marks count within are settled = record {
  marks_are = marks_more world marks count are.marks_are settled;
  exact = λ place lt.
      ⊎_elim (λ same. ap (marked (slice_set marks count true)) same ∙ get_or-set_same marks count true false within ∙ sym settled
      ∙ ap (λ n. is_some (settled_at world n)) (sym same))
      (λ other. get_or-set_other marks count place true false other ∙ are.exact place (below place lt other)) (cases_eq place count);
}
  where
    below : (place : ℕ) → place < count + 1 → (place ≡ count → ⊥) → place < count
    below place lt other = ⊎_elim (λ less. less) (λ le. absurd (other (omega (arith, lt, le)))) (cases_lt place count)

-- a claim's number tells that there is a slot
pub some_number : (o : Option Slot) (r : Option ℕ) → r ≡ option_map (λ (slot : Slot). slot.claim) o → is_some o ≡ is_some r
some_number None r e = ap is_some (sym e)
some_number (Some slot) r e = ap is_some (sym e)

-- the place that was looked for
pub exact_here : (world : World) (marks : List Bool) (o : Option ℕ) (here : ℕ) → o ≡ Some here → AreExact world marks here → (place : ℕ)
    → o ≡ Some place → AreExact world marks place
exact_here world marks o here is exact place same = subst (AreExact world marks) (some_same (sym is ∙ same)) exact
