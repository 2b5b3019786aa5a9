-- The order of facts and the direction of a disequality do not matter.
use Rattle.std.specs.Prelude.{◌≡◌, ◌↔◌, ℕ, ℤ, Bool, true, false, List, [], ◌∷◌}
use Rattle.std.proofs.Common.{refl, sym}
use Rattle.shape_data.specs.declared.symbolic.Fact.{Fact}
use Rattle.shape_data.specs.declared.symbolic.Fact.TheVariants.{Eq, Ne}
use Rattle.shape_data.specs.Meaning.{IsTrueFact, AreTrueFacts}
use Rattle.sym_canon.specs.FactOrder.{is_before, with_sides_in_order, is_fact_before, with_fact, sorted_among, sorted_facts}

module _ (t : ℕ → ℤ) where
  sides-to : (fact : Fact) → IsTrueFact t fact → IsTrueFact t (with_sides_in_order fact)
  sides-to (Eq left right) h = h
  sides-to (Ne left right) h = by_test (is_before right left) refl
    where
      by_test : (b : Bool) → is_before right left ≡ b → IsTrueFact t (with_sides_in_order (Ne left right))
      by_test true e = rw e (λ same. h (sym same))
      by_test false e = rw e h

  sides-from : (fact : Fact) → IsTrueFact t (with_sides_in_order fact) → IsTrueFact t fact
  sides-from (Eq left right) h = h
  sides-from (Ne left right) h = by_test (is_before right left) refl h
    where
      by_test : (b : Bool) → is_before right left ≡ b → IsTrueFact t (with_sides_in_order (Ne left right)) → IsTrueFact t (Ne left right)
      by_test true e k = let turned : IsTrueFact t (Ne right left) = rw e at k in λ same. turned (sym same)
      by_test false e k = rw e at k

  with-to : (fact : Fact) (facts : List Fact) → IsTrueFact t fact → AreTrueFacts t facts → AreTrueFacts t (with_fact fact facts)
  with-to fact [] h k = (h, tt)
  with-to fact (first ∷ facts) h k = by_test (is_fact_before fact first) refl (with-to fact facts h k.1)
    where
      by_test : (b : Bool) → is_fact_before fact first ≡ b → AreTrueFacts t (with_fact fact facts) →
          AreTrueFacts t (with_fact fact (first ∷ facts))
      by_test true e later = rw e (h, k)
      by_test false e later = rw e (k.0, later)

  with-from : (fact : Fact) (facts : List Fact) → AreTrueFacts t (with_fact fact facts) → IsTrueFact t fact × AreTrueFacts t facts
  with-from fact [] h = h
  with-from fact (first ∷ facts) h = by_test (is_fact_before fact first) refl h (λ k. with-from fact facts k)
    where
      by_test : (b : Bool) → is_fact_before fact first ≡ b → AreTrueFacts t (with_fact fact (first ∷ facts)) →
          (AreTrueFacts t (with_fact fact facts) → IsTrueFact t fact × AreTrueFacts t facts) →
          IsTrueFact t fact × AreTrueFacts t (first ∷ facts)
      by_test true e k go_on = rw e at k
      by_test false e k go_on =
          let all : AreTrueFacts t (first ∷ with_fact fact facts) = rw e at k in
          let parts : IsTrueFact t fact × AreTrueFacts t facts = go_on all.1 in
          (parts.0, (all.0, parts.1))

  among-to : (facts sorted : List Fact) → AreTrueFacts t facts → AreTrueFacts t sorted → AreTrueFacts t (sorted_among facts sorted)
  among-to [] sorted h k = k
  among-to (fact ∷ facts) sorted h k =
      among-to facts (with_fact (with_sides_in_order fact) sorted) h.1 (with-to (with_sides_in_order fact) sorted (sides-to fact h.0) k)

  among-from : (facts sorted : List Fact) → AreTrueFacts t (sorted_among facts sorted) → AreTrueFacts t facts × AreTrueFacts t sorted
  among-from [] sorted h = (tt, h)
  among-from (fact ∷ facts) sorted h =
      let rest : AreTrueFacts t facts × AreTrueFacts t (with_fact (with_sides_in_order fact) sorted) =
      among-from facts (with_fact (with_sides_in_order fact) sorted) h in
      let parts : IsTrueFact t (with_sides_in_order fact) × AreTrueFacts t sorted = with-from (with_sides_in_order fact) sorted rest.1 in
      ((sides-from fact parts.0, rest.0), parts.1)

  pub sorted-true : (facts : List Fact) → AreTrueFacts t facts ↔ AreTrueFacts t (sorted_facts facts)
  sorted-true facts = (λ h. among-to facts [] h tt, λ h. (among-from facts [] h).0)
