-- The place of a fact among the facts.
use Rattle.std.proofs.Common.{◌≡◌, ◌≤◌, List, [], ◌∷◌, refl, ap, length, Bool, true, false, arith, one-add}
use Rattle.std.specs.List.{position_or_len, insert}
use Rattle.shape_data.specs.declared.symbolic.Fact.{Fact}
use Rattle.sym_canon.specs.FactOrder.{is_fact_before, with_fact}

pub fact_within : (fact : Fact) (facts : List Fact) → position_or_len (is_fact_before fact) facts ≤ length facts
fact_within fact [] = omega arith
fact_within fact (first ∷ facts) = by_test (is_fact_before fact first) refl (fact_within fact facts)
  where
    by_test : (b : Bool) → is_fact_before fact first ≡ b → position_or_len (is_fact_before fact) facts ≤ length facts →
        position_or_len (is_fact_before fact) (first ∷ facts) ≤ length (first ∷ facts)
    by_test true e h = rw e (omega arith)
    by_test false e h = rw e (omega arith)

pub fact_inserted : (fact : Fact) (facts : List Fact) →
    with_fact fact facts ≡ insert facts (position_or_len (is_fact_before fact) facts) fact
fact_inserted fact [] = refl
fact_inserted fact (first ∷ facts) = by_test (is_fact_before fact first) refl (fact_inserted fact facts)
  where
    by_test : (b : Bool) → is_fact_before fact first ≡ b →
        with_fact fact facts ≡ insert facts (position_or_len (is_fact_before fact) facts) fact →
        with_fact fact (first ∷ facts) ≡ insert (first ∷ facts) (position_or_len (is_fact_before fact) (first ∷ facts)) fact
    by_test true e later = rw e refl
    by_test false e later = rw (e, one-add) (ap (λ rest. first ∷ rest) later)

pub ruleset fact_places = (fact_within, fact_inserted)
