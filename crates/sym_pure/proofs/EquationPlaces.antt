-- The place of an equation among the facts.
use Rattle.std.proofs.Common.{◌≡◌, ℕ, ◌≤◌, List, [], ◌∷◌, refl, ap, length, Bool, true, false, arith, one-add}
use Rattle.std.specs.List.{position_or_len, insert}
use Rattle.shape_data.specs.declared.symbolic.Exp.{Exp}
use Rattle.shape_data.specs.declared.symbolic.Exp.TheVariants.{Var}
use Rattle.shape_data.specs.declared.symbolic.Fact.{Fact}
use Rattle.shape_data.specs.declared.symbolic.Fact.TheVariants.{Eq}
use Rattle.sym_pure.specs.Solving.{stands_behind, with_equation_of}

pub equation_within : (variable : ℕ) (facts : List Fact) → position_or_len (stands_behind variable) facts ≤ length facts
equation_within variable [] = omega arith
equation_within variable (fact ∷ facts) = by_test (stands_behind variable fact) refl (equation_within variable facts)
  where
    by_test : (b : Bool) → stands_behind variable fact ≡ b → position_or_len (stands_behind variable) facts ≤ length facts →
        position_or_len (stands_behind variable) (fact ∷ facts) ≤ length (fact ∷ facts)
    by_test true e h = rw e (omega arith)
    by_test false e h = rw e (omega arith)

pub equation_inserted : (variable : ℕ) (by : Exp) (facts : List Fact) →
    with_equation_of variable by facts ≡ insert facts (position_or_len (stands_behind variable) facts) (Eq (Var variable) by)
equation_inserted variable by [] = refl
equation_inserted variable by (fact ∷ facts) = by_test (stands_behind variable fact) refl (equation_inserted variable by facts)
  where
    by_test : (b : Bool) → stands_behind variable fact ≡ b →
        with_equation_of variable by facts ≡ insert facts (position_or_len (stands_behind variable) facts) (Eq (Var variable) by) →
        with_equation_of variable by (fact ∷ facts)
        ≡ insert (fact ∷ facts) (position_or_len (stands_behind variable) (fact ∷ facts)) (Eq (Var variable) by)
    by_test true e later = rw e refl
    by_test false e later = rw (e, one-add) (ap (λ rest. fact ∷ rest) later)

pub ruleset equation_places = (equation_within, equation_inserted)
