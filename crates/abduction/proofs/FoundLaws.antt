-- The laws of abduction, of what the call answers.
use Rattle.std.specs.Prelude.{◌≡◌, ℕ, List}
use Rattle.std.proofs.Common.{refl, sym, subst}
use Rattle.shape_data.specs.declared.symbolic.Exp.{Exp}
use Rattle.shape_data.specs.declared.symbolic.SymHeap.{SymHeap}
use Rattle.sym_matching.specs.declared.matching.Abd.{Abd}
use Rattle.sym_matching.specs.declared.matching.Abd.TheVariants.{Found, NoMatch}
use Rattle.sym_matching.specs.declared.matching.Mode.TheVariants.{Abduce}
use Rattle.sym_matching.specs.declared.matching.Turned.{Turned}
use Rattle.sym_matching.specs.declared.matching.Turned.TheVariants.{On, Stuck}
use Rattle.sym_matching.specs.Laws.{BiabduceGivesBeside, MissingIsLogical}
use Rattle.sym_matching.specs.Matches.{answer_abd, biabduce_avoiding, matching, rules_of}
use Rattle.abduction.specs.Found.{IsLogical, SplitsBeside}

module _ (a b : SymHeap) (bound : List (ℕ × Exp)) (flexible : List ℕ) (fresh : ℕ) (avoid : List ℕ) (found : Abd)
    (is : found ≡ biabduce_avoiding a b bound flexible fresh avoid) where
  pub found_logical : MissingIsLogical → IsLogical found
  found_logical law = subst IsLogical (sym is) (by_turn (matching Abduce a b bound flexible avoid fresh) refl)
    where
      by_turn : (turned : Turned) → matching Abduce a b bound flexible avoid fresh ≡ turned
          → IsLogical (answer_abd (rules_of Abduce a flexible) b turned)
      by_turn (On n) goes = law Abduce a b bound flexible avoid fresh n goes
      by_turn (Stuck number) goes = tt

  pub found_beside : BiabduceGivesBeside → SplitsBeside a b bound flexible avoid found
  found_beside law = by_answer found is
    where
      by_answer : (answer : Abd) → answer ≡ biabduce_avoiding a b bound flexible fresh avoid → SplitsBeside a b bound flexible avoid answer
      by_answer (Found missing frame binding) same =
          λ structs fits s heap holds. law structs a b bound flexible fresh avoid missing frame binding fits (sym same) s heap holds
      by_answer (NoMatch wanted) same = tt
