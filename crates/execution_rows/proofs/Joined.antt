-- What holds of all of two lists holds of all of the joined one.
use Rattle.std.specs.Prelude.{◌≡◌, ◌↔◌, Bool, true, false, IsTrue, List, ◌++◌, All}
use Rattle.std.proofs.Common.{sym, subst}
use Rattle.std.proofs.lemmas.List.Elements.{All-append}
use Rattle.sym_matching.proofs.KeptLaws.{All-left, All-right}

module _ {A : Type 0} (P : A → Type 0) (xs ys seen more : List A) (one : seen ≡ xs) (other : more ≡ ys) (a b : Bool)
    (first : IsTrue a ↔ All P seen) (second : IsTrue b ↔ All P more) where
  pub joined_then : a ≡ true → IsTrue b ↔ All P (xs ++ ys)
  joined_then is = (
    λ holds. All-append P xs ys (subst (λ list. All P list) one (first.0 is)) (subst (λ list. All P list) other (second.0 holds)),
    λ all. second.1 (subst (λ list. All P list) (sym other) (All-right P xs ys all)),
  )

  pub joined_else : a ≡ false → IsTrue a ↔ All P (xs ++ ys)
  joined_else is = (
    λ holds. let there : a ≡ true = holds in absurd cc,
    λ all. let there : a ≡ true = first.1 (subst (λ list. All P list) (sym one) (All-left P xs ys all)) in absurd cc,
  )
