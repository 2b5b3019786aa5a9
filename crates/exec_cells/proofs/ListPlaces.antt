-- What stands at a place of a list.
use Rattle.std.specs.Prelude.{◌≡◌, ℕ, zero, suc, ◌<◌, List, [], ◌∷◌, length, slice_get}
use Rattle.std.specs.declared.option.Option.TheVariants.{Some}
use Rattle.std.proofs.Common.{sym, ap, ◌∙◌, arith, get_or}

-- what stands at a place
there : {A : Type 0} (xs : List A) (place : ℕ) (x : A) → place < length xs → x ≡ get_or xs place x → slice_get xs place ≡ Some x
there [] place x inside is = absurd (omega arith)
there (first ∷ xs) zero x inside is = ap Some (sym is)
there (first ∷ xs) (suc place) x inside is = there xs place x (omega arith) is

pub stands_there : {A : Type 0} (xs seen : List A) (place : ℕ) (x y : A) → seen ≡ xs → place < length xs → x ≡ get_or seen place x → x ≡ y
    → slice_get xs place ≡ Some y
stands_there xs seen place x y same inside is named = there xs place x inside (is ∙ ap (λ list. get_or list place x) same) ∙ ap Some named
