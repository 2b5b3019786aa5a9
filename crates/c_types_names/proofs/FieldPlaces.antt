-- The places of the fields of a structure, by their names.
use Rattle.std.proofs.Common.{◌≡◌, ℕ, suc, Bool, true, false, List, [], ◌∷◌, ◌++◌, length, Option, Some, None, option_map}
use Rattle.std.proofs.Common.{if◌then◌else◌, refl, sym, ap, ◌∙◌}
use Rattle.std.specs.Option.{unwrap_or}
use Rattle.std.specs.Str.{bytes_eq}
use Rattle.c_types_names.specs.NameMap.{or_first}
use Rattle.c_types_names.specs.StructFields.{DeclaredTree, place_named, first_place}
use Rattle.c_types_names.proofs.Noting.{over}

-- the first place of a name, behind one more field
pub one_more_place : (xs : List DeclaredTree) (x : DeclaredTree) (n : List ℕ)
    → or_first (first_place xs n) (bytes_eq x.declarator.name.text n) (length xs) ≡ first_place (xs ++ x ∷ []) n
one_more_place [] x n = refl
one_more_place (first ∷ others) x n =
    by_test (bytes_eq first.declarator.name.text n) (bytes_eq x.declarator.name.text n) (first_place others n) (one_more_place others x n)
  where
    by_test : (here last : Bool) (place : Option ℕ) → or_first place last (length others) ≡ first_place (others ++ x ∷ []) n
        → or_first (if here then Some 0 else option_map suc place) last (suc (length others))
        ≡ (if here then Some 0 else option_map suc (first_place (others ++ x ∷ []) n))
    by_test true last place is = refl
    by_test false last place is = sym (over suc place last (length others)) ∙ ap (option_map suc) is

-- the place of a name is the first one of it, or how many fields there are
pub place_found : (xs : List DeclaredTree) (n : List ℕ) → unwrap_or (first_place xs n) (length xs) ≡ place_named xs n
place_found [] n = refl
place_found (first ∷ others) n = by_test (bytes_eq first.declarator.name.text n) (first_place others n) (place_found others n)
  where
    later : (place : Option ℕ) → unwrap_or (option_map suc place) (suc (length others)) ≡ suc (unwrap_or place (length others))
    later None = refl
    later (Some place) = refl

    by_test : (here : Bool) (place : Option ℕ) → unwrap_or place (length others) ≡ place_named others n
        → unwrap_or (if here then Some 0 else option_map suc place) (suc (length others)) ≡ (if here then 0 else suc (place_named others n))
    by_test true place is = refl
    by_test false place is = later place ∙ ap suc is
