-- Lists that a loop collects.
use Rattle.std.specs.Prelude.{◌≡◌, ℕ, ◌+◌, ◌<◌, List, [], ◌∷◌, ◌++◌, length, drop, map}
use Rattle.std.specs.List.{filter_map}
use Rattle.std.specs.declared.option.Option.{Option}
use Rattle.std.specs.declared.option.Option.TheVariants.{None, Some}
use Rattle.std.proofs.Common.{refl, sym, ◌∙◌, append_assoc, get_or}
use Rattle.std.proofs.lemmas.List.{append-nil, drop_more}
use Rattle.std.proofs.lemmas.List.Elements.{filter_map-append}

-- one thing more, which is kept or passed over
pub kept_more : {X Y : Type 0} (h : X → Option Y) (xs : List X) (x : X) (y : Y) (kept more : List Y) → kept ≡ filter_map h xs →
    h x ≡ Some y → more ≡ kept ++ y ∷ [] → more ≡ filter_map h (xs ++ x ∷ [])
kept_more h xs x y kept more is gives grown = rw (grown, is, filter_map-append h xs (x ∷ []), gives) refl

pub passed_more : {X Y : Type 0} (h : X → Option Y) (xs : List X) (x : X) (kept : List Y) → kept ≡ filter_map h xs → h x ≡ None →
    kept ≡ filter_map h (xs ++ x ∷ [])
passed_more h xs x kept is gives = is ∙ sym (rw (filter_map-append h xs (x ∷ []), gives) (append-nil (filter_map h xs)))

-- one thing more from the rest of a list
pub mapped_more : {X Y : Type 0} (f : X → Y) (xs : List X) (i : ℕ) (d : X) (y : Y) (whole kept more : List Y) → i < length xs →
    whole ≡ kept ++ map f (drop i xs) → y ≡ f (get_or xs i d) → more ≡ kept ++ y ∷ [] →
    whole ≡ more ++ map f (drop (i + 1) xs)
mapped_more f xs i d y whole kept more inside now is grown =
    let next : drop i xs ≡ get_or xs i d ∷ drop (i + 1) xs = drop_more xs i d inside in
    now ∙ (rw (grown, next, is) (sym (append_assoc kept (f (get_or xs i d) ∷ []) (map f (drop (i + 1) xs)))))
