-- What holds of the things behind a place of a list.
use Rattle.std.proofs.Common.{◌≡◌, ◌≢◌, ◌∙◌, ℕ, ◌+◌, ◌-◌, ◌<◌, List, length, All, take, drop, get_or, sym, ap, subst, arith, below_more}
use Rattle.std.proofs.lemmas.List.{get_or-drop, get_or_default, length-drop}
use Rattle.std.proofs.Math.Seq.{take-length}
use Rattle.shape_data.specs.Names.{HaveDifferentNames}

pub All_behind : {A : Type 0} (P : A → Type 0) (xs : List A) (n : ℕ) → All P (take (length xs - (n + 1)) (drop (n + 1) xs)) →
    (j : ℕ) (d : A) → n < j → j < length xs → P (get_or xs j d)
All_behind {A} P xs n all j d after inside =
    let whole : take (length xs - (n + 1)) (drop (n + 1) xs) ≡ drop (n + 1) xs =
    rw (length-drop (n + 1) xs) at (take-length (drop (n + 1) xs)) in
    let rest : All P (drop (n + 1) xs) = subst (λ (ys : List A). All P ys) whole all in
    let there : P (get_or (drop (n + 1) xs) (j - (n + 1)) d) = rest (j - (n + 1)) d (rw (length-drop (n + 1) xs) (omega arith)) in
    let place : (n + 1) + (j - (n + 1)) ≡ j = omega arith in
    subst P (get_or-drop (n + 1) xs (j - (n + 1)) d ∙ ap (λ k. get_or xs k d) place) there

pub All_of_behind : {A : Type 0} (P : A → Type 0) (xs : List A) (n : ℕ) → ((j : ℕ) (d : A) → n < j → j < length xs → P (get_or xs j d)) →
    All P (take (length xs - (n + 1)) (drop (n + 1) xs))
All_of_behind {A} P xs n all =
    let whole : take (length xs - (n + 1)) (drop (n + 1) xs) ≡ drop (n + 1) xs =
    rw (length-drop (n + 1) xs) at (take-length (drop (n + 1) xs)) in
    let rest : All P (drop (n + 1) xs) =
    λ k d inside. subst P (sym (get_or-drop (n + 1) xs k d))
    (all ((n + 1) + k) d (omega arith) (let shorter : k < length xs - (n + 1) = rw (length-drop (n + 1) xs) at inside in omega arith)) in
    subst (λ (ys : List A). All P ys) (sym whole) rest

-- the names before a place differ from all later ones
abbrev pub DifferBefore : {A : Type 0} → (A → List ℕ) → List A → ℕ → Type 0
DifferBefore {A} f xs n = (i j : ℕ) (d : A) → i < n → i < j → j < length xs → f (get_or xs i d) ≢ f (get_or xs j d)

-- a thing whose name no later one has goes to those whose names differ from all later ones
pub DifferBefore-more : {A : Type 0} (f : A → List ℕ) (xs : List A) (n : ℕ) (thing : A) (name : List ℕ) → name ≡ f thing →
    thing ≡ get_or xs n thing → n < length xs →
    All (λ (other : A). name ≢ f other) (take (length xs - (n + 1)) (drop (n + 1) xs)) → DifferBefore f xs n → DifferBefore f xs (n + 1)
DifferBefore-more {A} f xs n thing name is_name is_thing within all before i j d =
    λ below. below_more (λ i. i < j → j < length xs → f (get_or xs i d) ≢ f (get_or xs j d)) n (λ i under. before i j d under) here i below
  where
    here : n < j → j < length xs → f (get_or xs n d) ≢ f (get_or xs j d)
    here after inside =
        let other : name ≢ f (get_or xs j d) = All_behind (λ (other : A). name ≢ f other) xs n all j d after inside in
        let same : get_or xs n d ≡ thing = get_or_default xs n d thing within ∙ sym is_thing in
        let named : name ≡ f (get_or xs n d) = rw same is_name in
        λ e. other (named ∙ e)

-- where the names differ, no later thing has a thing's name
pub DifferBefore-behind : {A : Type 0} (f : A → List ℕ) (xs : List A) (n : ℕ) (thing : A) (name : List ℕ) → name ≡ f thing →
    thing ≡ get_or xs n thing → n < length xs →
    HaveDifferentNames f xs → All (λ (other : A). name ≢ f other) (take (length xs - (n + 1)) (drop (n + 1) xs))
DifferBefore-behind {A} f xs n thing name is_name is_thing within all = All_of_behind (λ (other : A). name ≢ f other) xs n later
  where
    later : (j : ℕ) (d : A) → n < j → j < length xs → name ≢ f (get_or xs j d)
    later j d after inside =
        let same : get_or xs n d ≡ thing = get_or_default xs n d thing within ∙ sym is_thing in
        let named : name ≡ f (get_or xs n d) = rw same is_name in
        λ e. all n j d after inside (sym named ∙ e)
