-- The places of components, and whom they call outside.
use Rattle.std.proofs.Common.{◌≡◌, ℕ, suc, ◌+◌, ◌<◌, ◌==◌, Bool, true, false, cond, ◌||◌, List, [], ◌∷◌, ◌++◌, length, map, take, drop}
use Rattle.std.proofs.Common.{slice_get, get_or, set, refl, sym, ap, ◌∙◌, arith, All, filter, replicate, le_refl}
use Rattle.std.specs.Prelude.{if◌then◌else◌}
use Rattle.std.specs.List.{filter_map}
use Rattle.std.proofs.lemmas.Bool.Decides.{Decides-eqb}
use Rattle.std.proofs.lemmas.List.{take_more, get_or-set_same, get_or-set_other, length-replicate, drop_all, get_or-replicate}
use Rattle.std.proofs.lemmas.List.Elements.{All-head, All-tail, All-filter}
use Rattle.std.proofs.Math.Seq.{drop-cons}
use Rattle.shape_data.specs.declared.program.Flow.{Flow}
use Rattle.call_components.proofs.Marking.{holds_push}
use Rattle.component_keys.specs.Components.{holds, by_name}
use Rattle.component_keys.specs.Keys.{is_outer, place_of, outer_at, component_of}
use Rattle.composed_keys.specs.declared.rows.Component.{Component as Row}
use Rattle.composed_keys.specs.Programs.{ArePut, ArePlaces}
use Rattle.composed_keys.specs.Rows.{outer_value, component_value, outer_row, outer_in}

-- ---- values put at places

if_or : {A : Type 0} (a b : Bool) (x y : A) → (if a || b then x else y) ≡ (if b then x else if a then x else y)
if_or true true x y = refl
if_or true false x y = refl
if_or false true x y = refl
if_or false false x y = refl

put_at : (places : List ℕ) (place value number : ℕ) → place < length places →
    get_or (set places place value) number 0 ≡ (if place == number then value else get_or places number 0)
put_at places place value number lt = by_test (place == number) refl
  where
    by_test : (b : Bool) → (place == number) ≡ b → get_or (set places place value) number 0 ≡ (if b then value else get_or places number 0)
    by_test true e = ap (λ n. get_or (set places place value) n 0) (sym ((Decides-eqb place number).0 e))
        ∙ get_or-set_same places place value 0 lt
    by_test false e =
        get_or-set_other places place number value 0
        (λ same. let t : (place == number) ≡ true = (Decides-eqb place number).1 (sym same) in cc)

pub none_put : (value : ℕ) (places : List ℕ) → ArePut [] value places places
none_put value places number = refl

pub more_put : (numbers : List ℕ) (i value : ℕ) (before places : List ℕ) → ArePut (take i numbers) value before places →
    i < length numbers → get_or numbers i 0 < length places →
    ArePut (take (i + 1) numbers) value before (set places (get_or numbers i 0) value)
more_put numbers i value before places put lt within number =
    let one : ℕ = get_or numbers i 0 in
    put_at places one value number within ∙ ap (λ v. if one == number then value else v) (put number) ∙
    sym (ap (λ l. if holds l number then value else get_or before number 0) (take_more numbers i 0 lt)
    ∙ ap (λ b. if b then value else get_or before number 0) (holds_push (take i numbers) one number) ∙
    if_or (holds (take i numbers) number) (one == number) value (get_or before number 0))

-- at first no class tells
pub places_first : (count : ℕ) (all : List (List ℕ)) (places : List ℕ) → places ≡ replicate count (length all) →
    ArePlaces count all (length all) places
places_first count all places is = record {
  lengths = ap length is ∙ length-replicate count (length all);
  each =
      λ number lt. rw (is, drop_all (length all) all (le_refl (length all)))
      (get_or-replicate count number (length all) 0 lt ∙ omega arith);
}

-- one class more, from the end
pub places_more : (count : ℕ) (all : List (List ℕ)) (place : ℕ) (before places : List ℕ) → place < length all →
    ArePlaces count all (place + 1) before → length places ≡ length before →
    ArePut (get_or all place []) place before places → ArePlaces count all place places
places_more count all place before places lt later lengths put = record {
  lengths = lengths ∙ later.lengths;
  each = λ number less. put number ∙ by_test number (holds (get_or all place []) number) refl (later.each number less);
}
  where
    by_test : (number : ℕ) (b : Bool) → holds (get_or all place []) number ≡ b →
        get_or before number 0 ≡ place + 1 + place_of number (drop (place + 1) all) →
        (if b then place else get_or before number 0) ≡ place + place_of number (drop place all)
    by_test number true e old = rw (drop-cons all place [] lt, e) (omega arith)
    by_test number false e old =
        let same : drop (place + 1) all ≡ drop (suc place) all = ap (λ n. drop n all) (let f : place + 1 ≡ suc place = omega arith in f) in
        rw (drop-cons all place [] lt, e) (old ∙ ap (λ l. place + 1 + place_of number l) same ∙ omega arith)

-- ---- procedures outside

pub outer_none : (calls : List (List ℕ)) (places order class : List ℕ) (i : ℕ) → i < length order →
    is_outer calls class (get_or order i 0) ≡ false →
    outer_in calls places (take (i + 1) order) class ≡ outer_in calls places (take i order) class
outer_none calls places order class i lt e =
    ap (λ l. outer_in calls places l class) (take_more order i 0 lt) ∙ filtered_push (take i order) (get_or order i 0) e
  where
    filtered_push : (xs : List ℕ) (x : ℕ) → is_outer calls class x ≡ false →
        outer_in calls places (xs ++ x ∷ []) class ≡ outer_in calls places xs class
    filtered_push [] x f = rw f refl
    filtered_push (y ∷ xs) x f = by_test (is_outer calls class y) (filtered_push xs x f)
      where
        by_test : (b : Bool) → outer_in calls places (xs ++ x ∷ []) class ≡ outer_in calls places xs class →
            map (outer_row places)
            (cond b (y ∷ filter (is_outer calls class) (xs ++ x ∷ [])) (filter (is_outer calls class) (xs ++ x ∷ []))) ≡
            map (outer_row places) (cond b (y ∷ filter (is_outer calls class) xs) (filter (is_outer calls class) xs))
        by_test true again = ap (λ l. outer_row places y ∷ l) again
        by_test false again = again

pub outer_more : (calls : List (List ℕ)) (places order class : List ℕ) (i : ℕ) → i < length order →
    is_outer calls class (get_or order i 0) ≡ true →
    outer_in calls places (take (i + 1) order) class
    ≡ outer_in calls places (take i order) class ++ outer_row places (get_or order i 0) ∷ []
outer_more calls places order class i lt e =
    ap (λ l. outer_in calls places l class) (take_more order i 0 lt) ∙ filtered_push (take i order) (get_or order i 0) e
  where
    filtered_push : (xs : List ℕ) (x : ℕ) → is_outer calls class x ≡ true →
        outer_in calls places (xs ++ x ∷ []) class ≡ outer_in calls places xs class ++ outer_row places x ∷ []
    filtered_push [] x f = rw f refl
    filtered_push (y ∷ xs) x f = by_test (is_outer calls class y) (filtered_push xs x f)
      where
        by_test : (b : Bool) → outer_in calls places (xs ++ x ∷ []) class ≡ outer_in calls places xs class ++ outer_row places x ∷ [] →
            map (outer_row places)
            (cond b (y ∷ filter (is_outer calls class) (xs ++ x ∷ [])) (filter (is_outer calls class) (xs ++ x ∷ []))) ≡
            map (outer_row places) (cond b (y ∷ filter (is_outer calls class) xs) (filter (is_outer calls class) xs)) ++ outer_row places x
            ∷ []
        by_test true again = ap (λ l. outer_row places y ∷ l) again
        by_test false again = again

-- ---- the components

outer_same : (flows : List Flow) (all : List (List ℕ)) (places xs : List ℕ) →
    All (λ number. get_or places number 0 ≡ place_of number all) xs →
    filter_map (outer_value flows) (map (outer_row places) xs) ≡ filter_map (outer_at flows all) xs
outer_same flows all places [] same = refl
outer_same flows all places (x ∷ xs) same =
    rw (
      All-head (λ number. get_or places number 0 ≡ place_of number all) x xs same,
      outer_same flows all places xs
          (All-tail (λ number. get_or places number 0 ≡ place_of number all) x xs same),
    ) refl

component_same : (flows : List Flow) (calls all : List (List ℕ)) (places order class : List ℕ) (row : Row) →
    All (λ number. get_or places number 0 ≡ place_of number all) order → order ≡ by_name (map (λ flow. flow.name) flows) (length flows) →
    row.members.items ≡ class → row.outer.items ≡ outer_in calls places order class →
    component_value flows row ≡ component_of flows calls all class
component_same flows calls all places order class row same is_order members outer =
    let outer_is : filter_map (outer_value flows) row.outer.items
    ≡ filter_map (outer_at flows all) (filter (is_outer calls class) (by_name (map (λ flow. flow.name) flows) (length flows))) =
    ap (filter_map (outer_value flows)) outer ∙
    outer_same flows all places (filter (is_outer calls class) order)
    (All-filter (is_outer calls class) (λ number. get_or places number 0 ≡ place_of number all) order same) ∙
    ap (λ l. filter_map (outer_at flows all) (filter (is_outer calls class) l)) is_order in
    let flows_are : filter_map (slice_get flows) row.members.items ≡ filter_map (slice_get flows) class =
    ap (filter_map (slice_get flows)) members in
    λ i. record { flows = flows_are i; outer = outer_is i }

-- the rows are the components over these classes
pub rows_same : (flows : List Flow) (calls all : List (List ℕ)) (places order : List ℕ) (made : List Row) (classes : List (List ℕ)) →
    All (λ number. get_or places number 0 ≡ place_of number all) order →
    order ≡ by_name (map (λ flow. flow.name) flows) (length flows) → map (λ (row : Row). row.members.items) made ≡ classes →
    map (λ (row : Row). row.outer.items) made ≡ map (outer_in calls places order) classes →
    map (component_value flows) made ≡ map (component_of flows calls all) classes
rows_same flows calls all places order [] [] same is_order members outer = refl
rows_same flows calls all places order [] (class ∷ classes) same is_order members outer = cc
rows_same flows calls all places order (row ∷ made) [] same is_order members outer = cc
rows_same flows calls all places order (row ∷ made) (class ∷ classes) same is_order members outer =
    let here : row.members.items ≡ class = head_same members in
    let there : row.outer.items ≡ outer_in calls places order class = head_same outer in
    rw (
      component_same flows calls all places order class row same is_order here there,
      rows_same flows calls all places order made classes
          same is_order (tail_same members) (tail_same outer),
    ) refl
  where
    head_same : {A : Type 0} {x y : A} {xs ys : List A} → x ∷ xs ≡ y ∷ ys → x ≡ y
    head_same e = cc

    tail_same : {A : Type 0} {x y : A} {xs ys : List A} → x ∷ xs ≡ y ∷ ys → xs ≡ ys
    tail_same e = cc
