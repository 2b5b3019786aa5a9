-- Places of structures that are put behind one after the other.
use Rattle.std.proofs.Common.{◌≡◌, ℕ, ◌+◌, ◌<◌, Bool, true, false, List, [], ◌∷◌, ◌++◌, length, map, take, get_or, slice_get, Some, None}
use Rattle.std.proofs.Common.{Option, refl, sym, ap, ◌∙◌, subst, cond, filter, All, append_assoc}
use Rattle.std.specs.List.{filter_map, flat_map, cons_option}
use Rattle.std.specs.Option.{option_to_list}
use Rattle.std.proofs.lemmas.List.{take_more, append-nil, length-map}
use Rattle.std.proofs.lemmas.Option.{get_or_from_slice_get, slice_get_within}
use Rattle.shape_data.specs.declared.program.StructDef.{StructDef}
use Rattle.std.specs.Prelude.{nat_eq}
use Rattle.std.specs.Cmp.Lexicographic.{pointwise}
use Rattle.std.proofs.lemmas.List.Elements.{All-nil, All-cons, filter_agree}
use Rattle.shape_data.specs.declared.answer.Callee.{Callee}
use Rattle.shape_data.specs.declared.program.Field.{Field}
use Rattle.shape_data.specs.declared.program.Flow.{Flow}
use Rattle.component_keys.specs.Components.{holds, calls_of, reached_from, by_name}
use Rattle.component_keys.specs.Structures.{struct_number, struct_numbers, pointed_by, pointed_rows, named_numbers, structs_used}
use Rattle.component_keys.specs.Structures.{type_struct}
use Rattle.component_keys.proofs.Basics.{not_none, mapped_some, at_map}
use Rattle.component_keys.proofs.Ordered.{held_at}
use Rattle.call_components.specs.Reaching.{AreReached, marked}
use Rattle.composed_keys.proofs.Calls.{nothing_at, position_within}
use Rattle.composed_keys.specs.StructureOrder.{AreInOrder}
use Rattle.composed_keys.specs.Used.{noted}

filter_map_append : {X Y : Type 0} (f : X → Option Y) (xs ys : List X) → filter_map f (xs ++ ys) ≡ filter_map f xs ++ filter_map f ys
filter_map_append f [] ys = refl
filter_map_append {X = X} {Y = Y} f (x ∷ xs) ys = by_option (f x) (filter_map_append f xs ys)
  where
    by_option : (o : Option Y) → filter_map f (xs ++ ys) ≡ filter_map f xs ++ filter_map f ys →
        cons_option o (filter_map f (xs ++ ys)) ≡ cons_option o (filter_map f xs) ++ filter_map f ys
    by_option None e = e
    by_option (Some y) e = ap (λ l. y ∷ l) e

flat_map_push : {X Y : Type 0} (f : X → List Y) (xs : List X) (x : X) → flat_map f (xs ++ x ∷ []) ≡ flat_map f xs ++ f x
flat_map_push f [] x = append-nil (f x)
flat_map_push f (y ∷ xs) x = ap (λ l. f y ++ l) (flat_map_push f xs x) ∙ sym (append_assoc (f y) (flat_map f xs) (f x))

one_more : {X Y : Type 0} (f : X → Option Y) (xs : List X) (x : X) → filter_map f (xs ++ x ∷ []) ≡ filter_map f xs ++ option_to_list (f x)
one_more {Y = Y} f xs x = filter_map_append f xs (x ∷ []) ∙ ap (λ l. filter_map f xs ++ l) (by_option (f x))
  where
    by_option : (o : Option Y) → cons_option o [] ≡ option_to_list o
    by_option None = refl
    by_option (Some y) = refl

-- two pieces
pub numbers_append : (structs : List StructDef) (xs ys : List (List ℕ)) (old : List ℕ) →
    (old ++ struct_numbers structs xs) ++ struct_numbers structs ys ≡ old ++ struct_numbers structs (xs ++ ys)
numbers_append structs xs ys old = append_assoc old (struct_numbers structs xs) (struct_numbers structs ys)
    ∙ ap (λ l. old ++ l) (sym (filter_map_append (struct_number structs) xs ys))

-- what two calls and three calls put behind
pub two_noted : (structs : List StructDef) (old a b : List ℕ) (xs ys : List (List ℕ)) → a ≡ old ++ struct_numbers structs xs →
    b ≡ a ++ struct_numbers structs ys → b ≡ old ++ struct_numbers structs (xs ++ ys)
two_noted structs old a b xs ys first second = second ∙ ap (λ l. l ++ struct_numbers structs ys) first ∙ numbers_append structs xs ys old

pub three_noted : (structs : List StructDef) (old a b c : List ℕ) (xs ys zs : List (List ℕ)) → a ≡ old ++ struct_numbers structs xs →
    b ≡ a ++ struct_numbers structs ys → c ≡ b ++ struct_numbers structs zs →
    c ≡ old ++ struct_numbers structs (xs ++ ys ++ zs)
three_noted structs old a b c xs ys zs first second third =
    two_noted structs old b c (xs ++ ys) zs (two_noted structs old a b xs ys first second) third

-- the places of structures are below their number
pub numbers_below : (structs : List StructDef) (names : List (List ℕ)) →
    All (λ number. number < length structs) (struct_numbers structs names)
numbers_below structs [] = All-nil (λ number. number < length structs)
numbers_below structs (name ∷ names) = by_option (struct_number structs name) refl (numbers_below structs names)
  where
    by_option : (o : Option ℕ) → struct_number structs name ≡ o → All (λ number. number < length structs) (struct_numbers structs names) →
        All (λ number. number < length structs) (cons_option o (struct_numbers structs names))
    by_option None e again = again
    by_option (Some number) e again =
        All-cons (λ n. n < length structs) number (struct_numbers structs names)
        (position_within (λ (def : StructDef). pointwise nat_eq def.name name) structs number e) again

pub pointed_defined : (structs : List StructDef) (number callee : ℕ) → holds (calls_of (pointed_rows structs) number) callee ≡ true →
    callee < length (pointed_rows structs)
pointed_defined structs number callee h =
    subst (λ n. callee < n) (sym (length-map structs (pointed_by structs))) (by_row (slice_get (pointed_rows structs) number) refl)
  where
    row : List ℕ
    row = calls_of (pointed_rows structs) number

    by_row : (o : Option (List ℕ)) → slice_get (pointed_rows structs) number ≡ o → callee < length structs
    by_row None e =
        let place = held_at row callee h in
        not_none (ap (λ l. slice_get l place.0) (sym (nothing_at (pointed_rows structs) number e)) ∙ place.1)
    by_row (Some own) e =
        let def = mapped_some (pointed_by structs) (slice_get structs number) own (sym (at_map (pointed_by structs) structs number) ∙ e) in
        let same : row ≡ pointed_by structs def.0 = get_or_from_slice_get (pointed_rows structs) number own [] e ∙ def.2 in
        let place = held_at row callee h in
        let at : slice_get (pointed_by structs def.0) place.0 ≡ Some callee = ap (λ r. slice_get r place.0) (sym same) ∙ place.1 in
        subst (λ n. n < length structs) (get_or_from_slice_get (pointed_by structs def.0) place.0 callee callee at)
        (numbers_below structs (filter_map (λ (field : Field). type_struct field.ty) def.0.fields) place.0 callee
        (slice_get_within (pointed_by structs def.0) place.0 callee at))

-- the order of the structures is that of their names
pub order_is : (structs : List StructDef) (names : List (List ℕ)) (order : List ℕ) → AreInOrder structs names order →
    order ≡ by_name (map (λ (def : StructDef). def.name) structs) (length structs)
order_is structs names order are = are.sorted ∙ ap (λ n. by_name n (length n)) are.named
    ∙ ap (by_name (map (λ (def : StructDef). def.name) structs)) (length-map structs (λ def. def.name))

-- the structures at the marked places
abbrev pub shown_at : List StructDef → List Bool → List ℕ → List StructDef
shown_at structs marks order = filter_map (slice_get structs) (filter (marked marks) order)

-- the structures used are those at the marked places
pub used_are : (structs : List StructDef) (flows : List Flow) (callees : List Callee) (numbers order : List ℕ) (marks : List Bool)
    (calls : List (List ℕ)) → calls ≡ pointed_rows structs → numbers ≡ named_numbers structs flows callees →
    order ≡ by_name (map (λ (def : StructDef). def.name) structs) (length structs) → AreReached calls numbers marks →
    filter_map (slice_get structs) (filter (marked marks) order) ≡ structs_used structs flows callees
unfolding structs_used
used_are structs flows callees numbers order marks calls is_calls is_numbers is_order reached_are =
    ap (filter_map (slice_get structs)) (filter_agree (marked marks) (holds (reached_from calls numbers)) reached_are order) ∙
    ap (λ c. filter_map (slice_get structs) (filter (holds (reached_from c numbers)) order)) is_calls ∙
    ap (λ n. filter_map (slice_get structs) (filter (holds (reached_from (pointed_rows structs) n)) order)) is_numbers ∙
    ap (λ o. filter_map (slice_get structs)
    (filter (holds (reached_from (pointed_rows structs) (named_numbers structs flows callees))) o)) is_order

-- a turn of a loop over things that may name one structure
pub more_named : {X : Type 0} (structs : List StructDef) (f : X → Option (List ℕ)) (xs : List X) (i : ℕ) (x : X)
    (before now later : List ℕ) → now ≡ before ++ struct_numbers structs (filter_map f (take i xs)) → i < length xs → x ≡ get_or xs i x →
    later ≡ noted structs now (f x) → later ≡ before ++ struct_numbers structs (filter_map f (take (i + 1) xs))
more_named structs f xs i x before now later so_far lt is more =
    more ∙ ap (λ l. l ++ struct_numbers structs (option_to_list (f x))) so_far
    ∙ numbers_append structs (filter_map f (take i xs)) (option_to_list (f x)) before ∙
    ap (λ l. before ++ struct_numbers structs l)
    (sym (ap (filter_map f) (take_more xs i x lt ∙ ap (λ y. take i xs ++ y ∷ []) (sym is)) ∙ one_more f (take i xs) x))

-- over things that name lists of them
pub more_names : {X : Type 0} (structs : List StructDef) (f : X → List (List ℕ)) (xs : List X) (i : ℕ) (x : X) (before now later : List ℕ) →
    now ≡ before ++ struct_numbers structs (flat_map f (take i xs)) → i < length xs → x ≡ get_or xs i x →
    later ≡ now ++ struct_numbers structs (f x) → later ≡ before ++ struct_numbers structs (flat_map f (take (i + 1) xs))
more_names structs f xs i x before now later so_far lt is more =
    more ∙ ap (λ l. l ++ struct_numbers structs (f x)) so_far ∙ numbers_append structs (flat_map f (take i xs)) (f x) before ∙
    ap (λ l. before ++ struct_numbers structs l)
    (sym (ap (flat_map f) (take_more xs i x lt ∙ ap (λ y. take i xs ++ y ∷ []) (sym is)) ∙ flat_map_push f (take i xs) x))

-- ---- structures at marked places

pub taken_one : {A : Type 0} (things : List A) (test : ℕ → Bool) (order : List ℕ) (i : ℕ) (x : A) → i < length order →
    test (get_or order i 0) ≡ true → slice_get things (get_or order i 0) ≡ Some x →
    filter_map (slice_get things) (filter test (take (i + 1) order)) ≡ filter_map (slice_get things) (filter test (take i order)) ++ x ∷ []
taken_one {A = A} things test order i x lt passes at =
    ap (λ l. filter_map (slice_get things) (filter test l)) (take_more order i 0 lt) ∙ pushed (take i order)
  where
    pushed : (ks : List ℕ) →
        filter_map (slice_get things) (filter test (ks ++ get_or order i 0 ∷ [])) ≡ filter_map (slice_get things) (filter test ks) ++ x ∷ []
    pushed [] = rw (passes, at) refl
    pushed (k ∷ ks) = by_test (test k) (pushed ks)
      where
        by_test : (b : Bool) →
            filter_map (slice_get things) (filter test (ks ++ get_or order i 0 ∷ []))
            ≡ filter_map (slice_get things) (filter test ks) ++ x ∷ [] →
            filter_map (slice_get things)
            (cond b (k ∷ filter test (ks ++ get_or order i 0 ∷ [])) (filter test (ks ++ get_or order i 0 ∷ [])))
            ≡ filter_map (slice_get things) (cond b (k ∷ filter test ks) (filter test ks)) ++ x ∷ []
        by_test false again = again
        by_test true again = by_found (slice_get things k) again
          where
            by_found : (o : Option A) →
                filter_map (slice_get things) (filter test (ks ++ get_or order i 0 ∷ []))
                ≡ filter_map (slice_get things) (filter test ks) ++ x ∷ [] →
                cons_option o (filter_map (slice_get things) (filter test (ks ++ get_or order i 0 ∷ [])))
                ≡ cons_option o (filter_map (slice_get things) (filter test ks)) ++ x ∷ []
            by_found None e = e
            by_found (Some y) e = ap (λ l. y ∷ l) e

pub taken_none : {A : Type 0} (things : List A) (test : ℕ → Bool) (order : List ℕ) (i : ℕ) → i < length order →
    test (get_or order i 0) ≡ false →
    filter_map (slice_get things) (filter test (take (i + 1) order)) ≡ filter_map (slice_get things) (filter test (take i order))
taken_none things test order i lt fails = ap (λ l. filter_map (slice_get things) (filter test l)) (take_more order i 0 lt)
    ∙ ap (filter_map (slice_get things)) (pushed (take i order))
  where
    pushed : (ks : List ℕ) → filter test (ks ++ get_or order i 0 ∷ []) ≡ filter test ks
    pushed [] = rw fails refl
    pushed (k ∷ ks) = by_test (test k) (pushed ks)
      where
        by_test : (b : Bool) → filter test (ks ++ get_or order i 0 ∷ []) ≡ filter test ks →
            cond b (k ∷ filter test (ks ++ get_or order i 0 ∷ [])) (filter test (ks ++ get_or order i 0 ∷ []))
            ≡ cond b (k ∷ filter test ks) (filter test ks)
        by_test true again = ap (λ l. k ∷ l) again
        by_test false again = again

-- one more thing by its place
pub more_at : {A : Type 0} (things : List A) (places : List ℕ) (i : ℕ) (x : A) → i < length places →
    slice_get things (get_or places i 0) ≡ Some x →
    filter_map (slice_get things) (take (i + 1) places) ≡ filter_map (slice_get things) (take i places) ++ x ∷ []
more_at things places i x lt at =
    ap (filter_map (slice_get things)) (take_more places i 0 lt)
    ∙ filter_map_append (slice_get things) (take i places) (get_or places i 0 ∷ []) ∙
    ap (λ o. filter_map (slice_get things) (take i places) ++ cons_option o []) at
