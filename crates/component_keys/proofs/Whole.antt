-- Each procedure stands in a class of the list, where names differ and whoever is called is defined.
use Rattle.std.proofs.Common.{◌≡◌, ℕ, zero, suc, ◌<◌, ◌≤◌, ◌==◌, Bool, true, false, cond, ◌&&◌, ◌||◌, not, List, [], ◌∷◌, ◌++◌, length}
use Rattle.std.proofs.Common.{slice_get, get_or, Some, None, Option, refl, sym, ap, ◌∙◌, subst, ⊎_elim, find, filter, filter_map}
use Rattle.std.proofs.Common.{option_map, arith, le_trans, ◌≢◌, true≢false}
use Rattle.std.specs.List.{list_any, list_all, range_with_len, cons_option}
use Rattle.std.specs.Prelude.{if◌then◌else◌, slice_index_or}
use Rattle.std.specs.Ordering.{nat_cmp, is_lt}
use Rattle.std.specs.Cmp.Lexicographic.{slice_cmp}
use Rattle.std.proofs.lemmas.Bool.Decides.{Decides-eqb}
use Rattle.std.proofs.lemmas.List.Elements.{filter_agree}
use Rattle.std.proofs.lemmas.List.{length-map}
use Rattle.std.proofs.lemmas.Option.{slice_get-get_or}
use Rattle.component_keys.specs.Components.{same_names, holds, calls_of, is_called_new, with_called, reached_after, reached, are_mutual}
use Rattle.component_keys.specs.Components.{in_name_order, by_name, class_of, is_first, classes, names_at, is_next, with_next, listed_after}
use Rattle.component_keys.specs.Components.{components}
use Rattle.component_keys.specs.Laws.{IsCallGraph}
use Rattle.component_keys.proofs.Basics.{filter_less, both_true, one_true, not_true, not_none, some_same, mapped_some, found, at_left}
use Rattle.component_keys.proofs.Basics.{at_end, at_map}
use Rattle.component_keys.proofs.Apart.{names_same}
use Rattle.component_keys.proofs.Ordered.{some_passes, held_at}
use Rattle.component_keys.proofs.Reach.{passing_at_most, holds_left, any_passes, holds_at, none_found, passing, fewer, reached_is_closed}
use Rattle.component_keys.proofs.Reach.{reached_is_least}

-- ---- lists

pub both_are : (a b : Bool) → a ≡ true → b ≡ true → (a && b) ≡ true
both_are a b e f = rw (e, f) refl

pub left_or : (a b : Bool) → a ≡ true → (a || b) ≡ true
left_or a b e = rw e refl

pub right_or : (a b : Bool) → b ≡ true → (a || b) ≡ true
right_or true b e = refl
right_or false b e = e

pub same_answers : (a b : Bool) → (a ≡ true → b ≡ true) → (b ≡ true → a ≡ true) → a ≡ b
same_answers true b h k = sym (h refl)
same_answers false true h k = k refl
same_answers false false h k = refl

pub all_pass : {X : Type 0} (p : X → Bool) (xs : List X) → ((i : ℕ) (x : X) → slice_get xs i ≡ Some x → p x ≡ true) → list_all p xs ≡ true
all_pass p [] h = refl
all_pass p (x ∷ xs) h = both_are (p x) (list_all p xs) (h 0 x refl) (all_pass p xs (λ i y e. h (suc i) y e))

pub filtered : (p : ℕ → Bool) (xs : List ℕ) (x : ℕ) → holds (filter p xs) x ≡ true → (p x ≡ true) × (holds xs x ≡ true)
filtered p [] x h = cc
filtered p (first ∷ xs) x h = by_test (p first) refl h (filtered p xs x)
  where
    by_test : (b : Bool) → p first ≡ b → holds (cond b (first ∷ filter p xs) (filter p xs)) x ≡ true →
        (holds (filter p xs) x ≡ true → (p x ≡ true) × (holds xs x ≡ true)) →
        (p x ≡ true) × (holds (first ∷ xs) x ≡ true)
    by_test true e g again =
        ⊎_elim (λ same. (subst (λ y. p y ≡ true) ((Decides-eqb first x).0 same) e, left_or (first == x) (holds xs x) same))
        (λ later. let old = again later in (old.0, right_or (first == x) (holds xs x) old.1))
        (one_true (first == x) (holds (filter p xs) x) g)
    by_test false e g again = let old = again g in (old.0, right_or (first == x) (holds xs x) old.1)

pub in_filter : {X : Type 0} (p : X → Bool) (xs : List X) (i : ℕ) (x : X) → slice_get xs i ≡ Some x → p x ≡ true →
    (j : ℕ) × (slice_get (filter p xs) j ≡ Some x)
in_filter p [] i x e t = not_none e
in_filter p (first ∷ xs) zero x e t = (0, rw (subst (λ y. p y ≡ true) (sym (some_same e)) t) e)
in_filter {X = X} p (first ∷ xs) (suc i) x e t = by_test (p first) (in_filter p xs i x e t)
  where
    by_test : (b : Bool) → (j : ℕ) × (slice_get (filter p xs) j ≡ Some x) →
        (j : ℕ) × (slice_get (cond b (first ∷ filter p xs) (filter p xs)) j ≡ Some x)
    by_test true old = (suc old.0, old.1)
    by_test false old = old

pub in_filter_holds : (p : ℕ → Bool) (xs : List ℕ) (x : ℕ) → holds xs x ≡ true → p x ≡ true → holds (filter p xs) x ≡ true
in_filter_holds p xs x h t =
    let place = held_at xs x h in let there = in_filter p xs place.0 x place.1 t in holds_at (filter p xs) there.0 x there.1

pub in_filter_map : {X Y : Type 0} (f : X → Option Y) (xs : List X) (i : ℕ) (x : X) (y : Y) → slice_get xs i ≡ Some x → f x ≡ Some y →
    (j : ℕ) × (slice_get (filter_map f xs) j ≡ Some y)
in_filter_map f [] i x y e g = not_none e
in_filter_map f (first ∷ xs) zero x y e g = (0, rw (subst (λ z. f z ≡ Some y) (sym (some_same e)) g) refl)
in_filter_map {Y = Y} f (first ∷ xs) (suc i) x y e g = by_option (f first) (in_filter_map f xs i x y e g)
  where
    by_option : (o : Option Y) → (j : ℕ) × (slice_get (filter_map f xs) j ≡ Some y) →
        (j : ℕ) × (slice_get (cons_option o (filter_map f xs)) j ≡ Some y)
    by_option None old = old
    by_option (Some z) old = (suc old.0, old.1)

pub from_filter_map : {X Y : Type 0} (f : X → Option Y) (xs : List X) (j : ℕ) (y : Y) → slice_get (filter_map f xs) j ≡ Some y →
    (i : ℕ) × (x : X) × (slice_get xs i ≡ Some x) × (f x ≡ Some y)
from_filter_map f [] j y e = not_none e
from_filter_map {X = X} {Y = Y} f (x ∷ xs) j y e = by_option (f x) refl j e (from_filter_map f xs)
  where
    by_option : (o : Option Y) → f x ≡ o → (k : ℕ) → slice_get (cons_option o (filter_map f xs)) k ≡ Some y →
        ((n : ℕ) (z : Y) → slice_get (filter_map f xs) n ≡ Some z → (i : ℕ) × (w : X) × (slice_get xs i ≡ Some w) × (f w ≡ Some z)) →
        (i : ℕ) × (w : X) × (slice_get (x ∷ xs) i ≡ Some w) × (f w ≡ Some y)
    by_option None g k at again = let old = again k y at in (suc old.0, old.1, old.2, old.3)
    by_option (Some z) g zero at again = (0, x, refl, g ∙ at)
    by_option (Some z) g (suc k) at again = let old = again k y at in (suc old.0, old.1, old.2, old.3)

-- ---- numbers in order of names

order_new : (names : List (List ℕ)) (number : ℕ) (xs : List ℕ) → holds (in_name_order names number xs) number ≡ true
order_new names number [] = left_or (number == number) false ((Decides-eqb number number).1 refl)
order_new names number (first ∷ others) =
    by_test (is_lt (slice_cmp nat_cmp (slice_index_or names number []) (slice_index_or names first []))) (order_new names number others)
  where
    by_test : (b : Bool) → holds (in_name_order names number others) number ≡ true →
        holds (if b then number ∷ first ∷ others else first ∷ in_name_order names number others) number ≡ true
    by_test true again = left_or (number == number) (holds (first ∷ others) number) ((Decides-eqb number number).1 refl)
    by_test false again = right_or (first == number) (holds (in_name_order names number others) number) again

order_old : (names : List (List ℕ)) (number : ℕ) (xs : List ℕ) (x : ℕ) → holds xs x ≡ true → holds (in_name_order names number xs) x ≡ true
order_old names number [] x h = cc
order_old names number (first ∷ others) x h =
    by_test (is_lt (slice_cmp nat_cmp (slice_index_or names number []) (slice_index_or names first []))) (order_old names number others x)
  where
    by_test : (b : Bool) → (holds others x ≡ true → holds (in_name_order names number others) x ≡ true) →
        holds (if b then number ∷ first ∷ others else first ∷ in_name_order names number others) x ≡ true
    by_test true again = right_or (number == x) (holds (first ∷ others) x) h
    by_test false again =
        ⊎_elim (λ same. left_or (first == x) (holds (in_name_order names number others) x) same)
        (λ later. right_or (first == x) (holds (in_name_order names number others) x) (again later))
        (one_true (first == x) (holds others x) h)

-- each number below is in the list
pub by_name_holds : (names : List (List ℕ)) (n i : ℕ) → i < n → holds (by_name names n) i ≡ true
by_name_holds names zero i lt = absurd (omega (arith, lt))
by_name_holds names (suc n) i lt = by_test (i == n) refl (by_name_holds names n i)
  where
    by_test : (b : Bool) → (i == n) ≡ b → (i < n → holds (by_name names n) i ≡ true) →
        holds (in_name_order names n (by_name names n)) i ≡ true
    by_test true e again =
        subst (λ k. holds (in_name_order names n (by_name names n)) k ≡ true) (sym ((Decides-eqb i n).0 e))
        (order_new names n (by_name names n))
    by_test false e again =
        let other : i ≢ n = λ same. let t : (i == n) ≡ true = (Decides-eqb i n).1 same in absurd (true≢false (sym t ∙ e)) in
        order_old names n (by_name names n) i (again (omega (arith, lt, other)))

length-in_name_order : (names : List (List ℕ)) (number : ℕ) (xs : List ℕ) → length (in_name_order names number xs) ≡ suc (length xs)
length-in_name_order names number [] = refl
length-in_name_order names number (first ∷ others) =
    by_test (is_lt (slice_cmp nat_cmp (slice_index_or names number []) (slice_index_or names first [])))
    (length-in_name_order names number others)
  where
    by_test : (b : Bool) → length (in_name_order names number others) ≡ suc (length others) →
        length (if b then number ∷ first ∷ others else first ∷ in_name_order names number others) ≡ suc (suc (length others))
    by_test true again = refl
    by_test false again = ap (λ n. suc n) again

pub length-by_name : (names : List (List ℕ)) (n : ℕ) → length (by_name names n) ≡ n
length-by_name names zero = refl
length-by_name names (suc n) = length-in_name_order names n (by_name names n) ∙ ap (λ k. suc k) (length-by_name names n)

classes_few : (names calls : List (List ℕ)) → length (classes calls (by_name names (length names))) ≤ length names
classes_few names calls =
    let all : List ℕ = by_name names (length names) in
    let fewer_leaders : length (filter (λ number. is_first number (class_of calls all number)) all) ≤ length all = filter_less _ all in
    rw (length-map)
    (subst (λ n. length (filter (λ number. is_first number (class_of calls all number)) all) ≤ n)
    (length-by_name names (length names)) fewer_leaders)

pub reached_keeps : (turns : ℕ) (calls : List (List ℕ)) (seen : List ℕ) (x : ℕ) → holds seen x ≡ true →
    holds (reached_after turns calls seen) x ≡ true
reached_keeps zero calls seen x h = h
reached_keeps (suc turns) calls seen x h =
    by_found (find (is_called_new calls seen) (range_with_len 0 (length calls))) (reached_keeps turns calls)
  where
    by_found : (o : Option ℕ) → ((more : List ℕ) (y : ℕ) → holds more y ≡ true → holds (reached_after turns calls more) y ≡ true) →
        holds (with_called (reached_after turns calls) seen o) x ≡ true
    by_found None again = h
    by_found (Some new) again = again (seen ++ new ∷ []) x (holds_left seen new x h)

-- ---- a graph of calls

module _ (names calls : List (List ℕ)) (graph : IsCallGraph names calls) where
  abbrev pub order : List ℕ
  order = by_name names (length names)

  abbrev pub Reaches : ℕ → ℕ → Type 0
  Reaches i j = holds (reached calls i) j ≡ true

  pub reach_self : (i : ℕ) → Reaches i i
  reach_self i = reached_keeps (length calls) calls (i ∷ []) i (left_or (i == i) false ((Decides-eqb i i).1 refl))

  pub reach_through : (i j k : ℕ) → Reaches i j → Reaches j k → Reaches i k
  reach_through i j k ij jk =
      reached_is_least calls j (λ x. holds (reached calls i) x ≡ true)
      (λ one callee p c. reached_is_closed calls i one callee p c (graph.defined one callee c)) ij k jk

  pub reach_call : (i k : ℕ) → holds (calls_of calls i) k ≡ true → Reaches i k
  reach_call i k c = reached_is_closed calls i i k (reach_self i) c (graph.defined i k c)

  pub mutual_parts : (i j : ℕ) → are_mutual calls i j ≡ true → Reaches i j × Reaches j i
  mutual_parts i j e = both_true (holds (reached calls i) j) (holds (reached calls j) i) e

  pub mutual_of : (i j : ℕ) → Reaches i j → Reaches j i → are_mutual calls i j ≡ true
  mutual_of i j ij ji = both_are (holds (reached calls i) j) (holds (reached calls j) i) ij ji

  below : (i : ℕ) → i < length calls → i < length names
  below i lt = rw graph.lengths lt

  pub in_class : (i j : ℕ) → j < length calls → are_mutual calls i j ≡ true → holds (class_of calls order i) j ≡ true
  in_class i j lt e = in_filter_holds (are_mutual calls i) order j (by_name_holds names (length names) j (below j lt)) e

  pub class_in : (i j : ℕ) → holds (class_of calls order i) j ≡ true → (are_mutual calls i j ≡ true) × (holds order j ≡ true)
  class_in i j h = filtered (are_mutual calls i) order j h

  pub same_class : (i j : ℕ) → are_mutual calls i j ≡ true → class_of calls order i ≡ class_of calls order j
  same_class i j e =
      let ij = mutual_parts i j e in
      filter_agree (are_mutual calls i) (are_mutual calls j)
      (λ x. same_answers (are_mutual calls i x) (are_mutual calls j x)
      (λ ix. let p = mutual_parts i x ix in mutual_of j x (reach_through j i x ij.1 p.0) (reach_through x i j p.1 ij.0))
      (λ jx. let p = mutual_parts j x jx in mutual_of i x (reach_through i j x ij.0 p.0) (reach_through x j i p.1 ij.1))) order

  -- the class of a procedure is one of the classes
  pub class_place : (i : ℕ) → i < length calls → (p : ℕ) × (slice_get (classes calls order) p ≡ Some (class_of calls order i))
  class_place i lt = by_class (class_of calls order i) refl (in_class i i lt (mutual_of i i (reach_self i) (reach_self i)))
    where
      by_class : (xs : List ℕ) → class_of calls order i ≡ xs → holds xs i ≡ true →
          (p : ℕ) × (slice_get (classes calls order) p ≡ Some (class_of calls order i))
      by_class [] e h = cc
      by_class (d ∷ xs) e h =
          let parts = class_in i d (ap (λ ys. holds ys d) e ∙ left_or (d == d) (holds xs d) ((Decides-eqb d d).1 refl)) in
          let same : class_of calls order i ≡ class_of calls order d = same_class i d parts.0 in
          let leads : is_first d (class_of calls order d) ≡ true =
          subst (λ ys. is_first d ys ≡ true) (sym e ∙ same) ((Decides-eqb d d).1 refl) in
          let place = held_at order d parts.1 in
          let there = in_filter (λ number. is_first number (class_of calls order number)) order place.0 d place.1 leads in (
            there.0,
            at_map (class_of calls order) (filter (λ number. is_first number (class_of calls order number)) order) there.0
                ∙ ap (option_map (class_of calls order)) there.1 ∙ ap (λ ys. Some ys) (sym same),
          )

  -- ---- listed classes

  abbrev pub is_listed : List (List ℕ) → List ℕ → Bool
  is_listed listed class = list_any (λ other. same_names (names_at names other) (names_at names class)) listed

  pub in_listed : (listed : List (List ℕ)) (class : List ℕ) (k : ℕ) → is_listed listed class ≡ true → holds class k ≡ true →
      k < length calls →
      (p : ℕ) × (other : List ℕ) × (slice_get listed p ≡ Some other) × (holds other k ≡ true)
  in_listed listed class k listed_is h lt =
      let one = some_passes (λ other. same_names (names_at names other) (names_at names class)) listed listed_is in
      let same : names_at names one.1 ≡ names_at names class = (names_same (names_at names one.1) (names_at names class)).0 one.3 in
      let place = held_at class k h in
      let named = slice_get-get_or names k [] (below k lt) in
      let there = in_filter_map (slice_get names) class place.0 k (get_or names k []) place.1 named in
      let from = from_filter_map (slice_get names) one.1 there.0 (get_or names k []) (ap (λ ys. slice_get ys there.0) same ∙ there.1) in
      let is_k : from.1 ≡ k = graph.differ from.1 k (get_or names k []) from.3 named in
      (one.0, one.1, one.2, holds_at one.1 from.0 k (from.2 ∙ ap (λ n. Some n) is_k))

  -- how many a procedure reaches
  abbrev size : ℕ → ℕ
  size i = passing (λ x. holds (reached calls i) x) order

  smaller : (l k : ℕ) → holds order l ≡ true → Reaches l k → (Reaches k l → ⊥) → size k < size l
  smaller l k h lk away =
      let place = held_at order l h in
      fewer (λ x. holds (reached calls l) x) (λ x. holds (reached calls k) x) order (λ x kx. reach_through l k x lk kx) place.0 l place.1
      (reach_self l) (by_test (holds (reached calls k) l) refl)
    where
      by_test : (b : Bool) → holds (reached calls k) l ≡ b → b ≡ false
      by_test false e = refl
      by_test true e = absurd (away e)

  -- where no class is next, each is listed
  none_next : (bound : ℕ) (listed : List (List ℕ)) → find (is_next names calls listed) (classes calls order) ≡ None →
      (p l : ℕ) → holds order l ≡ true → slice_get (classes calls order) p ≡ Some (class_of calls order l) → size l < bound →
      is_listed listed (class_of calls order l) ≡ true
  none_next zero listed none p l h at lt = absurd (omega (arith, lt))
  none_next (suc bound) listed none p l h at lt = by_listed (is_listed listed (class_of calls order l)) refl (none_next bound listed none)
    where
      class : List ℕ
      class = class_of calls order l

      by_listed : (b : Bool) → is_listed listed class ≡ b →
          ((q m : ℕ) → holds order m ≡ true → slice_get (classes calls order) q ≡ Some (class_of calls order m) → size m < bound →
          is_listed listed (class_of calls order m) ≡ true) → b ≡ true
      by_listed true e again = refl
      by_listed false e again =
          let ready : list_all
          (λ number. list_all (λ callee. holds class callee || list_any (λ other. holds other callee) listed)
          (calls_of calls number)) class ≡ true =
          all_pass _ class
          (λ i number at_i. all_pass _ (calls_of calls number)
          (λ j callee at_j. callee_ready number callee (holds_at class i number at_i) (holds_at (calls_of calls number) j callee at_j)
          (holds class callee) refl)) in
          let is_new : is_next names calls listed class ≡ true = both_are (not (is_listed listed class)) _ (ap not e) ready in
          let is_not : is_next names calls listed class ≡ false =
          none_found (is_next names calls listed) (classes calls order) p class none at in
          absurd (true≢false (sym is_new ∙ is_not))
        where
          callee_ready : (number callee : ℕ) → holds class number ≡ true → holds (calls_of calls number) callee ≡ true → (b : Bool) →
              holds class callee ≡ b →
              (b || list_any (λ other. holds other callee) listed) ≡ true
          callee_ready number callee member c true f = refl
          callee_ready number callee member c false f =
              let defined : callee < length calls = graph.defined number callee c in
              let to = mutual_parts l number (class_in l number member).0 in
              let reaches_it : Reaches l callee = reach_through l number callee to.0 (reach_call number callee c) in
              let away : Reaches callee l → ⊥ =
              λ back. true≢false (sym (in_class l callee defined (mutual_of l callee reaches_it back)) ∙ f) in
              let less : size callee < size l = smaller l callee h reaches_it away in
              let place = class_place callee defined in
              let is_there : is_listed listed (class_of calls order callee) ≡ true =
              again place.0 callee (by_name_holds names (length names) callee (below callee defined)) place.1 (omega (arith, less, lt)) in
              let there =
              in_listed listed (class_of calls order callee) callee is_there
              (in_class callee callee defined (mutual_of callee callee (reach_self callee) (reach_self callee))) defined in
              any_passes (λ other. holds other callee) listed there.0 there.1 there.2 there.3

  -- ---- after as many turns as there are procedures

  abbrev is_unlisted : List (List ℕ) → List ℕ → Bool
  is_unlisted listed class = not (is_listed listed class)

  -- each class is that of one of its procedures
  pub class_from : (p : ℕ) (class : List ℕ) → slice_get (classes calls order) p ≡ Some class →
      (l : ℕ) × (holds order l ≡ true) × (class ≡ class_of calls order l)
  class_from p class at =
      let leaders : List ℕ = filter (λ number. is_first number (class_of calls order number)) order in
      let from = mapped_some (class_of calls order) (slice_get leaders p) class (sym (at_map (class_of calls order) leaders p) ∙ at) in (
        from.0,
        (filtered (λ number. is_first number (class_of calls order number)) order from.0
            (holds_at leaders p from.0 from.1)).1,
        from.2,
      )

  all_listed : (turns : ℕ) (listed : List (List ℕ)) → passing (is_unlisted listed) (classes calls order) ≤ turns →
      (p : ℕ) (class : List ℕ) → slice_get (classes calls order) p ≡ Some class →
      is_listed (listed_after turns names calls (classes calls order) listed) class ≡ true
  all_listed zero listed few p class at = by_test (is_listed listed class) refl
    where
      by_test : (b : Bool) → is_listed listed class ≡ b → b ≡ true
      by_test true e = refl
      by_test false e =
          let some : passing (λ (c : List ℕ). false) (classes calls order) < passing (is_unlisted listed) (classes calls order) =
          fewer (is_unlisted listed) (λ c. false) (classes calls order) (λ x f. cc) p class at (ap not e) refl in
          absurd (omega (arith, some, few))
  all_listed (suc turns) listed few p class at = by_found (find (is_next names calls listed) (classes calls order)) refl (all_listed turns)
    where
      by_found : (o : Option (List ℕ)) → find (is_next names calls listed) (classes calls order) ≡ o →
          ((more : List (List ℕ)) → passing (is_unlisted more) (classes calls order) ≤ turns → (q : ℕ) (c : List ℕ) →
          slice_get (classes calls order) q ≡ Some c →
          is_listed (listed_after turns names calls (classes calls order) more) c ≡ true) →
          is_listed (with_next (listed_after turns names calls (classes calls order)) listed o) class ≡ true
      by_found None e again =
          let from = class_from p class at in
          subst (λ c. is_listed listed c ≡ true) (sym from.2)
          (none_next (suc (size from.0)) listed e p from.0 from.1 (at ∙ ap (λ c. Some c) from.2) (omega arith))
      by_found (Some new) e again =
          let there = found (is_next names calls listed) (classes calls order) new e in
          let is_new : is_unlisted listed new ≡ true = (both_true (is_unlisted listed new) _ there.0).0 in
          let now_listed : is_listed (listed ++ new ∷ []) new ≡ true =
          any_passes (λ other. same_names (names_at names other) (names_at names new)) (listed ++ new ∷ []) (length listed) new
          (at_end listed new) ((names_same (names_at names new) (names_at names new)).1 refl) in
          let less : passing (is_unlisted (listed ++ new ∷ [])) (classes calls order) < passing (is_unlisted listed) (classes calls order) =
          fewer (is_unlisted listed) (is_unlisted (listed ++ new ∷ [])) (classes calls order)
          (λ c f. still c f (is_listed listed c) refl) there.1.0 new there.1.1 is_new (ap not now_listed) in
          again (listed ++ new ∷ []) (omega (arith, less, few)) p class at
        where
          still : (c : List ℕ) → is_unlisted (listed ++ new ∷ []) c ≡ true → (b : Bool) → is_listed listed c ≡ b → not b ≡ true
          still c f false g = refl
          still c f true g =
              let one = some_passes (λ other. same_names (names_at names other) (names_at names c)) listed g in
              let t : is_listed (listed ++ new ∷ []) c ≡ true =
              any_passes (λ other. same_names (names_at names other) (names_at names c)) (listed ++ new ∷ []) one.0 one.1
              (at_left listed (new ∷ []) one.0 one.1 one.2) one.3 in
              absurd (true≢false (sym t ∙ not_true (is_listed (listed ++ new ∷ []) c) f))

-- each procedure stands in a class of the list
pub components_whole : (names calls : List (List ℕ)) → IsCallGraph names calls → (i : ℕ) → i < length calls →
    (p : ℕ) × (class : List ℕ) × (slice_get (components names calls) p ≡ Some class) × (holds class i ≡ true)
unfolding components
components_whole names calls graph i lt =
    let place = class_place names calls graph i lt in
    let few : passing (is_unlisted names calls graph []) (classes calls (by_name names (length names))) ≤ length names =
    le_trans (passing_at_most (is_unlisted names calls graph []) (classes calls (by_name names (length names))))
    (classes_few names calls) in
    let listed = all_listed names calls graph (length names) [] few place.0 (class_of calls (by_name names (length names)) i) place.1 in
    in_listed names calls graph (listed_after (length names) names calls (classes calls (by_name names (length names))) [])
    (class_of calls (by_name names (length names)) i) i listed
    (in_class names calls graph i i lt
    (mutual_of names calls graph i i (reach_self names calls graph i) (reach_self names calls graph i))) lt
