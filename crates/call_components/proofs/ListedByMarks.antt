-- What is listed by marks is what the definition lists.
use Rattle.std.proofs.Common.{◌≡◌, ℕ, zero, suc, ◌+◌, ◌<◌, ◌==◌, Bool, true, false, ◌&&◌, ◌||◌, not, List, [], ◌∷◌, ◌++◌, length, map, take}
use Rattle.std.proofs.Common.{get_or, set, slice_get, Some, None, refl, sym, ap, ◌∙◌, subst, ⊎_elim, find, filter, arith, All, replicate}
use Rattle.std.proofs.Common.{◌-◌}
use Rattle.std.specs.List.{list_any, list_all}
use Rattle.std.specs.Global.{Vec}
use Rattle.std.proofs.lemmas.List.{take_more, length-map, length-replicate, map_push}
use Rattle.call_components.proofs.Walk.{row_of, unmarked_at}
use Rattle.std.proofs.lemmas.List.Elements.{All-head, All-tail, All-filter, All-weaker}
use Rattle.std.proofs.lemmas.List.Folds.{list_any-append}
use Rattle.std.proofs.lemmas.Option.{slice_get-get_or, slice_get_within, get_or_from_slice_get}
use Rattle.component_keys.specs.Components.{same_names, holds, calls_of, reached, are_mutual, by_name, class_of, is_first, classes}
use Rattle.component_keys.specs.Components.{names_at, is_next, with_next, listed_after, components}
use Rattle.component_keys.specs.Laws.{IsCallGraph}
use Rattle.component_keys.proofs.Basics.{not_none, at_push}
use Rattle.component_keys.proofs.Apart.{names_same}
use Rattle.component_keys.proofs.Ordered.{some_passes, held_at}
use Rattle.component_keys.proofs.Reach.{any_passes, holds_at}
use Rattle.component_keys.proofs.Whole.{same_answers, reach_self, reach_through, reach_call, mutual_parts, mutual_of, in_class, same_class}
use Rattle.component_keys.proofs.Whole.{in_listed, class_from}
use Rattle.component_keys.proofs.Whole as Whole
use Rattle.call_components.specs.Reaching.{marked, rows}
use Rattle.call_components.specs.Tables.{AreKinds, same_kind, class_in, classes_in, is_next_in, AreAllMarked}
use Rattle.call_components.proofs.Marking.{marked_set, holds_push, or_or, or_false}
use Rattle.call_components.proofs.Naming.{by_name_below}

-- ---- tests that agree on a list

filter_same : {X : Type 0} (p q : X → Bool) (xs : List X) → All (λ x. p x ≡ q x) xs → filter p xs ≡ filter q xs
filter_same p q [] all = refl
filter_same p q (x ∷ xs) all = rw (All-head (λ x. p x ≡ q x) x xs all, filter_same p q xs (All-tail (λ x. p x ≡ q x) x xs all)) refl

map_same : {X Y : Type 0} (f g : X → Y) (xs : List X) → All (λ x. f x ≡ g x) xs → map f xs ≡ map g xs
map_same f g [] all = refl
map_same f g (x ∷ xs) all = rw (All-head (λ x. f x ≡ g x) x xs all, map_same f g xs (All-tail (λ x. f x ≡ g x) x xs all)) refl

find_same : {X : Type 0} (p q : X → Bool) (xs : List X) → All (λ x. p x ≡ q x) xs → find p xs ≡ find q xs
find_same p q [] all = refl
find_same p q (x ∷ xs) all = rw (All-head (λ x. p x ≡ q x) x xs all, find_same p q xs (All-tail (λ x. p x ≡ q x) x xs all)) refl

list_all_same : {X : Type 0} (p q : X → Bool) (xs : List X) → ((i : ℕ) (x : X) → slice_get xs i ≡ Some x → p x ≡ q x) →
    list_all p xs ≡ list_all q xs
list_all_same p q [] all = refl
list_all_same p q (x ∷ xs) all = rw (all 0 x refl, list_all_same p q xs (λ i y e. all (suc i) y e)) refl

-- the first that passes stands behind those that don't
pub find_at : {X : Type 0} (p : X → Bool) (xs : List X) (i : ℕ) (d : X) → i < length xs → ((k : ℕ) → k < i → p (get_or xs k d) ≡ false) →
    p (get_or xs i d) ≡ true → find p xs ≡ slice_get xs i
find_at p [] i d lt before here = absurd (omega (arith, lt))
find_at p (x ∷ xs) zero d lt before here = rw here refl
find_at p (x ∷ xs) (suc i) d lt before here =
    rw (before 0 (omega arith)) (find_at p xs i d (omega (arith, lt)) (λ k less. before (suc k) (omega (arith, less))) here)

pub find_none : {X : Type 0} (p : X → Bool) (xs : List X) (d : X) → ((k : ℕ) → k < length xs → p (get_or xs k d) ≡ false) → find p xs ≡ None
find_none p [] d none = refl
find_none p (x ∷ xs) d none = rw (none 0 (omega arith)) (find_none p xs d (λ k less. none (suc k) (omega (arith, less))))

-- ---- marks of a list

pub none_marked : (marks : List Bool) → AreAllMarked [] marks marks
none_marked marks number = sym (or_false (marked marks number))

pub more_marked : (numbers : List ℕ) (i : ℕ) (before marks : List Bool) → AreAllMarked (take i numbers) before marks → i < length numbers →
    get_or numbers i 0 < length marks →
    AreAllMarked (take (i + 1) numbers) before (set marks (get_or numbers i 0) true)
more_marked numbers i before marks all lt within number =
    let one : ℕ = get_or numbers i 0 in
    marked_set marks one number within ∙ ap (λ b. b || (one == number)) (all number)
    ∙ or_or (marked before number) (holds (take i numbers) number) (one == number) ∙
    ap (λ b. marked before number || b) (sym (holds_push (take i numbers) one number))
    ∙ ap (λ l. marked before number || holds l number) (sym (take_more numbers i 0 lt))

or_true : (b : Bool) → (b || true) ≡ true
or_true true = refl
or_true false = refl

any_next : (p q : ℕ → Bool) (x : ℕ) (xs : List ℕ) (here : Bool) → p x ≡ here → (p x ≡ true → q x ≡ true) →
    (list_any p xs ≡ true → list_any q xs ≡ true) → list_any p (x ∷ xs) ≡ true → list_any q (x ∷ xs) ≡ true
any_next p q x xs true here more others is = ap (λ b. b || list_any q xs) (more here)
any_next p q x xs false here more others is = ap (λ b. q x || b) (others (sym (ap (λ b. b || list_any p xs) here) ∙ is)) ∙ or_true (q x)

pub any_more : (p q : ℕ → Bool) (xs : List ℕ) → ((n : ℕ) → p n ≡ true → q n ≡ true) → list_any p xs ≡ true → list_any q xs ≡ true
any_more p q [] more is = is
any_more p q (x ∷ xs) more is = any_next p q x xs (p x) refl (more x) (any_more p q xs more) is

-- marked are the members of the listed classes
abbrev pub AreMarksOf : List (List ℕ) → List Bool → Type 0
AreMarksOf listed marks = (number : ℕ) → marked marks number ≡ list_any (λ other. holds other number) listed

-- each is the class of a procedure
abbrev pub AreOfProcedures : List (List ℕ) → List (List ℕ) → List (List ℕ) → Type 0
AreOfProcedures names calls listed =
    (p : ℕ) (other : List ℕ) → slice_get listed p ≡ Some other →
    (m : ℕ) × (holds (by_name names (length names)) m ≡ true) × (other ≡ class_of calls (by_name names (length names)) m)

-- what is listed so far, with so many turns left
pub record IsListing (names calls : List (List ℕ)) (turns : ℕ) (listed : List (List ℕ)) (marks : List Bool) : Type 0 where
  pub lengths : length marks ≡ length calls
  pub leads : listed_after turns names calls (classes calls (by_name names (length names))) listed ≡ components names calls
  pub marks_are : AreMarksOf listed marks
  pub own : AreOfProcedures names calls listed

-- ---- the classes by kinds

module _ (names calls : List (List ℕ)) (graph : IsCallGraph names calls) (kinds : List ℕ) (right : AreKinds calls kinds) where
  abbrev order : List ℕ
  order = by_name names (length names)

  below : All (λ n. n < length calls) order
  below = subst (λ n. All (λ k. k < n) order) graph.lengths (by_name_below names (length names))

  mutual_same : (i j : ℕ) → i < length calls → j < length calls → same_kind kinds i j ≡ are_mutual calls i j
  mutual_same i j lt less = sym (right.same i j lt less)

  class_agrees : (i : ℕ) → i < length calls → class_in kinds order i ≡ class_of calls order i
  class_agrees i lt =
      filter_same (same_kind kinds i) (are_mutual calls i) order
      (All-weaker (λ j. j < length calls) (λ j. same_kind kinds i j ≡ are_mutual calls i j) (λ j less. mutual_same i j lt less) order below)

  pub classes_agree : classes_in kinds order ≡ classes calls order
  classes_agree =
      let leads_in : ℕ → Bool = λ number. is_first number (class_in kinds order number) in
      let leads : ℕ → Bool = λ number. is_first number (class_of calls order number) in
      let same_leads : All (λ number. leads_in number ≡ leads number) order =
      All-weaker (λ j. j < length calls) (λ j. leads_in j ≡ leads j) (λ j less. ap (is_first j) (class_agrees j less)) order below in
      ap (map (class_in kinds order)) (filter_same leads_in leads order same_leads) ∙
      map_same (class_in kinds order) (class_of calls order) (filter leads order)
      (All-filter leads (λ j. class_in kinds order j ≡ class_of calls order j) order
      (All-weaker (λ j. j < length calls) (λ j. class_in kinds order j ≡ class_of calls order j)
      (λ j less. class_agrees j less) order below))

  within : (l : ℕ) → holds order l ≡ true → l < length calls
  within l h =
      let place = held_at order l h in
      subst (λ k. k < length calls) (get_or_from_slice_get order place.0 l l place.1)
      (below place.0 l (slice_get_within order place.0 l place.1))

  -- classes that share a member are the same
  shared : (l m k : ℕ) → holds (class_of calls order l) k ≡ true → holds (class_of calls order m) k ≡ true →
      class_of calls order m ≡ class_of calls order l
  shared l m k in_l in_m =
      let lk = mutual_parts names calls graph l k (Whole.class_in names calls graph l k in_l).0 in
      let mk = mutual_parts names calls graph m k (Whole.class_in names calls graph m k in_m).0 in
      same_class names calls graph m l
      (mutual_of names calls graph m l (reach_through names calls graph m k l mk.0 lk.1) (reach_through names calls graph l k m lk.0 mk.1))

  next_same : (listed : List (List ℕ)) (marks : List Bool) → AreMarksOf listed marks → AreOfProcedures names calls listed → (l : ℕ) →
      holds order l ≡ true →
      is_next_in kinds calls marks (class_of calls order l) ≡ is_next names calls listed (class_of calls order l)
  next_same listed marks are own l h =
      ap (λ b. not b
      && list_all (λ number. list_all (λ callee. same_kind kinds callee number || marked marks callee)
      (calls_of calls number)) class) new_same ∙
      ap (λ b. not (list_any (λ other. same_names (names_at names other) (names_at names class)) listed) && b) ready_same
    where
      class : List ℕ
      class = class_of calls order l

      lt : l < length calls
      lt = within l h

      has_own : holds class l ≡ true
      has_own =
          in_class names calls graph l l lt
          (mutual_of names calls graph l l (reach_self names calls graph l) (reach_self names calls graph l))

      new_same : list_any (marked marks) class ≡ list_any (λ other. same_names (names_at names other) (names_at names class)) listed
      new_same =
          same_answers (list_any (marked marks) class) (list_any (λ other. same_names (names_at names other) (names_at names class)) listed)
          (λ any.
          let member = some_passes (marked marks) class any in
          let there = some_passes (λ other. holds other member.1) listed (sym (are member.1) ∙ member.3) in
          let from = own there.0 there.1 there.2 in
          let same : there.1 ≡ class = from.2
          ∙ shared l from.0 member.1 (holds_at class member.0 member.1 member.2)
          (subst (λ other. holds other member.1 ≡ true) from.2 there.3) in
          any_passes (λ other. same_names (names_at names other) (names_at names class)) listed there.0 there.1 there.2
          ((names_same (names_at names there.1) (names_at names class)).1 (ap (names_at names) same)))
          (λ any.
          let there = in_listed names calls graph listed class l any has_own lt in
          let place = held_at class l has_own in
          any_passes (marked marks) class place.0 l place.1
          (are l ∙ any_passes (λ other. holds other l) listed there.0 there.1 there.2 there.3))

      callee_same : (number callee : ℕ) → holds class number ≡ true → holds (calls_of calls number) callee ≡ true →
          (same_kind kinds callee number || marked marks callee) ≡ (holds class callee || list_any (λ other. holds other callee) listed)
      callee_same number callee member c =
          let less : callee < length calls = graph.defined number callee c in
          let to = mutual_parts names calls graph l number (Whole.class_in names calls graph l number member).0 in
          let on : holds (reached calls l) callee ≡ true =
          reach_through names calls graph l number callee to.0 (reach_call names calls graph number callee c) in
          let own : number < length calls = within number (Whole.class_in names calls graph l number member).1 in
          let same : same_kind kinds callee number ≡ holds class callee =
          sym (right.same callee number less own) ∙
          same_answers (are_mutual calls callee number) (holds class callee)
          (λ both_ways. in_class names calls graph l callee less
          (mutual_of names calls graph l callee on
          (reach_through names calls graph callee number l (mutual_parts names calls graph callee number both_ways).0 to.1)))
          (λ inside. let both = mutual_parts names calls graph l callee (Whole.class_in names calls graph l callee inside).0 in
          mutual_of names calls graph callee number (reach_through names calls graph callee l number both.1 to.0)
          (reach_call names calls graph number callee c)) in
          rw (same, are callee) refl

      ready_same : list_all
          (λ number. list_all (λ callee. same_kind kinds callee number || marked marks callee) (calls_of calls number)) class ≡
          list_all (λ number. list_all (λ callee. holds class callee || list_any (λ other. holds other callee) listed)
          (calls_of calls number)) class
      ready_same =
          list_all_same _ _ class
          (λ i number at. list_all_same _ _ (calls_of calls number)
          (λ j callee at_callee. callee_same number callee (holds_at class i number at)
          (holds_at (calls_of calls number) j callee at_callee)))

  -- so the first that is next by the marks is the first that is next
  pub find_agrees : (listed : List (List ℕ)) (marks : List Bool) → AreMarksOf listed marks → AreOfProcedures names calls listed →
      find (is_next_in kinds calls marks) (classes calls order) ≡ find (is_next names calls listed) (classes calls order)
  find_agrees listed marks are own =
      find_same (is_next_in kinds calls marks) (is_next names calls listed) (classes calls order)
      (λ k d lt.
      let at = slice_get-get_or (classes calls order) k d lt in
      let from = class_from names calls graph k (get_or (classes calls order) k d) at in
      subst (λ c. is_next_in kinds calls marks c ≡ is_next names calls listed c) (sym from.2)
      (next_same listed marks are own from.0 from.1))

  pub first_listing : (marks : List Bool) → length marks ≡ length calls → ((number : ℕ) → marked marks number ≡ false) →
      IsListing names calls (length names) [] marks
  unfolding components
  first_listing marks lengths none = record { lengths = lengths; leads = refl; marks_are = none; own = λ p other at. not_none at }

  -- no class is next
  pub last_listing : (turns : ℕ) (listed : List (List ℕ)) (marks : List Bool) → IsListing names calls turns listed marks →
      find (is_next_in kinds calls marks) (classes calls order) ≡ None → listed ≡ components names calls
  last_listing zero listed marks so_far none = so_far.leads
  last_listing (suc turns) listed marks so_far none =
      let e : find (is_next names calls listed) (classes calls order) ≡ None =
      sym (find_agrees listed marks so_far.marks_are so_far.own) ∙ none in
      ap (with_next (listed_after turns names calls (classes calls order)) listed) (sym e) ∙ so_far.leads

  -- one class more
  pub more_listing : (turns : ℕ) (listed : List (List ℕ)) (marks later : List Bool) (place : ℕ) (class : List ℕ) →
      IsListing names calls (suc turns) listed marks →
      find (is_next_in kinds calls marks) (classes calls order) ≡ Some class → slice_get (classes calls order) place ≡ Some class →
      length later ≡ length marks → AreAllMarked class marks later →
      IsListing names calls turns (listed ++ class ∷ []) later
  more_listing turns listed marks later place class so_far is_found at lengths more = record {
    lengths = lengths ∙ so_far.lengths;
    leads =
        ap (with_next (listed_after turns names calls (classes calls order)) listed)
        (sym (sym (find_agrees listed marks so_far.marks_are so_far.own) ∙ is_found)) ∙ so_far.leads;
    marks_are = λ number. more number
        ∙ rw (
          so_far.marks_are number,
          list_any-append (λ other. holds other number) listed (class ∷ []),
          or_false
              (holds class number),
        ) refl;
    own =
        λ p other there. ⊎_elim (so_far.own p other)
        (λ end. subst (λ c. (m : ℕ) × (holds order m ≡ true) × (c ≡ class_of calls order m)) (sym end.1)
        (class_from names calls graph place class at)) (at_push listed class p other there);
  }

  -- the members of a class are numbers of procedures
  pub class_within : (place : ℕ) (class : List ℕ) → slice_get (classes calls order) place ≡ Some class →
      All (λ number. number < length calls) class
  class_within place class at =
      let from = class_from names calls graph place class at in
      subst (All (λ number. number < length calls)) (sym from.2)
      (All-filter (are_mutual calls from.0) (λ number. number < length calls) order below)

  -- a class has a member
  pub class_member : (place : ℕ) (class : List ℕ) → slice_get (classes calls order) place ≡ Some class → (m : ℕ) × (holds class m ≡ true)
  class_member place class at =
      let from = class_from names calls graph place class at in (
        from.0,
        subst (λ c. holds c from.0 ≡ true) (sym from.2)
            (in_class names calls graph from.0 from.0 (within from.0 from.1)
            (mutual_of names calls graph from.0 from.0 (reach_self names calls graph from.0) (reach_self names calls graph from.0))),
      )

-- no turn is left
pub listing_done : (names calls : List (List ℕ)) (turns : ℕ) (listed : List (List ℕ)) (marks : List Bool) → turns ≡ 0 →
    IsListing names calls turns listed marks → listed ≡ components names calls
listing_done names calls turns listed marks none so_far =
    let last : IsListing names calls 0 listed marks = subst (λ n. IsListing names calls n listed marks) none so_far in last.leads

-- ---- in the words of the loop

module _ (names : List (List ℕ)) (calls : List (Vec ℕ)) (graph : IsCallGraph names (rows calls)) (kinds : List ℕ)
    (right : AreKinds (rows calls) kinds) (all : List (Vec ℕ))
    (classes_are : rows all ≡ classes_in kinds (by_name names (length names))) where
  all_are : rows all ≡ classes (rows calls) (by_name names (length names))
  all_are = classes_are ∙ classes_agree names (rows calls) graph kinds right

  pub turn_first : (marks : List Bool) (listed : List (Vec ℕ)) → marks ≡ replicate (length calls) false → listed ≡ [] →
      IsListing names (rows calls) (length names - 0) (rows listed) marks
  turn_first marks listed is_marks is_listed =
      let lengths : length marks ≡ length (rows calls) =
      ap length is_marks ∙ length-replicate (length calls) false ∙ sym (length-map calls (λ row. row.items)) in
      let turns : length names ≡ length names - 0 = omega arith in
      subst (λ n. IsListing names (rows calls) n (rows listed) marks) turns
      (subst (λ l. IsListing names (rows calls) (length names) (rows l) marks) (sym is_listed)
      (first_listing names (rows calls) graph kinds right marks lengths
      (λ number. ap (λ m. marked m number) is_marks ∙ unmarked_at (length calls) number)))

  pub turn_last : (turns : ℕ) (listed : List (Vec ℕ)) (marks : List Bool) → IsListing names (rows calls) turns (rows listed) marks →
      find (is_next_in kinds (rows calls) marks) (rows all) ≡ None →
      rows listed ≡ components names (rows calls)
  turn_last turns listed marks so_far none =
      last_listing names (rows calls) graph kinds right turns (rows listed) marks so_far
      (ap (find (is_next_in kinds (rows calls) marks)) (sym all_are) ∙ none)

  class_at : (place : ℕ) (row : Vec ℕ) → place < length all → row ≡ get_or all place row → slice_get (rows all) place ≡ Some row.items
  class_at place row lt is =
      let same : length (rows all) ≡ length all = length-map all (λ v. v.items) in
      slice_get-get_or (rows all) place [] (omega (arith, lt, same)) ∙ ap (λ r. Some r) (row_of all place row lt is)

  pub turn_within : (place : ℕ) (row : Vec ℕ) (numbers : List ℕ) (marks : List Bool) (turns : ℕ) (listed : List (List ℕ)) →
      IsListing names (rows calls) turns listed marks → place < length all → row ≡ get_or all place row → numbers ≡ row.items →
      All (λ number. number < length marks) numbers
  turn_within place row numbers marks turns listed so_far lt is same =
      subst (λ n. All (λ number. number < n) numbers) (sym so_far.lengths)
      (subst (All (λ number. number < length (rows calls))) (sym same)
      (class_within names (rows calls) graph kinds right place row.items
      (ap (λ l. slice_get l place) (sym all_are) ∙ class_at place row lt is)))

  pub turn_member : (place : ℕ) (row : Vec ℕ) (numbers : List ℕ) → place < length all → row ≡ get_or all place row → numbers ≡ row.items →
      (m : ℕ) × (holds numbers m ≡ true)
  turn_member place row numbers lt is same =
      let member =
      class_member names (rows calls) graph kinds right place row.items
      (ap (λ l. slice_get l place) (sym all_are) ∙ class_at place row lt is) in
      (member.0, subst (λ l. holds l member.0 ≡ true) (sym same) member.1)

  pub turn_more : (turn place : ℕ) (listed new : List (Vec ℕ)) (marks later : List Bool) (row class : Vec ℕ) (numbers : List ℕ) →
      turn < length names →
      IsListing names (rows calls) (length names - turn) (rows listed) marks →
      find (is_next_in kinds (rows calls) marks) (rows all) ≡ slice_get (rows all) place → place < length all → row ≡ get_or all place row →
      class.items ≡ row.items → numbers ≡ class.items → length later ≡ length marks → AreAllMarked numbers marks later →
      new ≡ listed ++ class ∷ [] → IsListing names (rows calls) (length names - (turn + 1)) (rows new) later
  turn_more turn place listed new marks later row class numbers less so_far is_found lt is copied same lengths marked_all is_new =
      let turns : length names - turn ≡ suc (length names - (turn + 1)) = omega (arith, less) in
      let at : slice_get (rows all) place ≡ Some class.items = class_at place row lt is ∙ ap (λ l. Some l) (sym copied) in
      let in_classes : slice_get (classes (rows calls) (by_name names (length names))) place ≡ Some class.items =
      ap (λ l. slice_get l place) (sym all_are) ∙ at in
      let first : find (is_next_in kinds (rows calls) marks) (classes (rows calls) (by_name names (length names))) ≡ Some class.items =
      ap (find (is_next_in kinds (rows calls) marks)) (sym all_are) ∙ is_found ∙ at in
      subst (λ l. IsListing names (rows calls) (length names - (turn + 1)) l later)
      (sym (ap rows is_new ∙ map_push (λ v. v.items) listed class))
      (more_listing names (rows calls) graph kinds right (length names - (turn + 1)) (rows listed) marks later place class.items
      (subst (λ n. IsListing names (rows calls) n (rows listed) marks) turns so_far) first in_classes lengths
      (subst (λ l. AreAllMarked l marks later) same marked_all))
