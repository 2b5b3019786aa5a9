-- The turns of a search in the words of the loop: what it keeps, and that less is left to do.
use Rattle.std.proofs.Common.{◌≡◌, ◌≢◌, ℕ, zero, suc, ◌+◌, ◌-◌, ◌<◌, ◌≤◌, ◌==◌, Bool, true, false, ◌||◌, List, [], ◌∷◌, ◌++◌, length, map}
use Rattle.std.proofs.Common.{replicate, take, drop, slice_get, get_or, set, Some, None, refl, sym, ap, ◌∙◌, subst, ⊎_elim, ◌⊎◌, inl, inr}
use Rattle.std.proofs.Common.{arith, true≢false, Result, Ok, Err, OnOk, All}
use Rattle.std.specs.Prelude.{if◌then◌else◌}
use Rattle.std.proofs.lemmas.List.{length_push, length-append, take_more, length-replicate, length-map, get_or-map, get_or_default}
use Rattle.call_components.proofs.Marking.{holds_push}
use Rattle.std.proofs.lemmas.Bool.{cases_lt}
use Rattle.std.proofs.lemmas.Bool.Decides.{Decides-eqb}
use Rattle.std.proofs.lemmas.Option.{slice_get_within, slice_get-get_or}
use Rattle.component_keys.specs.Components.{holds, calls_of}
use Rattle.component_keys.proofs.Basics.{not_none, at_left, at_end, at_push}
use Rattle.component_keys.proofs.Ordered.{held_at}
use Rattle.call_components.specs.declared.marks.Entry.{Entry}
use Rattle.call_components.specs.declared.marks.Mark.{Mark}
use Rattle.call_components.specs.declared.marks.Mark.TheVariants.{New, Open, Done}
use Rattle.call_components.specs.Tables.{AreKinds}
use Rattle.call_components.specs.Searching.{mark_of, Reaches, AreMerged, AreClassed, AreMet, AreRising, IsLast, IsSearching, kind_of_mark}
use Rattle.call_components.specs.Searching.{work}
use Rattle.call_components.proofs.Searched.{new_more, close_last, mark_same, mark_other, through, by_call, at_take, take_at, dropped_at}
use Rattle.call_components.proofs.Searched.{same_class}

-- ---- the last set

pub last_fits : (calls : List (List ℕ)) (marks : List Mark) (stack : List ℕ) (entries : List Entry) (todo : List ℕ) (count : ℕ)
    (top : Entry) (bound : ℕ) → IsSearching calls marks stack entries todo count → IsLast entries top → top.todo ≤ bound →
    (i : ℕ) (entry : Entry) → slice_get entries i ≡ Some entry → entry.todo ≤ bound
last_fits calls marks stack entries todo count top bound old last le i entry at =
    let here : slice_get (last.0 ++ top ∷ []) i ≡ Some entry = ap (λ l. slice_get l i) (sym last.1) ∙ at in
    ⊎_elim
    (λ left. let rises : entry.todo
    ≤ top.todo =
    (old.rising i (length last.0) entry top (slice_get_within last.0 i entry left) at
    (ap (λ l. slice_get l (length last.0)) last.1 ∙ at_end last.0 top)).1 in omega (arith, rises, le))
    (λ end. let same : entry.todo ≡ top.todo = ap (λ (e : Entry). e.todo) end.1 in omega (arith, same, le))
    (at_push last.0 top i entry here)

pub rising_of : (calls : List (List ℕ)) (marks : List Mark) (stack : List ℕ) (entries : List Entry) (todo : List ℕ) (count : ℕ) →
    IsSearching calls marks stack entries todo count → AreRising entries
rising_of calls marks stack entries todo count old i j entry later lt at there = (old.rising i j entry later lt at there).0

pub merged_take : (place kept : ℕ) (entries : List Entry) → kept ≤ length entries →
    ((i : ℕ) (entry : Entry) → slice_get entries i ≡ Some entry → i < kept → entry.first ≤ place) →
    ((i : ℕ) (entry : Entry) → slice_get entries i ≡ Some entry → kept ≤ i → place < entry.first) →
    AreMerged place entries (take kept entries)
merged_take place kept entries within low high = record {
  own = λ i entry at. (at_take kept entries i entry at).0;
  low = λ i entry at. let there = at_take kept entries i entry at in low i entry there.0 there.1;
  high = λ i entry at. ⊎_elim (λ lt. inl (take_at kept entries i entry at lt)) (λ le. inr (high i entry at le)) (cases_lt i kept);
}

-- what is kept is no more
pub merged_fewer : (place : ℕ) (entries kept : List Entry) → AreMerged place entries kept → length kept ≤ length entries
merged_fewer place entries kept merged = ⊎_elim (λ lt. absurd (beyond lt)) (λ le. le) (cases_lt (length entries) (length kept))
  where
    beyond : length entries < length kept → ⊥
    beyond lt =
        let d : Entry = record { first = 0; todo = 0 } in
        let own = merged.own (length entries) (get_or kept (length entries) d) (slice_get-get_or kept (length entries) d lt) in
        let within = slice_get_within entries (length entries) (get_or kept (length entries) d) own in
        omega (arith, within)

-- ---- what is left to do

pub work_visit : (rows : List (List ℕ)) (marks : List Mark) (number place : ℕ) → length marks ≡ length rows → number < length marks →
    mark_of marks number ≡ New →
    work rows (set marks number (Open place)) + length (calls_of rows number) + 2 ≡ work rows marks
work_visit [] [] number place same lt new = absurd (omega (arith, lt))
work_visit [] (mark ∷ marks) number place same lt new = absurd (omega (arith, same))
work_visit (row ∷ rows) [] number place same lt new = absurd (omega (arith, lt))
work_visit (row ∷ rows) (New ∷ marks) zero place same lt new = omega arith
work_visit (row ∷ rows) (Open p ∷ marks) zero place same lt new = cc
work_visit (row ∷ rows) (Done c ∷ marks) zero place same lt new = cc
work_visit (row ∷ rows) (New ∷ marks) (suc number) place same lt new =
    let rest = work_visit rows marks number place (omega (arith, same)) (omega (arith, lt)) new in omega (arith, rest)
work_visit (row ∷ rows) (Open p ∷ marks) (suc number) place same lt new =
    work_visit rows marks number place (omega (arith, same)) (omega (arith, lt)) new
work_visit (row ∷ rows) (Done c ∷ marks) (suc number) place same lt new =
    work_visit rows marks number place (omega (arith, same)) (omega (arith, lt)) new

-- where the same numbers were not met, the same is left to do
pub work_same : (rows : List (List ℕ)) (before after : List Mark) → length after ≡ length before →
    ((number : ℕ) → mark_of before number ≡ New → mark_of after number ≡ New) →
    ((number : ℕ) → mark_of after number ≡ New → mark_of before number ≡ New) →
    work rows after ≡ work rows before
work_same [] before after same to from = refl
work_same (row ∷ rows) [] [] same to from = refl
work_same (row ∷ rows) [] (b ∷ after) same to from = absurd (omega (arith, same))
work_same (row ∷ rows) (a ∷ before) [] same to from = absurd (omega (arith, same))
work_same (row ∷ rows) (a ∷ before) (b ∷ after) same to from =
    by_marks a b (to 0) (from 0)
    (work_same rows before after (omega (arith, same)) (λ number. to (suc number)) (λ number. from (suc number)))
  where
    by_marks : (x y : Mark) → (x ≡ New → y ≡ New) → (y ≡ New → x ≡ New) → work rows after ≡ work rows before →
        work (row ∷ rows) (y ∷ after) ≡ work (row ∷ rows) (x ∷ before)
    by_marks New New t f e = ap (λ n. length row + 2 + n) e
    by_marks New (Open p) t f e = absurd (not_new_open p (t refl))
      where
        not_new_open : (p : ℕ) → Open p ≡ New → ⊥
        not_new_open p g = cc
    by_marks New (Done c) t f e = absurd (not_new_done c (t refl))
      where
        not_new_done : (c : ℕ) → Done c ≡ New → ⊥
        not_new_done c g = cc
    by_marks (Open p) New t f e = absurd (not_new_open p (f refl))
      where
        not_new_open : (p : ℕ) → Open p ≡ New → ⊥
        not_new_open p g = cc
    by_marks (Done c) New t f e = absurd (not_new_done c (f refl))
      where
        not_new_done : (c : ℕ) → Done c ≡ New → ⊥
        not_new_done c g = cc
    by_marks (Open p) (Open q) t f e = e
    by_marks (Open p) (Done c) t f e = e
    by_marks (Done c) (Open q) t f e = e
    by_marks (Done c) (Done d) t f e = e

-- ---- met numbers

pub met_visit : (marks : List Mark) (number place : ℕ) → AreMet marks (set marks number (Open place))
met_visit marks number place other new = by_same (other == number) refl
  where
    by_same : (b : Bool) → (other == number) ≡ b → mark_of marks other ≡ New
    by_same false e = sym (mark_other marks number other (Open place) (λ same. true≢false (sym ((Decides-eqb other number).1 same) ∙ e)))
        ∙ new
    by_same true e = by_within (cases_lt number (length marks))
      where
        same : other ≡ number
        same = (Decides-eqb other number).0 e

        by_within : (number < length marks) ⊎ (length marks ≤ number) → mark_of marks other ≡ New
        by_within (inl lt) =
            let is_open : Open place ≡ New =
            sym (mark_same marks number (Open place) lt) ∙ ap (mark_of (set marks number (Open place))) (sym same) ∙ new in
            absurd (let g : Open place ≡ New = is_open in cc)
        by_within (inr le) = ap (mark_of marks) same ∙ nothing_there marks number le
          where
            nothing_there : (list : List Mark) (n : ℕ) → length list ≤ n → mark_of list n ≡ New
            nothing_there [] n none = refl
            nothing_there (mark ∷ list) zero none = absurd (omega (arith, none))
            nothing_there (mark ∷ list) (suc n) none = nothing_there list n (omega (arith, none))

pub met_close : (first class : ℕ) (stack : List ℕ) (before after : List Mark) → AreClassed first class stack before after →
    AreMet before after
met_close first class stack before after are number new = by_held (holds (drop first stack) number) refl
  where
    by_held : (b : Bool) → holds (drop first stack) number ≡ b → mark_of before number ≡ New
    by_held true e =
        absurd (let g : Done class ≡ New = sym (are number ∙ ap (λ b. if b then Done class else mark_of before number) e) ∙ new in cc)
    by_held false e = sym (are number ∙ ap (λ b. if b then Done class else mark_of before number) e) ∙ new

-- what is open was met
pub still_new : (calls : List (List ℕ)) (marks : List Mark) (stack : List ℕ) (entries : List Entry) (todo : List ℕ) (count first class : ℕ)
    (after : List Mark) → IsSearching calls marks stack entries todo count → AreClassed first class stack marks after →
    (number : ℕ) → mark_of marks number ≡ New → mark_of after number ≡ New
still_new calls marks stack entries todo count first class after old are number new = by_held (holds (drop first stack) number) refl
  where
    by_held : (b : Bool) → holds (drop first stack) number ≡ b → mark_of after number ≡ New
    by_held false e = are number ∙ ap (λ b. if b then Done class else mark_of marks number) e ∙ new
    by_held true e =
        let place = held_at (drop first stack) number e in
        let is_open = old.opened (first + place.0) number (dropped_at first stack place.0 number place.1) in
        absurd (let g : Open (first + place.0) ≡ New = sym is_open ∙ new in cc)

-- ---- numbers that get a class

pub none_classed : (class : ℕ) (marks : List Mark) (number : ℕ) →
    mark_of marks number ≡ (if holds [] number then Done class else mark_of marks number)
none_classed class marks number = refl

pub more_classed : (numbers : List ℕ) (i class : ℕ) (before marks : List Mark) →
    ((number : ℕ) → mark_of marks number ≡ (if holds (take i numbers) number then Done class else mark_of before number)) →
    i < length numbers →
    get_or numbers i 0 < length marks → (number : ℕ) →
    mark_of (set marks (get_or numbers i 0) (Done class)) number
    ≡ (if holds (take (i + 1) numbers) number then Done class else mark_of before number)
more_classed numbers i class before marks are lt within number =
    by_same (one == number) refl ∙
    sym (ap (λ l. if holds l number then Done class else mark_of before number) (take_more numbers i 0 lt)
    ∙ ap (λ b. if b then Done class else mark_of before number) (holds_push (take i numbers) one number))
  where
    one : ℕ
    one = get_or numbers i 0

    if_left : {A : Type 0} (a : Bool) (x y : A) → (if a || true then x else y) ≡ x
    if_left true x y = refl
    if_left false x y = refl

    if_right : {A : Type 0} (a : Bool) (x y : A) → (if a || false then x else y) ≡ (if a then x else y)
    if_right true x y = refl
    if_right false x y = refl

    by_same : (b : Bool) → (one == number) ≡ b →
        mark_of (set marks one (Done class)) number ≡ (if holds (take i numbers) number || b then Done class else mark_of before number)
    by_same true e =
        ap (mark_of (set marks one (Done class))) (sym ((Decides-eqb one number).0 e)) ∙ mark_same marks one (Done class) within
        ∙ sym (if_left (holds (take i numbers) number) (Done class) (mark_of before number))
    by_same false e =
        mark_other marks one number (Done class) (λ same. true≢false (sym ((Decides-eqb one number).1 (sym same)) ∙ e)) ∙ are number
        ∙ sym (if_right (holds (take i numbers) number) (Done class) (mark_of before number))

-- ---- the beginning and the end

nothing_marked : (n number : ℕ) → mark_of (replicate n New) number ≡ New
nothing_marked zero number = refl
nothing_marked (suc n) zero = refl
nothing_marked (suc n) (suc number) = nothing_marked n number

pub first_search : (calls : List (List ℕ)) (marks : List Mark) (stack : List ℕ) (entries : List Entry) (todo : List ℕ) →
    marks ≡ replicate (length calls) New → stack ≡ [] → entries ≡ [] → todo ≡ [] → IsSearching calls marks stack entries todo 0
first_search calls marks stack entries todo is_marks is_stack is_entries is_todo = record {
  lengths = ap length is_marks ∙ length-replicate (length calls) New;
  numbers = λ place number at. none (sym (ap (λ l. slice_get l place) is_stack) ∙ at);
  callees = λ turn number at. none (sym (ap (λ l. slice_get l turn) is_todo) ∙ at);
  opened = λ place number at. none (sym (ap (λ l. slice_get l place) is_stack) ∙ at);
  stacked = λ place number is. not_open (sym (new number) ∙ is);
  rising = λ i j entry later lt at there. none (sym (ap (λ l. slice_get l i) is_entries) ∙ at);
  within = λ i entry at. none (sym (ap (λ l. slice_get l i) is_entries) ∙ at);
  bottom = λ some. let empty : length stack ≡ 0 = ap length is_stack in absurd (omega (arith, some, empty));
  edges = λ i place number callee entry at le there call. none (sym (ap (λ l. slice_get l i) is_entries) ∙ at);
  reach = λ one other number to at_one at_other apart. none (sym (ap (λ l. slice_get l one) is_stack) ∙ at_one);
  called = λ turn callee at. none (sym (ap (λ l. slice_get l turn) is_todo) ∙ at);
  closed = λ number callee class is call. not_done (sym (new number) ∙ is);
  classes = λ number other class is also. not_done (sym (new number) ∙ is);
  counted = λ number class is. not_done (sym (new number) ∙ is);
}
  where
    new : (number : ℕ) → mark_of marks number ≡ New
    new number = ap (λ m. mark_of m number) is_marks ∙ nothing_marked (length calls) number

    none : {A X : Type 0} {x : X} → None ≡ Some x → A
    none e = not_none e

    not_open : {A : Type 0} {p : ℕ} → New ≡ Open p → A
    not_open e = cc

    not_done : {A : Type 0} {c : ℕ} → New ≡ Done c → A
    not_done e = cc

-- where all were met and none is open, kinds are below the number of classes
pub kinds_few : (calls : List (List ℕ)) (marks : List Mark) (stack : List ℕ) (entries : List Entry) (todo : List ℕ) (count : ℕ) →
    IsSearching calls marks stack entries todo count → entries ≡ [] →
    ((number : ℕ) → number < length calls → mark_of marks number ≢ New) → All (λ kind. kind < count) (map kind_of_mark marks)
kinds_few calls marks stack entries todo count old none met = λ k d lt.
    let less : k < length marks = subst (λ n. k < n) (length-map marks kind_of_mark) lt in
    let lengths : length marks ≡ length calls = old.lengths in
    subst (λ kind. kind < count) (sym (get_or-map kind_of_mark marks k New d less))
    (by_mark k (omega (arith, less, lengths)) (mark_of marks k) refl)
  where
    no_stack : (place number : ℕ) → slice_get stack place ≡ Some number → ⊥
    no_stack place number at =
        let within = slice_get_within stack place number at in
        let first = old.bottom (omega (arith, within)) in
        not_none (sym (ap (λ l. slice_get l 0) none) ∙ first.1)

    by_mark : (number : ℕ) → number < length calls → (mark : Mark) → mark_of marks number ≡ mark → kind_of_mark mark < count
    by_mark number lt New e = absurd (met number lt e)
    by_mark number lt (Open place) e = absurd (no_stack place number (old.stacked place number e))
    by_mark number lt (Done class) e = old.counted number class e

-- where all were met and none is open, the marks tell the kinds
pub kinds_right : (calls : List (List ℕ))
    (defined : (number callee : ℕ) → holds (calls_of calls number) callee ≡ true → callee < length calls) (marks : List Mark)
    (stack : List ℕ) (entries : List Entry) (todo : List ℕ) (count : ℕ) →
    IsSearching calls marks stack entries todo count → entries ≡ [] → ((number : ℕ) → number < length calls → mark_of marks number ≢ New) →
    AreKinds calls (map kind_of_mark marks)
kinds_right calls defined marks stack entries todo count old none met = record {
  lengths = length-map marks kind_of_mark ∙ old.lengths;
  same = λ one other lt less.
      let first = done_at one lt in
      let second = done_at other less in
      same_class calls defined marks stack entries todo count one other first.0 second.0 old first.1 second.1 ∙
      rw (kind_is one first.0 first.1, kind_is other second.0 second.1) refl;
}
  where
    no_stack : (place number : ℕ) → slice_get stack place ≡ Some number → ⊥
    no_stack place number at =
        let within = slice_get_within stack place number at in
        let first = old.bottom (omega (arith, within)) in
        not_none (sym (ap (λ l. slice_get l 0) none) ∙ first.1)

    done_at : (number : ℕ) → number < length calls → (class : ℕ) × (mark_of marks number ≡ Done class)
    done_at number lt = by_mark (mark_of marks number) refl
      where
        by_mark : (mark : Mark) → mark_of marks number ≡ mark → (class : ℕ) × (mark ≡ Done class)
        by_mark New e = absurd (met number lt e)
        by_mark (Open place) e = absurd (no_stack place number (old.stacked place number e))
        by_mark (Done class) e = (class, refl)

    kind_is : (number class : ℕ) → mark_of marks number ≡ Done class → get_or (map kind_of_mark marks) number 0 ≡ class
    kind_is number class e = kind_at marks number ∙ ap kind_of_mark e
      where
        kind_at : (list : List Mark) (n : ℕ) → get_or (map kind_of_mark list) n 0 ≡ kind_of_mark (mark_of list n)
        kind_at [] n = refl
        kind_at (mark ∷ list) zero = refl
        kind_at (mark ∷ list) (suc n) = kind_at list n

-- ---- the turns in the words of the calls

pub ok_five : {X E : Type 0} (r : Result X E) (A B C D F Z : Type 0) → (A → B → C → D → F → Z) → OnOk r A → OnOk r B → OnOk r C → OnOk r D →
    OnOk r F → OnOk r Z
ok_five (Ok x) A B C D F Z h a b c d f = h a b c d f
ok_five (Err e) A B C D F Z h a b c d f = tt

pub mark_read : (marks : List Mark) (number : ℕ) (mark : Mark) → number < length marks → mark ≡ get_or marks number mark →
    mark_of marks number ≡ mark
mark_read marks number mark lt e = get_or_default marks number New mark lt ∙ sym e

front_of : (before : List Entry) (top : Entry) → take (length before) (before ++ top ∷ []) ≡ before
front_of [] top = refl
front_of (first ∷ before) top = ap (λ l. first ∷ l) (front_of before top)

last_taken : (entries : List Entry) (top : Entry) (last : IsLast entries top) → take (length entries - 1) entries ≡ last.0
last_taken entries top last =
    let longer : length entries ≡ length last.0 + 1 = ap length last.1 ∙ length_push last.0 top in
    let shorter : length entries - 1 ≡ length last.0 = omega (arith, longer) in
    ap (λ n. take n entries) shorter ∙ ap (take (length last.0)) last.1 ∙ front_of last.0 top

module _ (calls : List (List ℕ)) (defined : (number callee : ℕ) → holds (calls_of calls number) callee ≡ true → callee < length calls) where
  pub close_search : (marks later : List Mark) (stack new_stack : List ℕ) (entries new_entries : List Entry) (todo new_todo : List ℕ)
      (count new_count : ℕ) (top : Entry) → IsSearching calls marks stack entries todo count → IsLast entries top →
      length todo ≤ top.todo → length later ≡ length marks → AreClassed top.first count stack marks later →
      new_stack ≡ take top.first stack → new_entries ≡ take (length entries - 1) entries → new_todo ≡ todo → new_count ≡ count + 1 →
      IsSearching calls later new_stack new_entries new_todo new_count
  close_search marks later stack new_stack entries new_entries todo new_todo count new_count top old last none lengths classed is_stack
      is_entries is_todo is_count =
      subst (λ s. IsSearching calls later s new_entries new_todo new_count) (sym is_stack)
      (subst (λ e. IsSearching calls later (take top.first stack) e new_todo new_count) (sym (is_entries ∙ last_taken entries top last))
      (subst (λ t. IsSearching calls later (take top.first stack) last.0 t new_count) (sym is_todo)
      (subst (IsSearching calls later (take top.first stack) last.0 todo) (sym is_count)
      (close_last calls defined marks later stack last.0 top todo count
      (subst (λ e. IsSearching calls marks stack e todo count) last.1 old) none lengths classed))))

  pub close_less : (marks later : List Mark) (stack : List ℕ) (entries new_entries : List Entry) (todo new_todo : List ℕ) (count : ℕ)
      (top : Entry) → IsSearching calls marks stack entries todo count → IsLast entries top →
      length later ≡ length marks → AreClassed top.first count stack marks later → new_entries ≡ take (length entries - 1) entries →
      new_todo ≡ todo →
      work calls later + length new_todo + length new_entries < work calls marks + length todo + length entries
  close_less marks later stack entries new_entries todo new_todo count top old last lengths classed is_entries is_todo =
      let same : work calls later ≡ work calls marks =
      work_same calls marks later lengths (still_new calls marks stack entries todo count top.first count later old classed)
      (met_close top.first count stack marks later classed) in
      let longer : length entries ≡ length last.0 + 1 = ap length last.1 ∙ length_push last.0 top in
      let shorter : length new_entries ≡ length last.0 = ap length (is_entries ∙ last_taken entries top last) in
      let todo_same : length new_todo ≡ length todo = ap length is_todo in
      omega (arith, same, longer, shorter, todo_same)

  -- the popped call is one of a number of the last set, which all open numbers reach
  top_reaches : (marks : List Mark) (stack : List ℕ) (entries : List Entry) (rest : List ℕ) (count number : ℕ) →
      IsSearching calls marks stack entries (rest ++ number ∷ []) count →
      ((i : ℕ) (entry : Entry) → slice_get entries i ≡ Some entry → entry.todo ≤ length rest) → (place caller : ℕ) →
      slice_get stack place ≡ Some caller → Reaches calls caller number
  top_reaches marks stack entries rest count number old fits place caller at =
      let last = old.called (length rest) number (at_end rest number) in
      through calls defined caller last.caller number
      (old.reach place last.place caller last.caller at last.at (λ i entry there le. last.above i entry there (fits i entry there)))
      (by_call calls defined last.caller number last.call)

  pub visit_search : (marks later : List Mark) (stack new_stack : List ℕ) (entries new_entries : List Entry) (rest new_todo : List ℕ)
      (count new_count number : ℕ) (top : Entry) → IsSearching calls marks stack entries (rest ++ number ∷ []) count →
      IsLast entries top → top.todo < length (rest ++ number ∷ []) → mark_of marks number ≡ New →
      later ≡ set marks number (Open (length stack)) → new_stack ≡ stack ++ number ∷ [] →
      new_entries ≡ entries ++ record { first = length stack; todo = length rest } ∷ [] → new_todo ≡ rest ++ calls_of calls number →
      new_count ≡ count → IsSearching calls later new_stack new_entries new_todo new_count
  visit_search marks later stack new_stack entries new_entries rest new_todo count new_count number top old last more new is_marks is_stack
      is_entries is_todo is_count =
      let longer : length (rest ++ number ∷ []) ≡ length rest + 1 = length_push rest number in
      let fits = last_fits calls marks stack entries (rest ++ number ∷ []) count top (length rest) old last (omega (arith, longer, more)) in
      moved (new_more calls defined marks stack entries (rest ++ number ∷ []) rest count number old fits new
      (old.callees (length rest) number (at_end rest number))
      (λ turn callee at. ⊎_elim inl (λ end. inr end.1) (at_push rest number turn callee at))
      (λ turn callee at. at_left rest (number ∷ []) turn callee at)
      (top_reaches marks stack entries rest count number old fits))
    where
      moved : IsSearching calls (set marks number (Open (length stack))) (stack ++ number ∷ [])
          (entries ++ record { first = length stack; todo = length rest } ∷ []) (rest ++ calls_of calls number) count →
          IsSearching calls later new_stack new_entries new_todo new_count
      moved h =
          subst (λ m. IsSearching calls m new_stack new_entries new_todo new_count) (sym is_marks)
          (subst (λ s. IsSearching calls (set marks number (Open (length stack))) s new_entries new_todo new_count) (sym is_stack)
          (subst (λ e. IsSearching calls (set marks number (Open (length stack))) (stack ++ number ∷ []) e new_todo new_count)
          (sym is_entries)
          (subst (λ t. IsSearching calls (set marks number (Open (length stack))) (stack ++ number ∷ [])
          (entries ++ record { first = length stack; todo = length rest } ∷ []) t new_count) (sym is_todo)
          (subst (IsSearching calls (set marks number (Open (length stack))) (stack ++ number ∷ [])
          (entries ++ record { first = length stack; todo = length rest } ∷ []) (rest ++ calls_of calls number)) (sym is_count) h))))

  pub visit_less : (marks later : List Mark) (stack : List ℕ) (entries new_entries : List Entry) (rest new_todo : List ℕ)
      (number extra : ℕ) → length marks ≡ length calls → number < length marks → mark_of marks number ≡ New →
      later ≡ set marks number (Open (length stack)) → new_entries ≡ entries ++ record { first = length stack; todo = length rest } ∷ [] →
      new_todo ≡ rest ++ calls_of calls number →
      work calls later + length new_todo + length new_entries < work calls marks + (length rest + extra) + length entries
  visit_less marks later stack entries new_entries rest new_todo number extra lengths lt new is_marks is_entries is_todo =
      let less : work calls (set marks number (Open (length stack))) + length (calls_of calls number) + 2 ≡ work calls marks =
      work_visit calls marks number (length stack) lengths lt new in
      let same : work calls later ≡ work calls (set marks number (Open (length stack))) = ap (work calls) is_marks in
      let todo_is : length new_todo ≡ length rest + length (calls_of calls number) =
      ap length is_todo ∙ length-append rest (calls_of calls number) in
      let entries_are : length new_entries ≡ length entries + 1 =
      ap length is_entries ∙ length_push entries (record { first = length stack; todo = length rest }) in
      omega (arith, less, same, todo_is, entries_are)

  -- a walk begins
  pub root_search : (marks later : List Mark) (stack new_stack : List ℕ) (entries new_entries : List Entry) (todo new_todo : List ℕ)
      (count new_count number : ℕ) → IsSearching calls marks stack entries todo count → entries ≡ [] → number < length calls →
      mark_of marks number ≡ New → later ≡ set marks number (Open (length stack)) → new_stack ≡ stack ++ number ∷ [] →
      new_entries ≡ entries ++ record { first = length stack; todo = length todo } ∷ [] →
      new_todo ≡ todo ++ calls_of calls number → new_count ≡ count → IsSearching calls later new_stack new_entries new_todo new_count
  root_search marks later stack new_stack entries new_entries todo new_todo count new_count number old none lt new is_marks is_stack
      is_entries is_todo is_count =
      moved (new_more calls defined marks stack entries todo todo count number old (λ i entry at. (old.within i entry at).1) new lt
      (λ turn callee at. inl at) (λ turn callee at. at)
      (λ place caller at. let within = slice_get_within stack place caller at in let first = old.bottom (omega (arith, within)) in not_none
      (sym (ap (λ l. slice_get l 0) none) ∙ first.1)))
    where
      moved : IsSearching calls (set marks number (Open (length stack))) (stack ++ number ∷ [])
          (entries ++ record { first = length stack; todo = length todo } ∷ []) (todo ++ calls_of calls number) count →
          IsSearching calls later new_stack new_entries new_todo new_count
      moved h =
          subst (λ m. IsSearching calls m new_stack new_entries new_todo new_count) (sym is_marks)
          (subst (λ s. IsSearching calls (set marks number (Open (length stack))) s new_entries new_todo new_count) (sym is_stack)
          (subst (λ e. IsSearching calls (set marks number (Open (length stack))) (stack ++ number ∷ []) e new_todo new_count)
          (sym is_entries)
          (subst (λ t. IsSearching calls (set marks number (Open (length stack))) (stack ++ number ∷ [])
          (entries ++ record { first = length stack; todo = length todo } ∷ []) t new_count) (sym is_todo)
          (subst (IsSearching calls (set marks number (Open (length stack))) (stack ++ number ∷ [])
          (entries ++ record { first = length stack; todo = length todo } ∷ []) (todo ++ calls_of calls number)) (sym is_count) h))))

pub open_not_new : (marks later : List Mark) (number place : ℕ) → number < length marks → later ≡ set marks number (Open place) →
    mark_of later number ≢ New
open_not_new marks later number place lt is new =
    let g : Open place ≡ New = sym (mark_same marks number (Open place) lt) ∙ ap (λ m. mark_of m number) (sym is) ∙ new in cc
