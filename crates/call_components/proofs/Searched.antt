-- The turns of a search for classes.
use Rattle.std.proofs.Common.{◌≡◌, ◌≢◌, ℕ, zero, suc, ◌+◌, ◌<◌, ◌≤◌, ◌-◌, ◌==◌, Bool, true, false, ◌&&◌, List, [], ◌∷◌, ◌++◌, length, take}
use Rattle.std.proofs.Common.{drop, slice_get, set, Some, refl, sym, ap, ◌∙◌, subst, ⊎_elim, ◌⊎◌, inl, inr, arith, true≢false}
use Rattle.std.specs.Prelude.{if◌then◌else◌}
use Rattle.std.proofs.lemmas.Bool.{cases_lt}
use Rattle.std.proofs.lemmas.Bool.Decides.{Decides-eqb}
use Rattle.std.proofs.lemmas.List.{length-set, get_or-set_same, get_or-set_other, length_push, length-append, length-take-le}
use Rattle.std.proofs.lemmas.Option.{slice_get_within}
use Rattle.component_keys.specs.Components.{holds, calls_of, reached}
use Rattle.component_keys.proofs.Basics.{both_true, not_none, at_left, at_end, at_push}
use Rattle.component_keys.proofs.Ordered.{held_at}
use Rattle.component_keys.proofs.Reach.{holds_at, reached_is_closed, reached_is_least}
use Rattle.component_keys.proofs.Whole.{left_or, reached_keeps, same_answers, both_are}
use Rattle.call_components.specs.declared.marks.Entry.{Entry}
use Rattle.call_components.specs.declared.marks.Mark.{Mark}
use Rattle.call_components.specs.declared.marks.Mark.TheVariants.{New, Open, Done}
use Rattle.call_components.specs.Searching.{mark_of, Reaches, IsSeen, IsCalled, AreMerged, AreClassed, IsSearching}
use Rattle.call_components.specs.Searching.IsSeen.{IsDone, IsOpen, IsToDo}

-- ---- marks and lists

open_same : {p q : ℕ} → Open p ≡ Open q → p ≡ q
open_same e = cc

done_same : {c d : ℕ} → Done c ≡ Done d → c ≡ d
done_same e = cc

open_new : {A : Type 0} {p : ℕ} → Open p ≡ New → A
open_new e = cc

done_new : {A : Type 0} {c : ℕ} → Done c ≡ New → A
done_new e = cc

open_done : {A : Type 0} {p c : ℕ} → Open p ≡ Done c → A
open_done e = cc

pub mark_same : (marks : List Mark) (number : ℕ) (mark : Mark) → number < length marks → mark_of (set marks number mark) number ≡ mark
mark_same marks number mark lt = get_or-set_same marks number mark New lt

pub mark_other : (marks : List Mark) (number other : ℕ) (mark : Mark) → other ≢ number →
    mark_of (set marks number mark) other ≡ mark_of marks other
mark_other marks number other mark differ = get_or-set_other marks number other mark New differ

-- a mark that is not new is of another number than a new one
not_new : (marks : List Mark) (number other : ℕ) (mark : Mark) → mark_of marks number ≡ New → mark_of marks other ≡ mark →
    (mark ≡ New → ⊥) → other ≢ number
not_new marks number other mark new is old same = old (sym is ∙ ap (mark_of marks) same ∙ new)

at_append : {X : Type 0} (xs ys : List X) (i : ℕ) (x : X) → slice_get (xs ++ ys) i ≡ Some x →
    (slice_get xs i ≡ Some x) ⊎ ((j : ℕ) × (i ≡ length xs + j) × (slice_get ys j ≡ Some x))
at_append [] ys i x e = inr (i, omega arith, e)
at_append (first ∷ xs) ys zero x e = inl e
at_append (first ∷ xs) ys (suc i) x e =
    ⊎_elim inl (λ right. let same : i ≡ length xs + right.0 = right.1 in inr (right.0, omega (arith, same), right.2))
    (at_append xs ys i x e)

at_right : {X : Type 0} (xs ys : List X) (j : ℕ) (x : X) → slice_get ys j ≡ Some x → slice_get (xs ++ ys) (length xs + j) ≡ Some x
at_right [] ys j x e = ap (slice_get ys) (let same : 0 + j ≡ j = omega arith in same) ∙ e
at_right (first ∷ xs) ys j x e =
    ap (slice_get (first ∷ (xs ++ ys))) (let same : suc (length xs) + j ≡ suc (length xs + j) = omega arith in same) ∙ at_right xs ys j x e

pub at_take : {X : Type 0} (n : ℕ) (xs : List X) (i : ℕ) (x : X) → slice_get (take n xs) i ≡ Some x → (slice_get xs i ≡ Some x) × (i < n)
at_take zero xs i x e = not_none e
at_take (suc n) [] i x e = not_none e
at_take (suc n) (first ∷ xs) zero x e = (e, omega arith)
at_take (suc n) (first ∷ xs) (suc i) x e = let rest = at_take n xs i x e in let lt : i < n = rest.1 in (rest.0, omega (arith, lt))

pub take_at : {X : Type 0} (n : ℕ) (xs : List X) (i : ℕ) (x : X) → slice_get xs i ≡ Some x → i < n → slice_get (take n xs) i ≡ Some x
take_at zero xs i x e lt = absurd (omega (arith, lt))
take_at (suc n) [] i x e lt = e
take_at (suc n) (first ∷ xs) zero x e lt = e
take_at (suc n) (first ∷ xs) (suc i) x e lt = take_at n xs i x e (omega (arith, lt))

pub dropped_at : {X : Type 0} (n : ℕ) (xs : List X) (i : ℕ) (x : X) → slice_get (drop n xs) i ≡ Some x → slice_get xs (n + i) ≡ Some x
dropped_at zero xs i x e = ap (slice_get xs) (let same : 0 + i ≡ i = omega arith in same) ∙ e
dropped_at (suc n) [] i x e = not_none e
dropped_at (suc n) (first ∷ xs) i x e =
    ap (slice_get (first ∷ xs)) (let same : suc n + i ≡ suc (n + i) = omega arith in same) ∙ dropped_at n xs i x e

in_dropped : {X : Type 0} (n : ℕ) (xs : List X) (i j : ℕ) (x : X) → slice_get xs i ≡ Some x → i ≡ n + j → slice_get (drop n xs) j ≡ Some x
in_dropped zero xs i j x e same = ap (slice_get xs) (let f : j ≡ i = omega (arith, same) in f) ∙ e
in_dropped (suc n) [] i j x e same = not_none e
in_dropped (suc n) (first ∷ xs) zero j x e same = absurd (omega (arith, same))
in_dropped (suc n) (first ∷ xs) (suc i) j x e same = in_dropped n xs i j x e (omega (arith, same))

-- ---- who reaches whom

module _ (calls : List (List ℕ)) (defined : (number callee : ℕ) → holds (calls_of calls number) callee ≡ true → callee < length calls) where
  pub self : (i : ℕ) → Reaches calls i i
  self i = reached_keeps (length calls) calls (i ∷ []) i (left_or (i == i) false ((Decides-eqb i i).1 refl))

  pub through : (i j k : ℕ) → Reaches calls i j → Reaches calls j k → Reaches calls i k
  through i j k ij jk =
      reached_is_least calls j (λ x. holds (reached calls i) x ≡ true)
      (λ one callee p c. reached_is_closed calls i one callee p c (defined one callee c)) ij k jk

  pub by_call : (i k : ℕ) → holds (calls_of calls i) k ≡ true → Reaches calls i k
  by_call i k c = reached_is_closed calls i i k (self i) c (defined i k c)

  -- ---- a call that is followed

  -- all sets begin at or before the call to follow
  abbrev pub FitsRest : List Entry → List ℕ → Type 0
  FitsRest entries rest = (i : ℕ) (entry : Entry) → slice_get entries i ≡ Some entry → entry.todo ≤ length rest

  seen_rest : (marks : List Mark) (entry : Entry) (rest : List ℕ) (number callee : ℕ) → (callee ≡ number → IsSeen marks entry rest callee) →
      IsSeen marks entry (rest ++ number ∷ []) callee → IsSeen marks entry rest callee
  seen_rest marks entry rest number callee own (IsDone class is) = IsDone class is
  seen_rest marks entry rest number callee own (IsOpen place is le) = IsOpen place is le
  seen_rest marks entry rest number callee own (IsToDo turn le at) =
      ⊎_elim (λ old. IsToDo turn le old) (λ end. own end.1) (at_push rest number turn callee at)

  -- the callee is done
  pub done_more : (marks : List Mark) (stack : List ℕ) (entries : List Entry) (rest : List ℕ) (count number class : ℕ) →
      IsSearching calls marks stack entries (rest ++ number ∷ []) count → FitsRest entries rest →
      mark_of marks number ≡ Done class → IsSearching calls marks stack entries rest count
  done_more marks stack entries rest count number class old fits is = record {
    lengths = old.lengths;
    numbers = old.numbers;
    callees = λ turn callee at. old.callees turn callee (at_left rest (number ∷ []) turn callee at);
    opened = old.opened;
    stacked = old.stacked;
    rising = old.rising;
    within = λ i entry at. ((old.within i entry at).0, fits i entry at);
    bottom = old.bottom;
    edges = λ i place caller callee entry at le there call.
        seen_rest marks entry rest number callee (λ same. IsDone class (ap (mark_of marks) same ∙ is))
        (old.edges i place caller callee entry at le there call);
    reach = old.reach;
    called = λ turn callee at. old.called turn callee (at_left rest (number ∷ []) turn callee at);
    closed = old.closed;
    classes = old.classes;
    counted = old.counted;
  }

  -- the callee is open
  pub open_more : (marks : List Mark) (stack : List ℕ) (entries kept : List Entry) (rest : List ℕ) (count number place : ℕ) →
      IsSearching calls marks stack entries (rest ++ number ∷ []) count → FitsRest entries rest →
      mark_of marks number ≡ Open place → AreMerged place entries kept → IsSearching calls marks stack kept rest count
  open_more marks stack entries kept rest count number place old fits is merged = record {
    lengths = old.lengths;
    numbers = old.numbers;
    callees = λ turn callee at. old.callees turn callee (at_left rest (number ∷ []) turn callee at);
    opened = old.opened;
    stacked = old.stacked;
    rising = λ i j entry later lt at there. old.rising i j entry later lt (merged.own i entry at) (merged.own j later there);
    within = λ i entry at. ((old.within i entry (merged.own i entry at)).0, fits i entry (merged.own i entry at));
    bottom = λ some.
        let first = old.bottom some in
        ⊎_elim (λ at. (first.0, at, first.2)) (λ lt. let none : first.0.first ≡ 0 = first.2 in absurd (omega (arith, lt, none)))
        (merged.high 0 first.0 first.1);
    edges = λ i caller_place caller callee entry at le there call.
        seen_rest marks entry rest number callee (λ same. IsOpen place (ap (mark_of marks) same ∙ is) (merged.low i entry at))
        (old.edges i caller_place caller callee entry (merged.own i entry at) le there call);
    reach = λ one other from to at_one at_other apart. by_place one other from to at_one at_other apart (cases_lt place one);
    called = λ turn callee at.
        let was = old.called turn callee (at_left rest (number ∷ []) turn callee at) in
        record {
          place = was.place;
          caller = was.caller;
          at = was.at;
          call = was.call;
          above = λ i entry e. was.above i entry (merged.own i entry e);
          below = λ i entry e. was.below i entry (merged.own i entry e);
        };
    closed = old.closed;
    classes = old.classes;
    counted = old.counted;
  }
    where
      last : IsCalled calls stack entries (length rest) number
      last = old.called (length rest) number (at_end rest number)

      -- whoever stands behind the callee reaches it
      by_place : (one other from to : ℕ) → slice_get stack one ≡ Some from → slice_get stack other ≡ Some to →
          ((i : ℕ) (entry : Entry) → slice_get kept i ≡ Some entry → entry.first ≤ one → entry.first ≤ other) →
          (place < one) ⊎ (one ≤ place) → Reaches calls from to
      by_place one other from to at_one at_other apart (inl lt) =
          let up : Reaches calls from last.caller =
          old.reach one last.place from last.caller at_one last.at (λ i entry at le. last.above i entry at (fits i entry at)) in
          let back : Reaches calls number to =
          old.reach place other number to (old.stacked place number is) at_other
          (λ i entry at le. ⊎_elim (λ stays. apart i entry stays (omega (arith, le, lt))) (λ gone. absurd (omega (arith, gone, le)))
          (merged.high i entry at)) in
          through from last.caller to up (through last.caller number to (by_call last.caller number last.call) back)
      by_place one other from to at_one at_other apart (inr le) =
          old.reach one other from to at_one at_other
          (λ i entry at less. ⊎_elim (λ stays. apart i entry stays less) (λ gone. absurd (omega (arith, gone, less, le)))
          (merged.high i entry at))

  -- ---- a number is met

  pub new_more : (marks : List Mark) (stack : List ℕ) (entries : List Entry) (todo rest : List ℕ) (count number : ℕ) →
      IsSearching calls marks stack entries todo count → FitsRest entries rest → mark_of marks number ≡ New → number < length calls →
      ((turn callee : ℕ) → slice_get todo turn ≡ Some callee → (slice_get rest turn ≡ Some callee) ⊎ (callee ≡ number)) →
      ((turn callee : ℕ) → slice_get rest turn ≡ Some callee → slice_get todo turn ≡ Some callee) →
      ((place caller : ℕ) → slice_get stack place ≡ Some caller → Reaches calls caller number) →
      IsSearching calls (set marks number (Open (length stack))) (stack ++ number ∷ [])
      (entries ++ record { first = length stack; todo = length rest } ∷ []) (rest ++ calls_of calls number) count
  new_more marks stack entries todo rest count number old fits new lt fewer part from = record {
    lengths = length-set marks number (Open (length stack)) ∙ old.lengths;
    numbers =
        λ place one at. ⊎_elim (old.numbers place one) (λ end. subst (λ n. n < length calls) (sym end.1) lt)
        (at_push stack number place one at);
    callees =
        λ turn callee at. ⊎_elim (λ left. old.callees turn callee (part turn callee left))
        (λ right. defined number callee (holds_at row right.0 callee right.2)) (at_append rest row turn callee at);
    opened =
        λ place one at. ⊎_elim (λ left. kept_mark one (Open place) (old.opened place one left) open_new)
        (λ end. ap (mark_of later) end.1 ∙ own_mark ∙ ap (λ n. Open n) (sym end.0)) (at_push stack number place one at);
    stacked = λ place one is. by_number one place is (one == number) refl;
    rising =
        λ i j entry next less at there. by_entries i j entry next less (at_push entries own i entry at) (at_push entries own j next there);
    within = λ i entry at. ⊎_elim
        (λ left. let was = old.within i entry left in let first : entry.first
        < length stack = was.0 in (omega (arith, first, longer), omega (arith, fits i entry left, rest_longer)))
        (λ end. subst (λ (e : Entry). (e.first < length (stack ++ number ∷ [])) × (e.todo ≤ length (rest ++ row))) (sym end.1)
        (omega (arith, longer), omega (arith, rest_longer))) (at_push entries own i entry at);
    bottom = λ some. by_bottom (cases_lt 0 (length stack));
    edges =
        λ i place caller callee entry at le there call. by_stack i place caller callee entry at le there call
        (at_push stack number place caller there);
    reach =
        λ one other one_number other_number at_one at_other apart. by_places one other one_number other_number apart
        (at_push stack number one one_number at_one) (at_push stack number other other_number at_other);
    called =
        λ turn callee at. ⊎_elim (λ left. lifted turn callee left) (λ right. own_call turn callee right.0 right.1 right.2)
        (at_append rest row turn callee at);
    closed = λ one callee class is call.
        let was = old.closed one callee class (was_done one class is) call in
        (was.0, kept_mark callee (Done was.0) was.1 done_new, was.2);
    classes = λ one other class is also. old.classes one other class (was_done one class is) (was_done other class also);
    counted = λ one class is. old.counted one class (was_done one class is);
  }
    where
      row : List ℕ
      row = calls_of calls number

      own : Entry
      own = record { first = length stack; todo = length rest }

      later : List Mark
      later = set marks number (Open (length stack))

      in_marks : number < length marks
      in_marks = let same : length marks ≡ length calls = old.lengths in omega (arith, lt, same)

      longer : length (stack ++ number ∷ []) ≡ length stack + 1
      longer = length_push stack number

      rest_longer : length (rest ++ row) ≡ length rest + length row
      rest_longer = length-append rest row

      own_mark : mark_of later number ≡ Open (length stack)
      own_mark = mark_same marks number (Open (length stack)) in_marks

      kept_mark : (one : ℕ) (mark : Mark) → mark_of marks one ≡ mark → (mark ≡ New → ⊥) → mark_of later one ≡ mark
      kept_mark one mark is old_mark =
          mark_other marks number one (Open (length stack)) (not_new marks number one mark new is old_mark) ∙ is

      was_done : (one class : ℕ) → mark_of later one ≡ Done class → mark_of marks one ≡ Done class
      was_done one class is = by_same (one == number) refl
        where
          by_same : (b : Bool) → (one == number) ≡ b → mark_of marks one ≡ Done class
          by_same true e = open_done (sym own_mark ∙ ap (mark_of later) (sym ((Decides-eqb one number).0 e)) ∙ is)
          by_same false e =
              sym (mark_other marks number one (Open (length stack)) (λ same. true≢false (sym ((Decides-eqb one number).1 same) ∙ e))) ∙ is

      by_number : (one place : ℕ) → mark_of later one ≡ Open place → (b : Bool) → (one == number) ≡ b →
          slice_get (stack ++ number ∷ []) place ≡ Some one
      by_number one place is true e =
          let same : one ≡ number = (Decides-eqb one number).0 e in
          let here : length stack ≡ place = open_same (sym own_mark ∙ ap (mark_of later) (sym same) ∙ is) in
          ap (slice_get (stack ++ number ∷ [])) (sym here) ∙ at_end stack number ∙ ap (λ n. Some n) (sym same)
      by_number one place is false e =
          at_left stack (number ∷ []) place one
          (old.stacked place one
          (sym (mark_other marks number one (Open (length stack)) (λ same. true≢false (sym ((Decides-eqb one number).1 same) ∙ e))) ∙ is))

      by_entries : (i j : ℕ) (entry next : Entry) → i < j → (slice_get entries i ≡ Some entry) ⊎ ((i ≡ length entries) × (entry ≡ own)) →
          (slice_get entries j ≡ Some next) ⊎ ((j ≡ length entries) × (next ≡ own)) →
          (entry.first < next.first) × (entry.todo ≤ next.todo)
      by_entries i j entry next less (inl at) (inl there) = old.rising i j entry next less at there
      by_entries i j entry next less (inl at) (inr end) =
          subst (λ (e : Entry). (entry.first < e.first) × (entry.todo ≤ e.todo)) (sym end.1) ((old.within i entry at).0, fits i entry at)
      by_entries i j entry next less (inr end) (inl there) =
          let before = slice_get_within entries j next there in let e : i
          ≡ length entries = end.0 in absurd (omega (arith, less, before, e))
      by_entries i j entry next less (inr end) (inr also) =
          let e : i ≡ length entries = end.0 in let f : j ≡ length entries = also.0 in absurd (omega (arith, less, e, f))

      by_bottom : (0 < length stack) ⊎ (length stack ≤ 0) →
          (entry : Entry) × (slice_get (entries ++ own ∷ []) 0 ≡ Some entry) × (entry.first ≡ 0)
      by_bottom (inl some) = let first = old.bottom some in (first.0, at_left entries (own ∷ []) 0 first.0 first.1, first.2)
      by_bottom (inr none) = (
        own,
        no_entry entries
            (λ entry at. let was : entry.first < length stack = (old.within 0 entry at).0 in omega (arith, was, none)),
        omega (arith, none),
      )
        where
          no_entry : (list : List Entry) → ((entry : Entry) → slice_get list 0 ≡ Some entry → ⊥) → slice_get (list ++ own ∷ []) 0 ≡ Some own
          no_entry [] h = refl
          no_entry (first ∷ rest_entries) h = absurd (h first refl)

      to_follow : (entry : Entry) (callee : ℕ) → entry.todo ≤ length rest → holds row callee ≡ true →
          IsSeen later entry (rest ++ row) callee
      to_follow entry callee le call =
          let place = held_at row callee call in
          IsToDo (length rest + place.0) (omega (arith, le)) (at_right rest row place.0 callee place.1)

      seen_more : (entry : Entry) (callee : ℕ) → entry.first < length stack → IsSeen marks entry todo callee →
          IsSeen later entry (rest ++ row) callee
      seen_more entry callee less (IsDone class is) = IsDone class (kept_mark callee (Done class) is done_new)
      seen_more entry callee less (IsOpen place is le) = IsOpen place (kept_mark callee (Open place) is open_new) le
      seen_more entry callee less (IsToDo turn le at) =
          ⊎_elim (λ left. IsToDo turn le (at_left rest row turn callee left))
          (λ same. IsOpen (length stack) (ap (mark_of later) same ∙ own_mark) (omega (arith, less))) (fewer turn callee at)

      by_stack : (i place caller callee : ℕ) (entry : Entry) → slice_get (entries ++ own ∷ []) i ≡ Some entry → entry.first ≤ place →
          slice_get (stack ++ number ∷ []) place ≡ Some caller → holds (calls_of calls caller) callee ≡ true →
          (slice_get stack place ≡ Some caller) ⊎ ((place ≡ length stack) × (caller ≡ number)) → IsSeen later entry (rest ++ row) callee
      by_stack i place caller callee entry at le there call (inl left) =
          ⊎_elim (λ old_entry. seen_more entry callee (old.within i entry old_entry).0
          (old.edges i place caller callee entry old_entry le left call))
          (λ end. let before = slice_get_within stack place caller left in let first : entry.first
          ≡ length stack = ap (λ (e : Entry). e.first) end.1 in absurd (omega (arith, before, first, le)))
          (at_push entries own i entry at)
      by_stack i place caller callee entry at le there call (inr end) =
          let own_call_is : holds row callee ≡ true = ap (λ n. holds (calls_of calls n) callee) (sym end.1) ∙ call in
          to_follow entry callee
          (⊎_elim (λ old_entry. fits i entry old_entry)
          (λ last. let e : entry.todo ≡ length rest = ap (λ (x : Entry). x.todo) last.1 in omega (arith, e))
          (at_push entries own i entry at)) own_call_is

      by_places : (one other one_number other_number : ℕ) →
          ((i : ℕ) (entry : Entry) → slice_get (entries ++ own ∷ []) i ≡ Some entry → entry.first ≤ one → entry.first ≤ other) →
          (slice_get stack one ≡ Some one_number) ⊎ ((one ≡ length stack) × (one_number ≡ number)) →
          (slice_get stack other ≡ Some other_number) ⊎ ((other ≡ length stack) × (other_number ≡ number)) →
          Reaches calls one_number other_number
      by_places one other one_number other_number apart (inl left) (inl also) =
          old.reach one other one_number other_number left also (λ i entry at le. apart i entry (at_left entries (own ∷ []) i entry at) le)
      by_places one other one_number other_number apart (inl left) (inr end) =
          subst (Reaches calls one_number) (sym end.1) (from one one_number left)
      by_places one other one_number other_number apart (inr end) (inl also) =
          let before = slice_get_within stack other other_number also in
          let e : one ≡ length stack = end.0 in
          let le : length stack ≤ other = apart (length entries) own (at_end entries own) (omega (arith, e)) in
          absurd (omega (arith, before, le))
      by_places one other one_number other_number apart (inr end) (inr also) =
          subst (Reaches calls one_number) (end.1 ∙ sym also.1) (self one_number)

      lifted : (turn callee : ℕ) → slice_get rest turn ≡ Some callee →
          IsCalled calls (stack ++ number ∷ []) (entries ++ own ∷ []) turn callee
      lifted turn callee at =
          let was = old.called turn callee (part turn callee at) in
          let before = slice_get_within rest turn callee at in
          let in_stack = slice_get_within stack was.place was.caller was.at in
          record {
            place = was.place;
            caller = was.caller;
            at = at_left stack (number ∷ []) was.place was.caller was.at;
            call = was.call;
            above =
                λ i entry e le. ⊎_elim (λ left. was.above i entry left le)
                (λ end. let f : entry.todo ≡ length rest = ap (λ (x : Entry). x.todo) end.1 in absurd (omega (arith, before, f, le)))
                (at_push entries own i entry e);
            below =
                λ i entry e less. ⊎_elim (λ left. was.below i entry left less)
                (λ end. let f : entry.first ≡ length stack = ap (λ (x : Entry). x.first) end.1 in omega (arith, in_stack, f))
                (at_push entries own i entry e);
          }

      own_call : (turn callee place : ℕ) → turn ≡ length rest + place → slice_get row place ≡ Some callee →
          IsCalled calls (stack ++ number ∷ []) (entries ++ own ∷ []) turn callee
      own_call turn callee place is at = record {
        place = length stack;
        caller = number;
        at = at_end stack number;
        call = holds_at row place callee at;
        above =
            λ i entry e le. ⊎_elim (λ left. let less : entry.first < length stack = (old.within i entry left).0 in omega (arith, less))
            (λ end. let f : entry.first ≡ length stack = ap (λ (x : Entry). x.first) end.1 in omega (arith, f))
            (at_push entries own i entry e);
        below =
            λ i entry e less. ⊎_elim (λ left. let le : entry.todo ≤ length rest = fits i entry left in absurd (omega (arith, le, less, is)))
            (λ end. let f : entry.todo ≡ length rest = ap (λ (x : Entry). x.todo) end.1 in absurd (omega (arith, f, less, is)))
            (at_push entries own i entry e);
      }

  -- ---- a class is done

  pub close_last : (marks later : List Mark) (stack : List ℕ) (before : List Entry) (top : Entry) (todo : List ℕ) (count : ℕ) →
      IsSearching calls marks stack (before ++ top ∷ []) todo count → length todo ≤ top.todo →
      length later ≡ length marks → AreClassed top.first count stack marks later →
      IsSearching calls later (take top.first stack) before todo (count + 1)
  close_last marks later stack before top todo count old none lengths are = record {
    lengths = lengths ∙ old.lengths;
    numbers = λ place number at. old.numbers place number (at_take top.first stack place number at).0;
    callees = old.callees;
    opened =
        λ place number at. let there =
        at_take top.first stack place number at in still (Open place) number (old.opened place number there.0)
        (not_closed place number there.0 there.1);
    stacked = λ place number is. by_closed_open place number is (holds (drop top.first stack) number) refl;
    rising =
        λ i j entry next less at there. old.rising i j entry next less (at_left before (top ∷ []) i entry at)
        (at_left before (top ∷ []) j next there);
    within = λ i entry at. let less : entry.first
        < top.first =
        (under_top i entry at).0 in (omega (arith, less, shorter), (old.within i entry (at_left before (top ∷ []) i entry at)).1);
    bottom = λ some.
        let first = old.bottom (omega (arith, some, shorter, below_top)) in
        ⊎_elim (λ at. (first.0, at, first.2))
        (λ end. let zero_first : top.first ≡ 0 = ap (λ (e : Entry). e.first) (sym end.1)
        ∙ first.2 in absurd (omega (arith, some, shorter, zero_first))) (at_push before top 0 first.0 first.1);
    edges = λ i place caller callee entry at le there call. let where_at = at_take top.first stack place caller there in
        seen_after entry callee (old.edges i place caller callee entry (at_left before (top ∷ []) i entry at) le where_at.0 call);
    reach = λ one other from to at_one at_other apart.
        let first = at_take top.first stack one from at_one in
        let second = at_take top.first stack other to at_other in
        old.reach one other from to first.0 second.0
        (λ i entry at le. ⊎_elim (λ left. apart i entry left le)
        (λ end. let e : entry.first ≡ top.first = ap (λ (x : Entry). x.first) end.1 in let lt : one
        < top.first = first.1 in absurd (omega (arith, e, lt, le))) (at_push before top i entry at));
    called = λ turn callee at.
        let was = old.called turn callee at in
        let earlier = slice_get_within todo turn callee at in
        let less : was.place < top.first = was.below (length before) top (at_end before top) (omega (arith, earlier, none)) in
        record {
          place = was.place;
          caller = was.caller;
          at = take_at top.first stack was.place was.caller was.at less;
          call = was.call;
          above = λ i entry e. was.above i entry (at_left before (top ∷ []) i entry e);
          below = λ i entry e. was.below i entry (at_left before (top ∷ []) i entry e);
        };
    closed = λ number callee class is call. by_closed number callee class is call (holds (drop top.first stack) number) refl;
    classes =
        λ one other class is also. by_both one other class is also (holds (drop top.first stack) one) refl
        (holds (drop top.first stack) other) refl;
    counted = λ number class is. by_count number class is (holds (drop top.first stack) number) refl;
  }
    where
      below_top : top.first < length stack
      below_top = (old.within (length before) top (at_end before top)).0

      shorter : length (take top.first stack) ≡ top.first
      shorter = length-take-le top.first stack (omega (arith, below_top))

      under_top : (i : ℕ) (entry : Entry) → slice_get before i ≡ Some entry → (entry.first < top.first) × (entry.todo ≤ top.todo)
      under_top i entry at =
          old.rising i (length before) entry top (slice_get_within before i entry at) (at_left before (top ∷ []) i entry at)
          (at_end before top)

      -- what the set holds stands behind its beginning
      in_set : (number : ℕ) → holds (drop top.first stack) number ≡ true →
          (place : ℕ) × (slice_get stack place ≡ Some number) × (top.first ≤ place)
      in_set number held =
          let place =
          held_at (drop top.first stack) number held in (
            top.first
                + place.0,
            dropped_at top.first stack place.0 number place.1,
            omega arith,
          )

      is_in_set : (place number : ℕ) → slice_get stack place ≡ Some number → top.first ≤ place → holds (drop top.first stack) number ≡ true
      is_in_set place number at le =
          holds_at (drop top.first stack) (place - top.first) number
          (in_dropped top.first stack place (place - top.first) number at (omega (arith, le)))

      not_closed : (place number : ℕ) → slice_get stack place ≡ Some number → place < top.first →
          holds (drop top.first stack) number ≡ false
      not_closed place number at lt = by_held (holds (drop top.first stack) number) refl
        where
          by_held : (b : Bool) → holds (drop top.first stack) number ≡ b → b ≡ false
          by_held false e = refl
          by_held true e =
              let there = in_set number e in
              let same : place ≡ there.0 = open_same (sym (old.opened place number at) ∙ old.opened there.0 number there.1) in
              let le : top.first ≤ there.0 = there.2 in
              absurd (omega (arith, same, le, lt))

      still : (mark : Mark) (number : ℕ) → mark_of marks number ≡ mark → holds (drop top.first stack) number ≡ false →
          mark_of later number ≡ mark
      still mark number is out = are number ∙ ap (λ b. if b then Done count else mark_of marks number) out ∙ is

      classed : (number : ℕ) → holds (drop top.first stack) number ≡ true → mark_of later number ≡ Done count
      classed number held = are number ∙ ap (λ b. if b then Done count else mark_of marks number) held

      was : (mark : Mark) (number : ℕ) → mark_of later number ≡ mark → holds (drop top.first stack) number ≡ false →
          mark_of marks number ≡ mark
      was mark number is out = sym (are number ∙ ap (λ b. if b then Done count else mark_of marks number) out) ∙ is

      done_out : (number class : ℕ) → mark_of marks number ≡ Done class → holds (drop top.first stack) number ≡ false
      done_out number class is = by_held (holds (drop top.first stack) number) refl
        where
          by_held : (b : Bool) → holds (drop top.first stack) number ≡ b → b ≡ false
          by_held false e = refl
          by_held true e = let there = in_set number e in open_done (sym (old.opened there.0 number there.1) ∙ is)

      by_closed_open : (place number : ℕ) → mark_of later number ≡ Open place → (b : Bool) → holds (drop top.first stack) number ≡ b →
          slice_get (take top.first stack) place ≡ Some number
      by_closed_open place number is true e = open_done (sym is ∙ classed number e)
      by_closed_open place number is false e =
          let at = old.stacked place number (was (Open place) number is e) in
          take_at top.first stack place number at
          (⊎_elim (λ lt. lt) (λ le. absurd (true≢false (sym (is_in_set place number at le) ∙ e))) (cases_lt place top.first))

      seen_after : (entry : Entry) (callee : ℕ) → IsSeen marks entry todo callee → IsSeen later entry todo callee
      seen_after entry callee (IsDone class is) = IsDone class (still (Done class) callee is (done_out callee class is))
      seen_after entry callee (IsOpen place is le) = by_held (holds (drop top.first stack) callee) refl
        where
          by_held : (b : Bool) → holds (drop top.first stack) callee ≡ b → IsSeen later entry todo callee
          by_held true e = IsDone count (classed callee e)
          by_held false e = IsOpen place (still (Open place) callee is e) le
      seen_after entry callee (IsToDo turn le at) = IsToDo turn le at

      by_closed : (number callee class : ℕ) → mark_of later number ≡ Done class → holds (calls_of calls number) callee ≡ true → (b : Bool) →
          holds (drop top.first stack) number ≡ b → (other : ℕ) × (mark_of later callee ≡ Done other) × (other ≤ class)
      by_closed number callee class is call true e =
          let there = in_set number e in
          let same : count ≡ class = done_same (sym (classed number e) ∙ is) in
          by_seen same (old.edges (length before) there.0 number callee top (at_end before top) there.2 there.1 call)
        where
          by_seen : count ≡ class → IsSeen marks top todo callee → (other : ℕ) × (mark_of later callee ≡ Done other) × (other ≤ class)
          by_seen same (IsDone other done) = (
            other,
            still (Done other) callee done (done_out callee other done),
            let less = old.counted callee other done in omega
                (arith, less, same),
          )
          by_seen same (IsOpen place open_at le) =
              (count, classed callee (is_in_set place callee (old.stacked place callee open_at) le), omega (arith, same))
          by_seen same (IsToDo turn le at) = let less = slice_get_within todo turn callee at in absurd (omega (arith, less, le, none))
      by_closed number callee class is call false e =
          let found = old.closed number callee class (was (Done class) number is e) call in
          (found.0, still (Done found.0) callee found.1 (done_out callee found.0 found.1), found.2)

      by_both : (one other class : ℕ) → mark_of later one ≡ Done class → mark_of later other ≡ Done class → (b : Bool) →
          holds (drop top.first stack) one ≡ b → (c : Bool) → holds (drop top.first stack) other ≡ c → Reaches calls one other
      by_both one other class is also true e true f =
          let first = in_set one e in
          let second = in_set other f in
          old.reach first.0 second.0 one other first.1 second.1
          (λ i entry at le. ⊎_elim
          (λ left. let less : entry.first < top.first = (under_top i entry left).0 in let far : top.first
          ≤ second.0 = second.2 in omega (arith, less, far))
          (λ end. let same : entry.first ≡ top.first = ap (λ (x : Entry). x.first) end.1 in let far : top.first
          ≤ second.0 = second.2 in omega (arith, same, far)) (at_push before top i entry at))
      by_both one other class is also true e false f =
          let same : count ≡ class = done_same (sym (classed one e) ∙ is) in
          let less = old.counted other class (was (Done class) other also f) in absurd (omega (arith, less, same))
      by_both one other class is also false e true f =
          let same : count ≡ class = done_same (sym (classed other f) ∙ also) in
          let less = old.counted one class (was (Done class) one is e) in absurd (omega (arith, less, same))
      by_both one other class is also false e false f =
          old.classes one other class (was (Done class) one is e) (was (Done class) other also f)

      by_count : (number class : ℕ) → mark_of later number ≡ Done class → (b : Bool) → holds (drop top.first stack) number ≡ b →
          class < count + 1
      by_count number class is true e = let same : count ≡ class = done_same (sym (classed number e) ∙ is) in omega (arith, same)
      by_count number class is false e = let less = old.counted number class (was (Done class) number is e) in omega (arith, less)

  -- ---- the end

  -- whom a number of a class reaches is of it or of one done before
  reached_class : (marks : List Mark) (stack : List ℕ) (entries : List Entry) (todo : List ℕ) (count number class : ℕ) →
      IsSearching calls marks stack entries todo count → mark_of marks number ≡ Done class →
      (other : ℕ) → Reaches calls number other → (found : ℕ) × (mark_of marks other ≡ Done found) × (found ≤ class)
  reached_class marks stack entries todo count number class old is other reaches =
      reached_is_least calls number (λ x. (found : ℕ) × (mark_of marks x ≡ Done found) × (found ≤ class))
      (λ one callee here call. let next = old.closed one callee here.0 here.1 call in let le : here.0 ≤ class = here.2 in let less : next.0
      ≤ here.0 = next.2 in (next.0, next.1, omega (arith, le, less)))
      (class, is, omega arith) other reaches

  -- two numbers are of one class exactly where each reaches the other
  pub same_class : (marks : List Mark) (stack : List ℕ) (entries : List Entry) (todo : List ℕ) (count one other class other_class : ℕ) →
      IsSearching calls marks stack entries todo count → mark_of marks one ≡ Done class → mark_of marks other ≡ Done other_class →
      (holds (reached calls one) other && holds (reached calls other) one) ≡ (class == other_class)
  same_class marks stack entries todo count one other class other_class old is also =
      same_answers (holds (reached calls one) other && holds (reached calls other) one) (class == other_class)
      (λ both. let parts = both_true (holds (reached calls one) other) _ both in
      let there = reached_class marks stack entries todo count one class old is other parts.0 in
      let back = reached_class marks stack entries todo count other other_class old also one parts.1 in
      let is_there : there.0 ≡ other_class = done_same (sym there.1 ∙ also) in
      let is_back : back.0 ≡ class = done_same (sym back.1 ∙ is) in
      let le : there.0 ≤ class = there.2 in
      let ge : back.0 ≤ other_class = back.2 in
      (Decides-eqb class other_class).1 (omega (arith, is_there, is_back, le, ge)))
      (λ same. let e : class ≡ other_class = (Decides-eqb class other_class).0 same in
      let also_here : mark_of marks other ≡ Done class = also ∙ ap (λ n. Done n) (sym e) in
      both_are (holds (reached calls one) other) (holds (reached calls other) one) (old.classes one other class is also_here)
      (old.classes other one class also_here is))
