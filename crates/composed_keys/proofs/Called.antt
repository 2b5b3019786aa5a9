-- Whom components call outside of themselves.
use Rattle.std.proofs.Common.{◌≡◌, ◌≢◌, ℕ, zero, suc, ◌+◌, ◌-◌, ◌<◌, ◌≤◌, ◌==◌, Bool, true, false, ◌&&◌, ◌||◌, not, List, [], ◌∷◌, ◌++◌}
use Rattle.std.proofs.Common.{length, map, take, replicate, slice_get, get_or, set, Some, None, Option, ◌⊎◌, inl, inr, refl, sym, ap, ◌∙◌}
use Rattle.std.proofs.Common.{subst, arith, All, AllPairs, filter}
use Rattle.std.specs.Prelude.{if◌then◌else◌, slice_index_or}
use Rattle.std.specs.List.{list_any}
use Rattle.std.proofs.lemmas.Bool.{cases_lt}
use Rattle.std.proofs.lemmas.Bool.Decides.{Decides-eqb}
use Rattle.std.proofs.lemmas.List.{take_more, length-map, length_push, get_or-set_same, get_or-set_other, get_or-map, get_or-take}
use Rattle.std.proofs.lemmas.List.{get_or_default, length-take-le, same_lists}
use Rattle.std.proofs.lemmas.List.Elements.{All-filter, All-map}
use Rattle.std.proofs.lemmas.List.Folds.{list_any-append}
use Rattle.std.proofs.lemmas.Option.{get_or_from_slice_get, slice_get_within, slice_get-get_or}
use Rattle.component_keys.specs.Components.{calls_of, holds}
use Rattle.component_keys.specs.Keys.{is_outer}
use Rattle.component_keys.proofs.Basics.{at_end}
use Rattle.component_keys.proofs.Ordered.{held_at, some_passes}
use Rattle.component_keys.proofs.Reach.{any_passes, holds_at}
use Rattle.component_keys.proofs.Whole.{same_answers}
use Rattle.call_components.specs.Reaching.{AreDefined}
use Rattle.call_components.proofs.Marking.{holds_push, or_false}
use Rattle.composed_keys.specs.declared.rows.Outer.{Outer as OuterRow}
use Rattle.composed_keys.specs.Rows.{outer_in, outer_row}
use Rattle.composed_keys.specs.Outside.{AreCallers, AreNoted, ArePlaced, ArePutBy, calls_from, is_last, is_number, noted_once}
use Rattle.composed_keys.proofs.Placed.{outer_more, outer_none}

pub put_else : {X : Type 0} (place own : ℕ) (x y : X) → place ≢ own → (if place == own then x else y) ≡ y
put_else {X = X} place own x y differ = by_test (place == own) refl
  where
    by_test : (b : Bool) → (place == own) ≡ b → (if b then x else y) ≡ y
    by_test true e = absurd (differ ((Decides-eqb place own).0 e))
    by_test false e = refl

-- ---- lists of lists

-- what stands at a place, by what was put there
pub set_at : {A : Type 0} (lists : List (List A)) (place other : ℕ) (list : List A) → place < length lists →
    slice_index_or (set lists place list) other [] ≡ (if place == other then list else slice_index_or lists other [])
set_at {A = A} lists place other list lt = by_test (place == other) refl
  where
    by_test : (b : Bool) → (place == other) ≡ b → get_or (set lists place list) other [] ≡ (if b then list else get_or lists other [])
    by_test true e = ap (λ n. get_or (set lists place list) n []) (sym ((Decides-eqb place other).0 e))
        ∙ get_or-set_same lists place list [] lt
    by_test false e =
        get_or-set_other lists place other list []
        (λ same. let t : (place == other) ≡ true = (Decides-eqb place other).1 (sym same) in let never : true ≡ false = sym t ∙ e in cc)

pushed_end : (lists : List (List ℕ)) (list : List ℕ) → slice_index_or (lists ++ list ∷ []) (length lists) [] ≡ list
pushed_end [] list = refl
pushed_end (first ∷ lists) list = pushed_end lists list

pushed_other : (lists : List (List ℕ)) (list : List ℕ) (other : ℕ) → length lists ≢ other →
    slice_index_or (lists ++ list ∷ []) other [] ≡ slice_index_or lists other []
pushed_other [] list zero differ = absurd (differ refl)
pushed_other [] list (suc other) differ = refl
pushed_other (first ∷ lists) list zero differ = refl
pushed_other (first ∷ lists) list (suc other) differ = pushed_other lists list other (λ same. differ (ap (λ n. suc n) same))

beyond : {A : Type 0} (lists : List (List A)) (place : ℕ) → length lists ≤ place → slice_index_or lists place [] ≡ []
beyond [] place le = refl
beyond (first ∷ lists) zero le = absurd (omega (arith, le))
beyond (first ∷ lists) (suc place) le = beyond lists place (omega (arith, le))

all_same : {X : Type 0} (n place : ℕ) (x : X) → slice_index_or (replicate n x) place x ≡ x
all_same zero place x = refl
all_same (suc n) zero x = refl
all_same (suc n) (suc place) x = all_same n place x

-- ---- who calls whom

nobody : (b : Bool) → (b && false) ≡ false
nobody true = refl
nobody false = refl

pub none_noted : (caller : ℕ) (callers : List (List ℕ)) → AreNoted [] caller callers callers
none_noted caller callers other callee =
    sym (ap (λ b. holds (calls_of callers callee) other || b) (nobody (caller == other)) ∙ or_false (holds (calls_of callers callee) other))

with_own : (a c h : Bool) → ((a || (c && h)) || c) ≡ (a || (c && (h || true)))
with_own true c h = refl
with_own false true true = refl
with_own false true false = refl
with_own false false h = refl

pub more_noted : (callees : List ℕ) (i caller : ℕ) (before now : List (List ℕ)) → AreNoted (take i callees) caller before now →
    i < length callees → get_or callees i 0 < length now →
    AreNoted (take (i + 1) callees) caller before (set now (get_or callees i 0) (slice_index_or now (get_or callees i 0) [] ++ caller ∷ []))
more_noted callees i caller before now noted lt within other callee =
    ap (λ l. holds l other) (set_at now one callee (slice_index_or now one [] ++ caller ∷ []) within) ∙ by_test (one == callee) refl ∙
    sym (ap (λ l. holds (calls_of before callee) other || ((caller == other) && holds l callee)) (take_more callees i 0 lt)
    ∙ ap (λ b. holds (calls_of before callee) other || ((caller == other) && b)) (holds_push (take i callees) one callee))
  where
    one : ℕ
    one = get_or callees i 0

    by_test : (b : Bool) → (one == callee) ≡ b →
        holds (if b then slice_index_or now one [] ++ caller ∷ [] else slice_index_or now callee []) other
        ≡ (holds (calls_of before callee) other || ((caller == other) && (holds (take i callees) callee || b)))
    by_test true e =
        holds_push (slice_index_or now one []) caller other
        ∙ ap (λ n. holds (slice_index_or now n []) other || (caller == other)) ((Decides-eqb one callee).0 e)
        ∙ ap (λ b. b || (caller == other)) (noted other callee) ∙
        with_own (holds (calls_of before callee) other) (caller == other) (holds (take i callees) callee)
    by_test false e = noted other callee
        ∙ ap (λ b. holds (calls_of before callee) other || ((caller == other) && b)) (sym (or_false (holds (take i callees) callee)))

pub callers_first : (callers : List (List ℕ)) (n : ℕ) → callers ≡ replicate n [] → AreCallers [] callers
callers_first callers n is caller callee = ap (λ l. holds (calls_of l callee) caller) is ∙ ap (λ l. holds l caller) (all_same n callee [])

pub more_callers : (calls : List (List ℕ)) (i : ℕ) (before after : List (List ℕ)) → AreCallers (take i calls) before → i < length calls →
    AreNoted (calls_of calls i) i before after → AreCallers (take (i + 1) calls) after
more_callers calls i before after so_far lt noted caller callee =
    noted caller callee ∙ ap (λ b. b || ((i == caller) && holds (calls_of calls i) callee)) (so_far caller callee)
    ∙ by_test (i == caller) refl ∙
    sym (ap (λ l. holds (calls_of l caller) callee) (take_more calls i [] lt))
  where
    length_is : length (take i calls) ≡ i
    length_is = length-take-le i calls (omega (arith, lt))

    by_test : (b : Bool) → (i == caller) ≡ b →
        (holds (calls_of (take i calls) caller) callee || (b && holds (calls_of calls i) callee))
        ≡ holds (calls_of (take i calls ++ calls_of calls i ∷ []) caller) callee
    by_test true e =
        let same : i ≡ caller = (Decides-eqb i caller).0 e in
        ap (λ l. holds l callee || holds (calls_of calls i) callee) (beyond (take i calls) caller (omega (arith, same, length_is))) ∙
        sym (ap (λ n. holds (calls_of (take i calls ++ calls_of calls i ∷ []) n) callee) (sym (length_is ∙ same))
        ∙ ap (λ l. holds l callee) (pushed_end (take i calls) (calls_of calls i)))
    by_test false e =
        or_false (holds (calls_of (take i calls) caller) callee) ∙
        sym (ap (λ l. holds l callee)
        (pushed_other (take i calls) (calls_of calls i) caller
        (λ same. let t : (i == caller) ≡ true = (Decides-eqb i caller).1 (sym length_is ∙ same) in let never : true ≡ false = sym t
        ∙ e in cc)))

-- ---- one procedure

is_last_push : (list : List OuterRow) (outer : OuterRow) → is_last outer.number (list ++ outer ∷ []) ≡ true
is_last_push list outer =
    let longer : length (list ++ outer ∷ []) ≡ length list + 1 = length_push list outer in
    ap (λ n. is_number outer.number (slice_get (list ++ outer ∷ []) n))
    (let e : length (list ++ outer ∷ []) - 1 ≡ length list = omega (arith, longer) in e) ∙ ap (is_number outer.number) (at_end list outer)
    ∙
    (Decides-eqb outer.number outer.number).1 refl

pub none_put_by : (places : List ℕ) (outer : OuterRow) (before : List (List OuterRow)) → ArePutBy places [] outer before before
none_put_by places outer before place = refl

more_from : (places callers : List ℕ) (i own place : ℕ) → i < length callers →
    calls_from places (take (i + 1) callers) own place
    ≡ ((list_any (λ caller. slice_index_or places caller 0 == place) (take i callers)
    || (slice_index_or places (get_or callers i 0) 0 == place)) && not (own == place))
more_from places callers i own place lt =
    ap (λ l. list_any (λ caller. slice_index_or places caller 0 == place) l && not (own == place)) (take_more callers i 0 lt) ∙
    ap (λ b. b && not (own == place))
    (list_any-append (λ caller. slice_index_or places caller 0 == place) (take i callers) (get_or callers i 0 ∷ []) ∙
    ap (λ b. list_any (λ caller. slice_index_or places caller 0 == place) (take i callers) || b)
    (or_false (slice_index_or places (get_or callers i 0) 0 == place)))

-- a caller of the procedure's own component
own_caller : (places callers : List ℕ) (i : ℕ) (outer : OuterRow) (before now : List (List OuterRow)) →
    ArePutBy places (take i callers) outer before now → i < length callers →
    slice_index_or places (get_or callers i 0) 0 ≡ outer.component → ArePutBy places (take (i + 1) callers) outer before now
own_caller places callers i outer before now so_far lt own place =
    so_far place ∙ ap (λ b. if b then slice_index_or before place [] ++ outer ∷ [] else slice_index_or before place [])
    (by_test (list_any (λ caller. slice_index_or places caller 0 == place) (take i callers)) (outer.component == place)
    ∙ ap (λ n. (list_any (λ caller. slice_index_or places caller 0 == place) (take i callers) || (n == place))
    && not (outer.component == place)) (sym own) ∙
    sym (more_from places callers i outer.component place lt))
  where
    by_test : (a b : Bool) → (a && not b) ≡ ((a || b) && not b)
    by_test true b = refl
    by_test false true = refl
    by_test false false = refl

-- a caller of another component
other_caller : (places callers : List ℕ) (i : ℕ) (outer : OuterRow) (before now : List (List OuterRow)) →
    ArePutBy places (take i callers) outer before now → i < length callers →
    slice_index_or places (get_or callers i 0) 0 ≢ outer.component → slice_index_or places (get_or callers i 0) 0 < length now →
    ((place : ℕ) → is_last outer.number (slice_index_or before place []) ≡ false) →
    ArePutBy places (take (i + 1) callers) outer before
    (set now (slice_index_or places (get_or callers i 0) 0)
    (noted_once (slice_index_or now (slice_index_or places (get_or callers i 0) 0) []) outer))
other_caller places callers i outer before now so_far lt other within ahead place =
    set_at now here place (noted_once (slice_index_or now here []) outer) within ∙ by_place (here == place) refl ∙
    ap (λ b. if b then slice_index_or before place [] ++ outer ∷ [] else slice_index_or before place [])
    (sym (more_from places callers i outer.component place lt))
  where
    here : ℕ
    here = slice_index_or places (get_or callers i 0) 0

    some : Bool
    some = list_any (λ caller. slice_index_or places caller 0 == place) (take i callers)

    noted : (b : Bool) (list : List OuterRow) → slice_index_or now place [] ≡ (if b then list ++ outer ∷ [] else list) →
        is_last outer.number list ≡ false → noted_once (slice_index_or now place []) outer ≡ list ++ outer ∷ []
    noted true list is last = ap (λ l. noted_once l outer) is ∙ rw (is_last_push list outer) refl
    noted false list is last = ap (λ l. noted_once l outer) is ∙ rw last refl

    with_true : (a b : Bool) → b ≡ false → ((a || true) && not b) ≡ true
    with_true true false e = refl
    with_true false false e = refl
    with_true a true e = cc

    by_place : (b : Bool) → (here == place) ≡ b →
        (if b then noted_once (slice_index_or now here []) outer else slice_index_or now place []) ≡
        (if (some || b) && not (outer.component == place) then slice_index_or before place [] ++ outer ∷ []
        else slice_index_or before place [])
    by_place true e =
        let same : here ≡ place = (Decides-eqb here place).0 e in
        let own : (outer.component == place) ≡ false = differ (outer.component == place) refl in
        ap (λ n. noted_once (slice_index_or now n []) outer) same
        ∙ noted (some && not (outer.component == place)) (slice_index_or before place []) (so_far place) (ahead place) ∙
        ap (λ b. if b then slice_index_or before place [] ++ outer ∷ [] else slice_index_or before place [])
        (sym (with_true some (outer.component == place) own))
      where
        differ : (b : Bool) → (outer.component == place) ≡ b → b ≡ false
        differ false f = refl
        differ true f = absurd (other ((Decides-eqb here place).0 e ∙ sym ((Decides-eqb outer.component place).0 f)))
    by_place false e = so_far place
        ∙ ap (λ b. if b && not (outer.component == place) then slice_index_or before place [] ++ outer ∷ []
        else slice_index_or before place []) (sym (or_false some))

-- a caller of any component
pub more_put_by : (places callers : List ℕ) (i : ℕ) (outer : OuterRow) (before now after : List (List OuterRow)) →
    ArePutBy places (take i callers) outer before now → i < length callers →
    slice_index_or places (get_or callers i 0) 0 < length now →
    ((place : ℕ) → is_last outer.number (slice_index_or before place []) ≡ false) →
    after ≡ (if slice_index_or places (get_or callers i 0) 0 == outer.component then now
    else set now (slice_index_or places (get_or callers i 0) 0)
    (noted_once (slice_index_or now (slice_index_or places (get_or callers i 0) 0) []) outer)) →
    ArePutBy places (take (i + 1) callers) outer before after
more_put_by places callers i outer before now after so_far lt within ahead is =
    by_test (slice_index_or places (get_or callers i 0) 0 == outer.component) refl is
  where
    by_test : (b : Bool) → (slice_index_or places (get_or callers i 0) 0 == outer.component) ≡ b →
        after ≡ (if b then now
        else set now (slice_index_or places (get_or callers i 0) 0)
        (noted_once (slice_index_or now (slice_index_or places (get_or callers i 0) 0) []) outer)) →
        ArePutBy places (take (i + 1) callers) outer before after
    by_test true e same =
        subst (ArePutBy places (take (i + 1) callers) outer before) (sym same)
        (own_caller places callers i outer before now so_far lt
        ((Decides-eqb (slice_index_or places (get_or callers i 0) 0) outer.component).0 e))
    by_test false e same =
        subst (ArePutBy places (take (i + 1) callers) outer before) (sym same)
        (other_caller places callers i outer before now so_far lt
        (λ own. let t : (slice_index_or places (get_or callers i 0) 0 == outer.component)
        ≡ true = (Decides-eqb (slice_index_or places (get_or callers i 0) 0) outer.component).1 own in let never : true ≡ false = sym t
        ∙ e in cc) within ahead)

-- ---- all procedures

module _ (calls callers : List (List ℕ)) (defined : AreDefined calls) (are : AreCallers calls callers) (all : List (List ℕ))
    (places : List ℕ) (placed : ArePlaced all (length calls) places) where
  called_below : (caller callee : ℕ) → holds (calls_of calls caller) callee ≡ true → caller < length calls
  called_below caller callee h = by_order (nat_or caller)
    where
      nat_or : (n : ℕ) → (n < length calls) ⊎ (length calls ≤ n)
      nat_or n = cases_lt n (length calls)

      by_order : (caller < length calls) ⊎ (length calls ≤ caller) → caller < length calls
      by_order (inl lt) = lt
      by_order (inr le) = let never : false ≡ true = sym (ap (λ l. holds l callee) (beyond calls caller le)) ∙ h in cc

  pub callers_below : (callee : ℕ) → All (λ caller. caller < length places) (calls_of callers callee)
  callers_below callee k d lt =
      let one : ℕ = get_or (calls_of callers callee) k d in
      let held : holds (calls_of callers callee) one ≡ true =
      holds_at (calls_of callers callee) k one (slice_get-get_or (calls_of callers callee) k d lt) in
      let less : one < length calls = called_below one callee (sym (are one callee) ∙ held) in
      let lengths : length places ≡ length calls = placed.lengths in
      omega (arith, less, lengths)

  from_outside : (number place : ℕ) → number < length calls → place < length all →
      calls_from places (calls_of callers number) (slice_index_or places number 0) place
      ≡ is_outer calls (slice_index_or all place []) number
  from_outside number place lt less =
      ap (λ b. b && not (slice_index_or places number 0 == place)) any_same ∙ turn _ (not (slice_index_or places number 0 == place)) ∙
      ap (λ b. not b && list_any (λ member. holds (calls_of calls member) number) (slice_index_or all place []))
      (sym (placed.own number place lt less))
    where
      turn : (a b : Bool) → (a && b) ≡ (b && a)
      turn true true = refl
      turn true false = refl
      turn false true = refl
      turn false false = refl

      any_same : list_any (λ caller. slice_index_or places caller 0 == place) (calls_of callers number)
          ≡ list_any (λ member. holds (calls_of calls member) number) (slice_index_or all place [])
      any_same = same_answers _ _
          (λ any.
          let one = some_passes (λ caller. slice_index_or places caller 0 == place) (calls_of callers number) any in
          let call : holds (calls_of calls one.1) number ≡ true =
          sym (are one.1 number) ∙ holds_at (calls_of callers number) one.0 one.1 one.2 in
          let member = held_at (slice_index_or all place []) one.1 (placed.own one.1 place (called_below one.1 number call) less ∙ one.3) in
          any_passes (λ m. holds (calls_of calls m) number) (slice_index_or all place []) member.0 one.1 member.1 call)
          (λ any.
          let one = some_passes (λ m. holds (calls_of calls m) number) (slice_index_or all place []) any in
          let caller = held_at (calls_of callers number) one.1 (are one.1 number ∙ one.3) in
          any_passes (λ m. slice_index_or places m 0 == place) (calls_of callers number) caller.0 one.1 caller.1
          (sym (placed.own one.1 place (called_below one.1 number one.3) less) ∙ holds_at (slice_index_or all place []) one.0 one.1 one.2))

  -- the rows so far
  abbrev pub AreOutside : List ℕ → List (List OuterRow) → Type 0
  AreOutside order now = (place : ℕ) → place < length all →
      slice_index_or now place [] ≡ outer_in calls places order (slice_index_or all place [])

  pub outside_more : (order : List ℕ) (i : ℕ) (before after : List (List OuterRow)) → AreOutside (take i order) before → i < length order →
      get_or order i 0 < length calls →
      ArePutBy places (calls_of callers (get_or order i 0)) (outer_row places (get_or order i 0)) before after →
      AreOutside (take (i + 1) order) after
  outside_more order i before after so_far lt within put place less =
      put place ∙ ap
      (λ b. if b then slice_index_or before place [] ++ outer_row places (get_or order i 0) ∷ [] else slice_index_or before place [])
      (from_outside (get_or order i 0) place within less) ∙
      by_test (is_outer calls (slice_index_or all place []) (get_or order i 0)) refl
    where
      by_test : (b : Bool) → is_outer calls (slice_index_or all place []) (get_or order i 0) ≡ b →
          (if b then slice_index_or before place [] ++ outer_row places (get_or order i 0) ∷ [] else slice_index_or before place [])
          ≡ outer_in calls places (take (i + 1) order) (slice_index_or all place [])
      by_test true e = ap (λ l. l ++ outer_row places (get_or order i 0) ∷ []) (so_far place less)
          ∙ sym (outer_more calls places order (slice_index_or all place []) i lt e)
      by_test false e = so_far place less ∙ sym (outer_none calls places order (slice_index_or all place []) i lt e)

  -- a number that comes later is none of them
  pub is_ahead : (order : List ℕ) (i : ℕ) (now : List (List OuterRow)) → AreOutside (take i order) now → length now ≡ length all →
      AllPairs (λ one other. one ≢ other) order → i < length order →
      (place : ℕ) → is_last (get_or order i 0) (slice_index_or now place []) ≡ false
  is_ahead order i now so_far lengths apart lt place = by_order (cases_lt place (length all))
    where
      number : ℕ
      number = get_or order i 0

      none_last : (list : List OuterRow) → All (λ (outer : OuterRow). outer.number ≢ number) list → is_last number list ≡ false
      none_last list all_differ = by_option (slice_get list (length list - 1)) refl
        where
          by_option : (o : Option OuterRow) → slice_get list (length list - 1) ≡ o → is_number number o ≡ false
          by_option None e = refl
          by_option (Some outer) e = by_test (outer.number == number) refl
            where
              by_test : (b : Bool) → (outer.number == number) ≡ b → b ≡ false
              by_test false f = refl
              by_test true f =
                  let differ : (get_or list (length list - 1) outer).number ≢ number =
                  all_differ (length list - 1) outer (slice_get_within list (length list - 1) outer e) in
                  absurd (differ
                  (ap (λ (o : OuterRow). o.number) (get_or_from_slice_get list (length list - 1) outer outer e)
                  ∙ (Decides-eqb outer.number number).0 f))

      others : All (λ other. other ≢ number) (take i order)
      others k d less =
          λ same. apart_at k (short k d less)
          (sym (get_or-take i order k 0 (short k d less)) ∙ get_or_default (take i order) k 0 d less ∙ same)
        where
          short : (k d : ℕ) → k < length (take i order) → k < i
          short k d l = let le : length (take i order) ≡ i = length-take-le i order (omega (arith, lt)) in omega (arith, l, le)

          apart_at : (k : ℕ) → k < i → get_or order k 0 ≡ number → ⊥
          apart_at k l same = apart k i 0 l lt same

      by_order : (place < length all) ⊎ (length all ≤ place) → is_last number (slice_index_or now place []) ≡ false
      by_order (inl less) =
          ap (is_last number) (so_far place less) ∙
          none_last (outer_in calls places (take i order) (slice_index_or all place []))
          (All-map (λ (outer : OuterRow). outer.number ≢ number) (outer_row places)
          (filter (is_outer calls (slice_index_or all place [])) (take i order))
          (All-filter (is_outer calls (slice_index_or all place [])) (λ other. other ≢ number) (take i order) others))
      by_order (inr le) = ap (is_last number) (beyond now place (omega (arith, le, lengths)))

  pub outside_all : (order : List ℕ) (now : List (List OuterRow)) → length now ≡ length all → AreOutside order now →
      now ≡ map (outer_in calls places order) all
  outside_all order now lengths so_far =
      same_lists now (map (outer_in calls places order) all) (lengths ∙ sym (length-map all (outer_in calls places order)))
      (λ k d lt.
      get_or_default now k d [] lt ∙ so_far k (omega (arith, lt, lengths))
      ∙ sym (get_or-map (outer_in calls places order) all k [] d (omega (arith, lt, lengths))))

-- at first nobody is called
pub outside_first : (calls all : List (List ℕ)) (places : List ℕ) (now : List (List OuterRow)) (n : ℕ) → now ≡ replicate n [] →
    (place : ℕ) → place < length all → slice_index_or now place [] ≡ outer_in calls places [] (slice_index_or all place [])
outside_first calls all places now n is place less = ap (λ l. slice_index_or l place []) is ∙ all_same n place []
