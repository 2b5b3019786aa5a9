-- The first temporary of each type.
use Rattle.std.proofs.Common.{◌≡◌, ℕ, zero, suc, ◌+◌, ◌<◌, ◌≤◌, ◌==◌, Bool, true, false, List, [], ◌∷◌, ◌++◌, All}
use Rattle.std.proofs.Common.{IfSome, Option, Some, None}
use Rattle.std.proofs.Common.{length, map, drop, set, get_or, unwrap_or, refl, sym, ap, ◌∙◌, subst, arith, ⊎_elim}
use Rattle.std.proofs.lemmas.Bool.{true≢false, cases_lt}
use Rattle.std.proofs.lemmas.Bool.Decides.{eqb_tells}
use Rattle.std.proofs.lemmas.List.{length-map, get_or-map, length_push}
use Rattle.std.proofs.lemmas.List.Elements.{All-drop, All-push}
use Rattle.std.proofs.lemmas.Slice.Eq.{bytes_eq-Decides}
use Rattle.std.specs.Prelude.{if◌then◌else◌}
use Rattle.shape_data.specs.declared.program.Ty.{Ty}
use Rattle.shape_data.specs.declared.program.Ty.TheVariants.{Int, Ptr, Void}
use Rattle.c_types_rules.specs.Types.{same_type}
use Rattle.c_lower_rules.specs.Temporaries.{take_temp}
use Rattle.c_types_names.specs.NameMap.{or_last}
use Rattle.c_types_names.specs.Seen.{type_seen}
use Rattle.c_lower_emit.specs.declared.type_numbers.TypeNumbers.{TypeNumbers}
use Rattle.c_lower_emit.specs.declared.temps.Temp.{Temp}
use Rattle.c_lower_emit.specs.Seen.{temp_seen}
use Rattle.c_lower_emit.specs.TypeNumbers.{number_in}
use Rattle.c_lower_emit.specs.KeptTemps.{AreFirst, IsKept, first_like, unused}
use Rattle.c_lower_emit.proofs.TakenTemps.{place_behind}

-- TYPES

itself : (kind : Ty) → same_type kind kind ≡ true
itself Int = refl
itself (Ptr tag) = (bytes_eq-Decides tag tag).1 refl
itself Void = refl

exact : (one other : Ty) → same_type one other ≡ true → one ≡ other
exact Int Int e = refl
exact Int (Ptr tag) e = absurd (true≢false (sym e))
exact Int Void e = absurd (true≢false (sym e))
exact (Ptr tag) Int e = absurd (true≢false (sym e))
exact (Ptr one) (Ptr other) e = ap Ptr ((bytes_eq-Decides one other).0 e)
exact (Ptr tag) Void e = absurd (true≢false (sym e))
exact Void Int e = absurd (true≢false (sym e))
exact Void (Ptr tag) e = absurd (true≢false (sym e))
exact Void Void e = refl

-- THE FIRST ONE

first_within : (kind : Ty) (temps : List Temp) → first_like kind temps ≤ length temps
first_within kind [] = omega arith
first_within kind (temp ∷ temps) = by_test (same_type (type_seen temp.kind) kind) (first_within kind temps)
  where
    by_test : (b : Bool) → first_like kind temps ≤ length temps → (if b then 0 else suc (first_like kind temps)) ≤ length (temp ∷ temps)
    by_test true le = omega arith
    by_test false le = omega (arith, le)

at_first : (kind : Ty) (temps : List Temp) (d : Temp) → first_like kind temps < length temps
    → same_type (type_seen (get_or temps (first_like kind temps) d).kind) kind ≡ true
at_first kind [] d = λ lt. absurd (omega (arith, lt))
at_first kind (temp ∷ temps) d = by_test (same_type (type_seen temp.kind) kind) refl (at_first kind temps d)
  where
    by_test : (b : Bool) → same_type (type_seen temp.kind) kind ≡ b
        → (first_like kind temps < length temps → same_type (type_seen (get_or temps (first_like kind temps) d).kind) kind ≡ true)
        → (if b then 0 else suc (first_like kind temps)) < length (temp ∷ temps)
        → same_type (type_seen (get_or (temp ∷ temps) (if b then 0 else suc (first_like kind temps)) d).kind) kind ≡ true
    by_test true is again lt = is
    by_test false is again lt = again (omega (arith, lt))

not_behind : (kind : Ty) (temps : List Temp) (place : ℕ) (d : Temp) → place < length temps
    → same_type (type_seen (get_or temps place d).kind) kind ≡ true → first_like kind temps ≤ place
not_behind kind [] place d lt = λ is. absurd (omega (arith, lt))
not_behind kind (temp ∷ temps) zero d lt = by_test (same_type (type_seen temp.kind) kind)
  where
    by_test : (b : Bool) → b ≡ true → (if b then 0 else suc (first_like kind temps)) ≤ 0
    by_test true is = omega arith
    by_test false is = absurd (true≢false (sym is))
not_behind kind (temp ∷ temps) (suc place) d lt = λ is.
    by_test (same_type (type_seen temp.kind) kind) (not_behind kind temps place d (omega (arith, lt)) is)
  where
    by_test : (b : Bool) → first_like kind temps ≤ place → (if b then 0 else suc (first_like kind temps)) ≤ suc place
    by_test true le = omega arith
    by_test false le = omega (arith, le)

-- WHOSE FIRST ONE STANDS THERE IS OF THE TYPE

pub tells : (numbers : TypeNumbers) (temps : List Temp) → AreFirst numbers temps → (kind : Ty) (first : ℕ)
    → first ≡ unwrap_or (number_in numbers kind) (length temps)
    → All (λ temp. (temp.first == first) ≡ same_type (type_seen temp.kind) kind) temps
tells numbers temps h kind first at place d lt =
    by_test (same_type of kind) refl
  where
    temp : Temp
    temp = get_or temps place d

    of : Ty
    of = type_seen temp.kind

    is : first ≡ first_like kind temps
    is = at ∙ h.found kind

    own : temp.first ≡ first_like of temps
    own = h.each place d lt

    same_first : temp.first ≡ first → same_type of kind ≡ true
    same_first same =
        let low : first_like of temps ≤ place = not_behind of temps place d lt (itself of) in
        let one : same_type (type_seen (get_or temps (first_like of temps) d).kind) of ≡ true =
        at_first of temps d (omega (arith, low, lt)) in
        let places : first_like kind temps ≡ first_like of temps = sym is ∙ sym same ∙ own in
        let other : same_type (type_seen (get_or temps (first_like kind temps) d).kind) kind ≡ true =
        at_first kind temps d (omega (arith, low, lt, places)) in
        let there : type_seen (get_or temps (first_like of temps) d).kind ≡ kind =
        ap (λ n. type_seen (get_or temps n d).kind) (sym places)
        ∙ exact (type_seen (get_or temps (first_like kind temps) d).kind) kind other in
        subst (λ k. same_type of k ≡ true)
        (sym (exact (type_seen (get_or temps (first_like of temps) d).kind) of one) ∙ there) (itself of)

    by_test : (b : Bool) → same_type of kind ≡ b → (temp.first == first) ≡ same_type of kind
    by_test true e =
        ⊎_elim (λ t. t.0 ∙ sym e)
        (λ t. absurd (t.1 (own ∙ ap (λ k. first_like k temps) (exact of kind e) ∙ sym is))) (eqb_tells temp.first first)
    by_test false e =
        ⊎_elim (λ t. absurd (true≢false (sym (same_first t.1) ∙ e))) (λ t. t.0 ∙ sym e) (eqb_tells temp.first first)

-- ONE MORE

push_there : (kind : Ty) (temps : List Temp) (temp : Temp) → first_like kind temps < length temps
    → first_like kind (temps ++ temp ∷ []) ≡ first_like kind temps
push_there kind [] temp = λ lt. absurd (omega (arith, lt))
push_there kind (first ∷ temps) temp =
    by_test (same_type (type_seen first.kind) kind) (push_there kind temps temp)
  where
    by_test : (b : Bool)
        → (first_like kind temps < length temps → first_like kind (temps ++ temp ∷ []) ≡ first_like kind temps)
        → (if b then 0 else suc (first_like kind temps)) < length (first ∷ temps)
        → (if b then 0 else suc (first_like kind (temps ++ temp ∷ []))) ≡ (if b then 0 else suc (first_like kind temps))
    by_test true again lt = refl
    by_test false again lt = ap suc (again (omega (arith, lt)))

push_behind : (kind : Ty) (temps : List Temp) (temp : Temp) → length temps ≤ first_like kind temps
    → first_like kind (temps ++ temp ∷ []) ≡ (if same_type (type_seen temp.kind) kind then length temps else suc (length temps))
push_behind kind [] temp = λ le. refl
push_behind kind (first ∷ temps) temp =
    by_test (same_type (type_seen first.kind) kind) (push_behind kind temps temp)
  where
    by_other : (c : Bool) → suc (if c then length temps else suc (length temps))
        ≡ (if c then length (first ∷ temps) else suc (length (first ∷ temps)))
    by_other true = refl
    by_other false = refl

    by_test : (b : Bool)
        → (length temps ≤ first_like kind temps
        → first_like kind (temps ++ temp ∷ []) ≡ (if same_type (type_seen temp.kind) kind then length temps else suc (length temps)))
        → length (first ∷ temps) ≤ (if b then 0 else suc (first_like kind temps))
        → (if b then 0 else suc (first_like kind (temps ++ temp ∷ [])))
        ≡ (if same_type (type_seen temp.kind) kind then length (first ∷ temps) else suc (length (first ∷ temps)))
    by_test true again le = absurd (omega (arith, le))
    by_test false again le = ap suc (again (omega (arith, le))) ∙ by_other (same_type (type_seen temp.kind) kind)

module _ (numbers after : TypeNumbers) (temps : List Temp) (temp : Temp) (h : AreFirst numbers temps)
    (own : temp.first ≡ first_like (type_seen temp.kind) temps)
    (noted : (kind : Ty) → number_in after kind ≡ or_last (number_in numbers kind) (same_type (type_seen temp.kind) kind) temp.first) where
  -- the first of a type, by whether the new one is of the type
  found_by : (kind : Ty) (b : Bool) (o : Option ℕ) → same_type (type_seen temp.kind) kind ≡ b
      → unwrap_or o (length temps) ≡ first_like kind temps → IfSome o (λ place. place < length temps)
      → unwrap_or (or_last o b temp.first) (length (temps ++ temp ∷ [])) ≡ first_like kind (temps ++ temp ∷ [])
  found_by kind true o is found within =
      let same : first_like (type_seen temp.kind) temps ≡ first_like kind temps =
      ap (λ k. first_like k temps) (exact (type_seen temp.kind) kind is) in
      ⊎_elim
      (λ lt. own ∙ same ∙ sym (push_there kind temps temp lt))
      (λ le. own ∙ same ∙ omega (arith, le, first_within kind temps)
      ∙ sym (push_behind kind temps temp le ∙ ap (λ c. if c then length temps else suc (length temps)) is))
      (cases_lt (first_like kind temps) (length temps))
  found_by kind false (Some place) is found within =
      found ∙ sym (push_there kind temps temp (subst (λ n. n < length temps) found within))
  found_by kind false None is found within =
      let long = length_push temps temp in
      let le : length temps ≤ first_like kind temps = omega (arith, found) in
      omega (arith, long)
      ∙ sym (push_behind kind temps temp le ∙ ap (λ c. if c then length temps else suc (length temps)) is)

  within_by : (b : Bool) (o : Option ℕ) → IfSome o (λ place. place < length temps)
      → IfSome (or_last o b temp.first) (λ place. place < length (temps ++ temp ∷ []))
  within_by true o within =
      omega (arith, own, first_within (type_seen temp.kind) temps, length_push temps temp)
  within_by false (Some place) within = omega (arith, within, length_push temps temp)
  within_by false None within = within

  own_more : temp.first ≡ first_like (type_seen temp.kind) (temps ++ temp ∷ [])
  own_more =
      ⊎_elim (λ lt. own ∙ sym (push_there (type_seen temp.kind) temps temp lt))
      (λ le. own ∙ omega (arith, le, first_within (type_seen temp.kind) temps)
      ∙ sym (push_behind (type_seen temp.kind) temps temp le
      ∙ ap (λ c. if c then length temps else suc (length temps)) (itself (type_seen temp.kind))))
      (cases_lt (first_like (type_seen temp.kind) temps) (length temps))

  pub first_more : AreFirst after (temps ++ temp ∷ [])
  first_more = record {
    found = λ kind.
        ap (λ o. unwrap_or o (length (temps ++ temp ∷ []))) (noted kind)
        ∙ found_by kind (same_type (type_seen temp.kind) kind) (number_in numbers kind) refl (h.found kind) (h.within kind);
    within = λ kind.
        subst (λ o. IfSome o (λ place. place < length (temps ++ temp ∷ []))) (sym (noted kind))
        (within_by (same_type (type_seen temp.kind) kind) (number_in numbers kind) (h.within kind));
    each =
        All-push (λ one. one.first ≡ first_like (type_seen one.kind) (temps ++ temp ∷ [])) temps temp
        (λ place d lt. h.each place d lt
        ∙ sym (push_there (type_seen (get_or temps place d).kind) temps temp
        (omega (
          arith,
          lt,
          not_behind (type_seen (get_or temps place d).kind) temps place d lt (itself (type_seen (get_or temps place d).kind)),
        ))))
        own_more;
  }

-- USED OR NOT

like_unused : (kind : Ty) (temps : List Temp) → first_like kind (map unused temps) ≡ first_like kind temps
like_unused kind [] = refl
like_unused kind (temp ∷ temps) = ap (λ n. if same_type (type_seen temp.kind) kind then 0 else suc n) (like_unused kind temps)

like_same : (kind : Ty) (one other : List Temp) → map unused one ≡ map unused other → first_like kind one ≡ first_like kind other
like_same kind one other same = sym (like_unused kind one) ∙ ap (first_like kind) same ∙ like_unused kind other

-- it is not asked whether a temporary is used
pub first_same : (numbers : TypeNumbers) (one other : List Temp) → map unused other ≡ map unused one → AreFirst numbers one
    → AreFirst numbers other
first_same numbers one other same h =
    let long : length other ≡ length one = sym (length-map other unused) ∙ ap length same ∙ length-map one unused in
    record {
      found = λ kind. ap (unwrap_or (number_in numbers kind)) long ∙ h.found kind ∙ sym (like_same kind other one same);
      within = λ kind. subst (λ n. IfSome (number_in numbers kind) (λ place. place < n)) (sym long) (h.within kind);
      each = λ place d lt.
          let there : unused (get_or other place d) ≡ unused (get_or one place d) =
          sym (get_or-map unused other place d (unused d) lt) ∙ ap (λ ts. get_or ts place (unused d)) same
          ∙ get_or-map unused one place d (unused d) (omega (arith, lt, long)) in
          ap (λ (t : Temp). t.first) there ∙ h.each place d (omega (arith, lt, long))
          ∙ ap (λ (t : Temp). first_like (type_seen t.kind) one) (sym there)
          ∙ sym (like_same (type_seen (get_or other place d).kind) other one same);
    }

pub unused_again : (temps : List Temp) → map unused (map unused temps) ≡ map unused temps
unused_again [] = refl
unused_again (temp ∷ temps) = ap (λ ts. unused temp ∷ ts) (unused_again temps)

-- one is used, and is still of its type
pub set_unused : (temps : List Temp) (place : ℕ) (d : Temp) → place < length temps → d ≡ get_or temps place d
    → map unused (set temps place (record d { used = true })) ≡ map unused temps
set_unused [] place d lt = λ is. absurd (omega (arith, lt))
set_unused (temp ∷ temps) zero d lt = λ is. ap (λ t. unused t ∷ map unused temps) is
set_unused (temp ∷ temps) (suc place) d lt = λ is. ap (λ ts. unused temp ∷ ts) (set_unused temps place d (omega (arith, lt)) is)

-- where there is one of the type, it is noted already
pub noted_already : (numbers : TypeNumbers) (temps : List Temp) → AreFirst numbers temps → (one : Ty) (first : ℕ)
    → first ≡ first_like one temps → first < length temps → (kind : Ty)
    → number_in numbers kind ≡ or_last (number_in numbers kind) (same_type one kind) first
noted_already numbers temps h one first at lt kind =
    by_test (same_type one kind) (number_in numbers kind) refl (h.found kind)
  where
    by_test : (b : Bool) (o : Option ℕ) → same_type one kind ≡ b → unwrap_or o (length temps) ≡ first_like kind temps
        → o ≡ or_last o b first
    by_test false o is found = refl
    by_test true (Some place) is found =
        ap Some (found ∙ ap (λ k. first_like k temps) (sym (exact one kind is)) ∙ sym at)
    by_test true None is found =
        let same : first_like kind temps ≡ first = ap (λ k. first_like k temps) (sym (exact one kind is)) ∙ sym at in
        absurd (omega (arith, found, same, lt))

-- the place of a free one, where those from a place on are looked at, and told by the number of its type
pub free_place : (numbers : TypeNumbers) (from : ℕ) (temps rest : List Temp) → IsKept numbers from temps → rest ≡ drop from temps
    → (kind : Ty) (first place : ℕ) → first ≡ unwrap_or (number_in numbers kind) (length temps)
    → ((of : Ty) → All (λ (temp : Temp). (temp.first == first) ≡ same_type (type_seen temp.kind) of) rest
    → place ≡ (take_temp of (map temp_seen rest)).place)
    → from + place ≡ (take_temp kind (map temp_seen temps)).place
free_place numbers from temps rest kept is kind first place at found =
    place_behind kind from temps rest place kept.within kept.used is
    (found kind (subst (All Told) (sym is) (All-drop Told from temps (tells numbers temps kept.first kind first at))))
  where
    Told : Temp → Type 0
    Told temp = (temp.first == first) ≡ same_type (type_seen temp.kind) kind
