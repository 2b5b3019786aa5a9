-- Temporaries as they are kept, and as they are seen.
use Rattle.std.proofs.Common.{◌≡◌, ◌≢◌, ◌==◌, ⊎_elim, ℕ, zero, suc, ◌+◌, ◌<◌, ◌≤◌, Bool, true, false, cond, List, [], ◌∷◌, ◌++◌, map}
use Rattle.std.proofs.Common.{length, take, drop, set, get_or, not, ◌&&◌, refl, sym, ap, ◌∙◌, subst, arith}
use Rattle.std.proofs.lemmas.Bool.Decides.{eqb_tells}
use Rattle.std.proofs.lemmas.List.{at_drop_more}
use Rattle.std.proofs.lemmas.List.Elements.{All-nil, All-cons, All-head, All-tail}
use Rattle.shape_data.specs.declared.program.Ty.{Ty}
use Rattle.c_lower_rules.specs.Temporaries.{Taken, is_free, behind_temp, take_temp, released}
use Rattle.c_lower_emit.specs.declared.temps.Temp.{Temp}
use Rattle.c_types_names.specs.Seen.{type_seen}
use Rattle.c_lower_emit.specs.Seen.{temp_seen}
use Rattle.c_lower_emit.specs.KeptTemps.{AreUsed, unused}
use Rattle.c_types_rules.specs.Types.{same_type}

abbrev pub in_use : Temp → Temp
in_use temp = record temp { used = true }

pub released_seen : (temps : List Temp) → map temp_seen (map unused temps) ≡ released (map temp_seen temps)
released_seen [] = refl
released_seen (first ∷ others) = ap (λ ts. temp_seen (unused first) ∷ ts) (released_seen others)

-- what is taken, by whether the first is free
abbrev found : Ty → Temp → List Temp → Bool → Taken
found kind first others b =
    cond b (record { place = 0; temps = record (temp_seen first) { used = true } ∷ map temp_seen others })
    (behind_temp (temp_seen first) (take_temp kind (map temp_seen others)))

-- a temporary that was there is taken
pub taken_again : (kind : Ty) (temps : List Temp) (d : Temp) → (take_temp kind (map temp_seen temps)).place < length temps
    → map temp_seen
    (set temps (take_temp kind (map temp_seen temps)).place (in_use (get_or temps (take_temp kind (map temp_seen temps)).place d)))
    ≡ (take_temp kind (map temp_seen temps)).temps
taken_again kind [] d = λ lt. absurd (omega (arith, lt))
taken_again kind (first ∷ others) d = by_test (is_free kind (temp_seen first)) (taken_again kind others d)
  where
    by_test : (b : Bool)
        → ((take_temp kind (map temp_seen others)).place < length others
        → map temp_seen
        (set others (take_temp kind (map temp_seen others)).place (in_use (get_or others (take_temp kind (map temp_seen others)).place d)))
        ≡ (take_temp kind (map temp_seen others)).temps)
        → (found kind first others b).place < length (first ∷ others)
        → map temp_seen
        (set (first ∷ others) (found kind first others b).place (in_use (get_or (first ∷ others) (found kind first others b).place d)))
        ≡ (found kind first others b).temps
    by_test true again lt = refl
    by_test false again lt = ap (λ ts. temp_seen first ∷ ts) (again (omega (arith, lt)))

-- a new one is taken
pub taken_new : (temp : Temp) → temp.used ≡ true → (temps : List Temp)
    → length temps ≤ (take_temp (temp_seen temp).kind (map temp_seen temps)).place
    → map temp_seen (temps ++ temp ∷ []) ≡ (take_temp (temp_seen temp).kind (map temp_seen temps)).temps
taken_new temp used [] = λ le. ap (λ b. record { kind = (temp_seen temp).kind; used = b } ∷ []) used
taken_new temp used (first ∷ others) = by_test (is_free (temp_seen temp).kind (temp_seen first)) (taken_new temp used others)
  where
    by_test : (b : Bool)
        → (length others ≤ (take_temp (temp_seen temp).kind (map temp_seen others)).place
        → map temp_seen (others ++ temp ∷ []) ≡ (take_temp (temp_seen temp).kind (map temp_seen others)).temps)
        → length (first ∷ others) ≤ (found (temp_seen temp).kind first others b).place
        → map temp_seen ((first ∷ others) ++ temp ∷ []) ≡ (found (temp_seen temp).kind first others b).temps
    by_test true again le = absurd (omega (arith, le))
    by_test false again le = ap (λ ts. temp_seen first ∷ ts) (again (omega (arith, le)))

-- a loop has written all
pub all_written : {A : Type 0} (f : A → A) (xs : List A) (n : ℕ) → length xs ≤ n → map f (take n xs) ++ drop n xs ≡ map f xs
all_written f [] zero = λ le. refl
all_written f [] (suc n) = λ le. refl
all_written f (x ∷ xs) zero = λ le. absurd (omega (arith, le))
all_written f (x ∷ xs) (suc n) = λ le. ap (λ ys. f x ∷ ys) (all_written f xs n (omega (arith, le)))

-- the same, at a place that is that of what is taken
pub again_at : (kind : Ty) (temps : List Temp) (place : ℕ) (d : Temp) → place ≡ (take_temp kind (map temp_seen temps)).place
    → place < length temps → d ≡ get_or temps place d
    → map temp_seen (set temps place (in_use d)) ≡ (take_temp kind (map temp_seen temps)).temps
again_at kind temps place d is lt there =
    ap (λ t. map temp_seen (set temps place (in_use t))) there
    ∙ ap (λ n. map temp_seen (set temps n (in_use (get_or temps n d)))) is
    ∙ taken_again kind temps d (subst (λ n. n < length temps) is lt)

pub new_at : (temp : Temp) → temp.used ≡ true → (temps : List Temp) (place : ℕ)
    → place ≡ (take_temp (temp_seen temp).kind (map temp_seen temps)).place → length temps ≤ place
    → map temp_seen (temps ++ temp ∷ []) ≡ (take_temp (temp_seen temp).kind (map temp_seen temps)).temps
new_at temp used temps place is le = taken_new temp used temps (subst (λ n. length temps ≤ n) is le)

-- TEMPORARIES THAT ARE USED ARE PASSED OVER

abbrev Used : Temp → Type 0
Used temp = temp.used ≡ true

and_not_used : (b u : Bool) → u ≡ true → (b && not u) ≡ false
and_not_used true u = λ is. ap not is
and_not_used false u = λ is. refl

-- the first of those behind the used ones is taken
passed_over : (kind : Ty) (n : ℕ) (temps : List Temp) → n ≤ length temps → AreUsed (take n temps)
    → (take_temp kind (map temp_seen temps)).place ≡ n + (take_temp kind (map temp_seen (drop n temps))).place
passed_over kind zero temps le all = omega arith
passed_over kind (suc n) [] le all = absurd (omega (arith, le))
passed_over kind (suc n) (first ∷ others) le all =
    let used : is_free kind (temp_seen first) ≡ false =
    and_not_used (same_type (temp_seen first).kind kind) first.used (All-head Used first (take n others) all) in
    let again = passed_over kind n others (omega (arith, le)) (All-tail Used first (take n others) all) in
    ap (λ b. (found kind first others b).place) used ∙ omega (arith, again)

pub place_behind : (kind : Ty) (n : ℕ) (temps rest : List Temp) (place : ℕ) → n ≤ length temps → AreUsed (take n temps)
    → rest ≡ drop n temps → place ≡ (take_temp kind (map temp_seen rest)).place
    → n + place ≡ (take_temp kind (map temp_seen temps)).place
place_behind kind n temps rest place le all is at =
    ap (λ k. n + k) (at ∙ ap (λ ts. (take_temp kind (map temp_seen ts)).place) is) ∙ sym (passed_over kind n temps le all)

-- one more is used, there or behind all
pub used_set : (n place : ℕ) (temps : List Temp) (temp : Temp) → temp.used ≡ true → AreUsed (take n temps)
    → AreUsed (take n (set temps place temp))
used_set zero place temps temp used all = All-nil Used
used_set (suc n) place [] temp used all = all
used_set (suc n) zero (first ∷ others) temp used all = All-cons Used temp (take n others) used (All-tail Used first (take n others) all)
used_set (suc n) (suc place) (first ∷ others) temp used all =
    All-cons Used first (take n (set others place temp)) (All-head Used first (take n others) all)
    (used_set n place others temp used (All-tail Used first (take n others) all))

pub used_set_more : (n : ℕ) (temps : List Temp) (temp : Temp) → temp.used ≡ true → n < length temps → AreUsed (take n temps)
    → AreUsed (take (suc n) (set temps n temp))
used_set_more n [] temp used lt all = absurd (omega (arith, lt))
used_set_more zero (first ∷ others) temp used lt all = All-cons Used temp [] used (All-nil Used)
used_set_more (suc n) (first ∷ others) temp used lt all =
    All-cons Used first (take (suc n) (set others n temp)) (All-head Used first (take n others) all)
    (used_set_more n others temp used (omega (arith, lt)) (All-tail Used first (take n others) all))

pub used_pushed : (n : ℕ) (temps : List Temp) (temp : Temp) → n ≤ length temps → AreUsed (take n temps)
    → AreUsed (take n (temps ++ temp ∷ []))
used_pushed zero temps temp le all = All-nil Used
used_pushed (suc n) [] temp le all = absurd (omega (arith, le))
used_pushed (suc n) (first ∷ others) temp le all =
    All-cons Used first (take n (others ++ temp ∷ [])) (All-head Used first (take n others) all)
    (used_pushed n others temp (omega (arith, le)) (All-tail Used first (take n others) all))

pub used_pushed_more : (n : ℕ) (temps : List Temp) (temp : Temp) → temp.used ≡ true → n ≡ length temps → AreUsed (take n temps)
    → AreUsed (take (suc n) (temps ++ temp ∷ []))
used_pushed_more zero [] temp used at all = All-cons Used temp [] used (All-nil Used)
used_pushed_more zero (first ∷ others) temp used at all = absurd (omega (arith, at))
used_pushed_more (suc n) [] temp used at all = absurd (omega (arith, at))
used_pushed_more (suc n) (first ∷ others) temp used at all =
    All-cons Used first (take (suc n) (others ++ temp ∷ [])) (All-head Used first (take n others) all)
    (used_pushed_more n others temp used (omega (arith, at)) (All-tail Used first (take n others) all))

-- ONE AFTER ANOTHER IS LOOKED AT

-- the temporary is free, and so is taken
pub taken_here : (kind : Ty) (temps : List Temp) (place : ℕ) (temp : Temp) → place < length temps → temp ≡ get_or temps place temp
    → is_free kind (temp_seen temp) ≡ true → (take_temp kind (map temp_seen (drop place temps))).place ≡ 0
taken_here kind temps place temp lt is free =
    at_drop_more (λ ts. (take_temp kind (map temp_seen ts)).place) temps place temp lt
    ∙ ap (λ t. (take_temp kind (map temp_seen (t ∷ drop (place + 1) temps))).place) (sym is)
    ∙ ap (λ b. (found kind temp (drop (place + 1) temps) b).place) free

-- it is not, and is passed over
pub taken_later : (kind : Ty) (temps : List Temp) (place : ℕ) (temp : Temp) → place < length temps → temp ≡ get_or temps place temp
    → is_free kind (temp_seen temp) ≡ false
    → (take_temp kind (map temp_seen (drop place temps))).place ≡ suc (take_temp kind (map temp_seen (drop (place + 1) temps))).place
taken_later kind temps place temp lt is busy =
    at_drop_more (λ ts. (take_temp kind (map temp_seen ts)).place) temps place temp lt
    ∙ ap (λ t. (take_temp kind (map temp_seen (t ∷ drop (place + 1) temps))).place) (sym is)
    ∙ ap (λ b. (found kind temp (drop (place + 1) temps) b).place) busy

-- whether it is, by the place of the first of its type
module _ (kind : Ty) (first : ℕ) (temp : Temp) (tells : (temp.first == first) ≡ same_type (type_seen temp.kind) kind) where
  pub free_if : temp.first ≡ first → temp.used ≡ false → is_free kind (temp_seen temp) ≡ true
  free_if same unused =
      let like : same_type (type_seen temp.kind) kind ≡ true =
      sym tells ∙ ⊎_elim (λ t. t.0) (λ t. absurd (t.1 same)) (eqb_tells temp.first first) in
      ap (λ b. b && not temp.used) like ∙ ap not unused

  pub busy_if_used : temp.used ≡ true → is_free kind (temp_seen temp) ≡ false
  busy_if_used used = and_not_used (same_type (type_seen temp.kind) kind) temp.used used

  pub busy_if_other : temp.first ≢ first → is_free kind (temp_seen temp) ≡ false
  busy_if_other apart =
      let other : same_type (type_seen temp.kind) kind ≡ false =
      sym tells ∙ ⊎_elim (λ t. absurd (apart t.1)) (λ t. t.0) (eqb_tells temp.first first) in
      ap (λ b. b && not temp.used) other
