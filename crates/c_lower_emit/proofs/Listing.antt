-- The places of the drafts that have an exit that is still open.
use Rattle.std.proofs.Common.{◌≡◌, ℕ, zero, suc, ◌+◌, ◌-◌, ◌<◌, ◌≤◌, Bool, true, false, cond, List, [], ◌∷◌, ◌++◌, map, length}
use Rattle.std.proofs.Common.{take, drop, set, get_or, All, refl, sym, ap, ◌∙◌, subst, append_assoc, arith}
use Rattle.std.proofs.lemmas.Bool.{or_parts, true≢false}
use Rattle.std.proofs.lemmas.List.{append-nil, map-id, length-append, length-take-le, length_push, take-append-drop, take_at, drop_at}
use Rattle.std.proofs.lemmas.List.{take-take, take-append-le, length-map, get_or-drop, at_drop_more}
use Rattle.std.proofs.lemmas.Slice.{between_is}
use Rattle.std.proofs.lemmas.List.Edits.{split_between, length-between}
use Rattle.std.proofs.lemmas.List.Elements.{All-nil, All-cons, filter-append}
use Rattle.std.specs.List.{filter, between}
use Rattle.std.specs.Prelude.{if◌then◌else◌}
use Rattle.c_lower_emit.specs.declared.drafts.Draft.{Draft}
use Rattle.c_lower_emit.specs.declared.drafts.Label.{Label}
use Rattle.c_lower_emit.specs.declared.drafts.Label.TheVariants.{At, Next, Breaks, Continues, Holds, Fails}
use Rattle.c_lower_emit.specs.declared.drafts.Ways.{Ways}
use Rattle.c_lower_emit.specs.Drafts.{redirect, redirected, led_between}
use Rattle.c_lower_emit.specs.OpenPlaces.{is_exit, is_open, open_places, is_open_at, led_at, led_at_each}

-- ONE DRAFT

label_stays : (w : Ways) (t : Label) → is_exit t ≡ false → redirect w t ≡ t
label_stays w (At place) = λ closed. refl
label_stays w Next = λ closed. absurd (true≢false closed)
label_stays w Breaks = λ closed. absurd (true≢false closed)
label_stays w Continues = λ closed. absurd (true≢false closed)
label_stays w Holds = λ closed. absurd (true≢false closed)
label_stays w Fails = λ closed. absurd (true≢false closed)

-- where no exit is open, there is nothing to replace
pub closed_stays : (w : Ways) (d : Draft) → is_open d ≡ false → redirected w d ≡ d
closed_stays w d closed =
    let parts = or_parts (is_exit d.next) (is_exit d.other) closed in
    ap (λ t. record d { next = t; other = redirect w d.other }) (label_stays w d.next parts.0)
    ∙ ap (λ t. record d { other = t }) (label_stays w d.other parts.1)

closed_redirected : (w : Ways) (d : Draft) → is_open d ≡ false → is_open (redirected w d) ≡ false
closed_redirected w d closed = ap is_open (closed_stays w d closed) ∙ closed

-- the draft at the place is the one that was read there
pub read_open : (ds : List Draft) (n : ℕ) (d : Draft) → n < length ds → d ≡ get_or ds n d → is_open_at ds n ≡ is_open d
read_open [] n d = λ lt is. absurd (omega (arith, lt))
read_open (e ∷ ds) zero d = λ lt is. ap is_open (sym is)
read_open (e ∷ ds) (suc n) d = λ lt is. read_open ds n d (omega (arith, lt)) is

pub set_led : (w : Ways) (ds : List Draft) (n : ℕ) (d : Draft) → n < length ds → d ≡ get_or ds n d
    → set ds n (redirected w d) ≡ led_at w n ds
set_led w [] n d = λ lt is. absurd (omega (arith, lt))
set_led w (e ∷ ds) zero d = λ lt is. ap (λ x. redirected w x ∷ ds) is
set_led w (e ∷ ds) (suc n) d = λ lt is. ap (λ xs. e ∷ xs) (set_led w ds n d (omega (arith, lt)) is)

open_behind : (front : List Draft) (d : Draft) (ds : List Draft) (n : ℕ) → n ≡ length front → is_open_at (front ++ d ∷ ds) n ≡ is_open d
open_behind [] d ds n is = ap (is_open_at (d ∷ ds)) is
open_behind (e ∷ front) d ds n is =
    ap (is_open_at (e ∷ (front ++ d ∷ ds))) is ∙ open_behind front d ds (length front) refl

led_behind : (w : Ways) (front : List Draft) (d : Draft) (ds : List Draft) (n : ℕ) → n ≡ length front
    → led_at w n (front ++ d ∷ ds) ≡ front ++ redirected w d ∷ ds
led_behind w [] d ds n is = ap (λ k. led_at w k (d ∷ ds)) is
led_behind w (e ∷ front) d ds n is =
    ap (λ k. led_at w k (e ∷ (front ++ d ∷ ds))) is ∙ ap (λ xs. e ∷ xs) (led_behind w front d ds (length front) refl)

-- THE PLACES OF ALL

pub open_more : (n m : ℕ) (xs ys : List Draft) → m ≡ n + length xs → open_places n (xs ++ ys) ≡ open_places n xs ++ open_places m ys
open_more n m [] ys at = ap (λ k. open_places k ys) (omega (arith, at))
open_more n m (d ∷ xs) ys at = by_test (is_open d) (open_more (suc n) m xs ys (omega (arith, at)))
  where
    by_test : (b : Bool) → open_places (suc n) (xs ++ ys) ≡ open_places (suc n) xs ++ open_places m ys
        → (if b then n ∷ open_places (suc n) (xs ++ ys) else open_places (suc n) (xs ++ ys))
        ≡ (if b then n ∷ open_places (suc n) xs else open_places (suc n) xs) ++ open_places m ys
    by_test true again = ap (λ ns. n ∷ ns) again
    by_test false again = again

pub all_from : (low n : ℕ) → low ≤ n → (ds : List Draft) → All (λ k. low ≤ k) (open_places n ds)
all_from low n le [] = All-nil (λ k. low ≤ k)
all_from low n le (d ∷ ds) = by_test (is_open d) (all_from low (suc n) (omega (arith, le)) ds)
  where
    by_test : (b : Bool) → All (λ k. low ≤ k) (open_places (suc n) ds)
        → All (λ k. low ≤ k) (if b then n ∷ open_places (suc n) ds else open_places (suc n) ds)
    by_test true again = All-cons (λ k. low ≤ k) n (open_places (suc n) ds) le again
    by_test false again = again

pub all_below : (n m : ℕ) (ds : List Draft) → m ≡ n + length ds → All (λ k. k < m) (open_places n ds)
all_below n m [] at = All-nil (λ k. k < m)
all_below n m (d ∷ ds) at = by_test (is_open d) (all_below (suc n) m ds (omega (arith, at)))
  where
    by_test : (b : Bool) → All (λ k. k < m) (open_places (suc n) ds)
        → All (λ k. k < m) (if b then n ∷ open_places (suc n) ds else open_places (suc n) ds)
    by_test true again = All-cons (λ k. k < m) n (open_places (suc n) ds) (omega (arith, at)) again
    by_test false again = again

-- with one more draft
pub open_pushed : (ds : List Draft) (d : Draft) → is_open d ≡ true → open_places 0 ds ++ length ds ∷ [] ≡ open_places 0 (ds ++ d ∷ [])
open_pushed ds d is =
    ap (λ b. open_places 0 ds ++ (if b then length ds ∷ [] else [])) (sym is)
    ∙ sym (open_more 0 (length ds) ds (d ∷ []) (omega arith))

pub closed_pushed : (ds : List Draft) (d : Draft) → is_open d ≡ false → open_places 0 ds ≡ open_places 0 (ds ++ d ∷ [])
closed_pushed ds d is =
    sym (append-nil (open_places 0 ds))
    ∙ ap (λ b. open_places 0 ds ++ (if b then length ds ∷ [] else [])) (sym is)
    ∙ sym (open_more 0 (length ds) ds (d ∷ []) (omega arith))

-- those before a place, and those from it on
pub open_split : (at : ℕ) (ds : List Draft) → at ≤ length ds
    → open_places 0 ds ≡ open_places 0 (take at ds) ++ open_places at (drop at ds)
open_split at ds le =
    let long = length-take-le at ds le in
    ap (open_places 0) (sym (take-append-drop at ds)) ∙ open_more 0 at (take at ds) (drop at ds) (omega (arith, long))

-- WHERE THOSE FROM A PLACE ON BEGIN

count_split : (at : ℕ) (xs ys : List ℕ) → All (λ k. k < at) xs → All (λ k. at ≤ k) ys → (n : ℕ) → n ≤ length (xs ++ ys)
    → ((k : ℕ) → n ≤ k → k < length (xs ++ ys) → at ≤ get_or (xs ++ ys) k 0)
    → ((k : ℕ) → suc k ≡ n → get_or (xs ++ ys) k 0 < at) → n ≡ length xs
count_split at [] ys low high zero = λ within behind last. refl
count_split at [] ys low high (suc n) = λ within behind last.
    let lt = last n refl in
    let le = high n 0 (omega (arith, within)) in
    absurd (omega (arith, lt, le))
count_split at (x ∷ xs) ys low high zero = λ within behind last.
    let lt : x < at = low 0 0 (omega arith) in
    let le : at ≤ x = behind 0 (omega arith) (omega arith) in
    absurd (omega (arith, lt, le))
count_split at (x ∷ xs) ys low high (suc n) = λ within behind last.
    ap suc (count_split at xs ys (λ k d lt. low (suc k) d (omega (arith, lt))) high n (omega (arith, within))
    (λ k le lt. behind (suc k) (omega (arith, le)) (omega (arith, lt)))
    (λ k is. last (suc k) (omega (arith, is))))

pub counted : (places : List ℕ) (at n : ℕ) → n ≤ length places
    → ((k : ℕ) → n ≤ k → k < length places → at ≤ get_or places k 0) → ((k : ℕ) → suc k ≡ n → get_or places k 0 < at)
    → (ds : List Draft) → places ≡ open_places 0 ds → at ≤ length ds → n ≡ length (open_places 0 (take at ds))
counted places at n within behind last ds is le =
    let long = length-take-le at ds le in
    let split : places ≡ open_places 0 (take at ds) ++ open_places at (drop at ds) =
    is ∙ open_split at ds le in
    subst (λ ns. n ≤ length ns → ((k : ℕ) → n ≤ k → k < length ns → at ≤ get_or ns k 0) → ((k : ℕ) → suc k ≡ n → get_or ns k 0 < at)
    → n ≡ length (open_places 0 (take at ds))) (sym split)
    (count_split at (open_places 0 (take at ds)) (open_places at (drop at ds)) (all_below 0 at (take at ds) (omega (arith, long)))
    (all_from at at (omega arith) (drop at ds)) n) within behind last

-- EXITS ARE REPLACED

led_all : (w : Ways) (n : ℕ) (front mid back : List Draft) → n ≡ length front
    → led_at_each w (open_places n mid) (front ++ (mid ++ back)) ≡ front ++ (map (redirected w) mid ++ back)
led_all w n front [] back at = refl
led_all w n front (d ∷ mid) back at =
    let long = length_push front (redirected w d) in
    by_test (is_open d) refl
    (ap (λ ds. led_at_each w (open_places (suc n) mid) ds) (sym (append_assoc front (redirected w d ∷ []) (mid ++ back)))
    ∙ led_all w (suc n) (front ++ redirected w d ∷ []) mid back (omega (arith, at, long))
    ∙ append_assoc front (redirected w d ∷ []) (map (redirected w) mid ++ back))
  where
    by_test : (b : Bool) → is_open d ≡ b
        → led_at_each w (open_places (suc n) mid) (front ++ redirected w d ∷ (mid ++ back))
        ≡ front ++ redirected w d ∷ (map (redirected w) mid ++ back)
        → led_at_each w (if b then n ∷ open_places (suc n) mid else open_places (suc n) mid) (front ++ d ∷ (mid ++ back))
        ≡ front ++ redirected w d ∷ (map (redirected w) mid ++ back)
    by_test true is again = ap (led_at_each w (open_places (suc n) mid)) (led_behind w front d (mid ++ back) n at) ∙ again
    by_test false is again =
        ap (λ e. led_at_each w (open_places (suc n) mid) (front ++ e ∷ (mid ++ back))) (sym (closed_stays w d is)) ∙ again

-- what has no open exit gets none, so the places that are left are among those that were
open_left : (f : Draft → Draft) → ((d : Draft) → is_open d ≡ false → is_open (f d) ≡ false) → (n : ℕ) (front mid back : List Draft)
    → n ≡ length front
    → filter (is_open_at (front ++ (map f mid ++ back))) (open_places n mid) ≡ open_places n (map f mid)
open_left f stays n front [] back at = refl
open_left f stays n front (d ∷ mid) back at =
    let long = length_push front (f d) in
    by_test (is_open d) refl
    (ap (λ ds. filter (is_open_at ds) (open_places (suc n) mid)) (sym (append_assoc front (f d ∷ []) (map f mid ++ back)))
    ∙ open_left f stays (suc n) (front ++ f d ∷ []) mid back (omega (arith, at, long)))
  where
    by_test : (b : Bool) → is_open d ≡ b
        → filter (is_open_at (front ++ f d ∷ (map f mid ++ back))) (open_places (suc n) mid) ≡ open_places (suc n) (map f mid)
        → filter (is_open_at (front ++ f d ∷ (map f mid ++ back))) (if b then n ∷ open_places (suc n) mid else open_places (suc n) mid)
        ≡ (if is_open (f d) then n ∷ open_places (suc n) (map f mid) else open_places (suc n) (map f mid))
    by_test true is again =
        ap (λ ns. cond (is_open_at (front ++ f d ∷ (map f mid ++ back)) n) (n ∷ ns) ns) again
        ∙ ap (λ b. cond b (n ∷ open_places (suc n) (map f mid)) (open_places (suc n) (map f mid)))
        (open_behind front (f d) (map f mid ++ back) n at)
    by_test false is again =
        again ∙ ap (λ b. if b then n ∷ open_places (suc n) (map f mid) else open_places (suc n) (map f mid)) (sym (stays d is))

-- the places fall into those before, between and behind
pub between_open : (from past : ℕ) (ds : List Draft) → from ≤ past → past ≤ length ds
    → open_places 0 ds
    ≡ open_places 0 (take from ds) ++ (open_places from (between from past ds) ++ open_places past (drop past ds))
between_open from past ds le within =
    let front = length-take-le from ds (omega (arith, le, within)) in
    let mid = length-between ds from past within in
    ap (open_places 0) (split_between ds from past le)
    ∙ open_more 0 from (take from ds) (between from past ds ++ drop past ds) (omega (arith, front))
    ∙ ap (λ ns. open_places 0 (take from ds) ++ ns) (open_more from past (between from past ds) (drop past ds) (omega (arith, le, mid)))

-- where those of each part stand in the whole
pub begin_places : (from past first : ℕ) (ds : List Draft) (places : List ℕ) → from ≤ past → past ≤ length ds
    → places ≡ open_places 0 ds → first ≡ length (open_places 0 (take from ds))
    → (take first places ≡ open_places 0 (take from ds))
    × (drop first places ≡ open_places from (between from past ds) ++ open_places past (drop past ds))
begin_places from past first ds places le within is at =
    let split = is ∙ between_open from past ds le within in
    let behind = open_places from (between from past ds) ++ open_places past (drop past ds) in (
      ap (take first) split ∙ take_at (open_places 0 (take from ds)) behind first (sym at),
      ap (drop first) split ∙ drop_at (open_places 0 (take from ds)) behind first (sym at),
    )

pub places_between : (from past first behind : ℕ) (ds : List Draft) (places : List ℕ) → from ≤ past → past ≤ length ds
    → places ≡ open_places 0 ds → first ≡ length (open_places 0 (take from ds)) → behind ≡ length (open_places 0 (take past ds))
    → (first ≤ behind) × (behind ≤ length places) × (between first behind places ≡ open_places from (between from past ds))
places_between from past first behind ds places le within is at there =
    let front = length-take-le from ds (omega (arith, le, within)) in
    let parts : take past ds ≡ take from ds ++ between from past ds =
    sym (take-append-drop from (take past ds)) ∙ ap (λ es. es ++ drop from (take past ds)) (take-take from past ds le)
    ∙ ap (λ es. take from ds ++ es) (sym (between_is ds from past)) in
    let both = ap length
    (ap (open_places 0) parts ∙ open_more 0 from (take from ds) (between from past ds) (omega (arith, front)))
    ∙ length-append (open_places 0 (take from ds)) (open_places from (between from past ds)) in
    let all = ap length (is ∙ open_split past ds within)
    ∙ length-append (open_places 0 (take past ds)) (open_places past (drop past ds)) in (
      omega (arith, at, there, both),
      omega (arith, there, all),
      ap (take (behind - first)) (begin_places from past first ds places le within is at).1
          ∙ take_at (open_places from (between from past ds)) (open_places past (drop past ds)) (behind - first)
          (omega (arith, at, there, both)),
    )

-- to replace the exits at these places is to replace all
pub led_is : (w : Ways) (from past first behind : ℕ) (ds : List Draft) (places : List ℕ) → from ≤ past → past ≤ length ds
    → places ≡ open_places 0 ds → first ≡ length (open_places 0 (take from ds)) → behind ≡ length (open_places 0 (take past ds))
    → led_at_each w (between first behind places) ds ≡ led_between from past w ds
led_is w from past first behind ds places le within is at there =
    ap (λ ns. led_at_each w ns ds) (places_between from past first behind ds places le within is at there).2
    ∙ ap (λ es. led_at_each w (open_places from (between from past ds)) es) (split_between ds from past le)
    ∙ led_all w from (take from ds) (between from past ds) (drop past ds) (sym (length-take-le from ds (omega (arith, le, within))))
    ∙ sym (append_assoc (take from ds) (map (redirected w) (between from past ds)) (drop past ds))

-- places of a list's drafts are within it
pub places_within : (ds : List Draft) (places : List ℕ) → places ≡ open_places 0 ds → All (λ k. k < length ds) places
places_within ds places is = subst (All (λ k. k < length ds)) (sym is) (all_below 0 (length ds) ds (omega arith))

-- those that are still open behind a front
all_left : (n : ℕ) (front ds : List Draft) → n ≡ length front → filter (is_open_at (front ++ ds)) (open_places n ds) ≡ open_places n ds
all_left n front ds at =
    let same = append-nil (map (λ (d : Draft). d) ds) ∙ map-id ds in
    ap (λ es. filter (is_open_at (front ++ es)) (open_places n ds)) (sym same)
    ∙ open_left (λ d. d) (λ d closed. closed) n front ds [] at ∙ ap (open_places n) (map-id ds)

-- and to keep those that are still open is to list them anew
pub kept_is : (w : Ways) (from past first : ℕ) (ds : List Draft) (places : List ℕ) → from ≤ past → past ≤ length ds
    → places ≡ open_places 0 ds → first ≡ length (open_places 0 (take from ds))
    → take first places ++ filter (is_open_at (led_between from past w ds)) (drop first places)
    ≡ open_places 0 (led_between from past w ds)
kept_is w from past first ds places le within is at =
    let parts = begin_places from past first ds places le within is at in
    let front = take from ds in
    let mid = between from past ds in
    let back = drop past ds in
    let led = map (redirected w) mid in
    let long : from ≡ length front = sym (length-take-le from ds (omega (arith, le, within))) in
    let mids = length-between ds from past within in
    let same = length-map mid (redirected w) in
    let many = length-append front led in
    let behind : past ≡ length (front ++ led) = omega (arith, le, long, mids, same, many) in
    let left : filter (is_open_at ((front ++ led) ++ back)) (open_places from mid) ≡ open_places from led =
    ap (λ es. filter (is_open_at es) (open_places from mid)) (append_assoc front led back)
    ∙ open_left (redirected w) (closed_redirected w) from front mid back long in
    ap (λ ns. ns ++ filter (is_open_at ((front ++ led) ++ back)) (drop first places)) parts.0
    ∙ ap (λ ns. open_places 0 front ++ filter (is_open_at ((front ++ led) ++ back)) ns) parts.1
    ∙ ap (λ ns. open_places 0 front ++ ns)
    (filter-append (is_open_at ((front ++ led) ++ back)) (open_places from mid) (open_places past back)
    ∙ ap (λ ns. ns ++ filter (is_open_at ((front ++ led) ++ back)) (open_places past back)) left
    ∙ ap (λ ns. open_places from led ++ ns) (all_left past (front ++ led) back behind))
    ∙ sym (append_assoc (open_places 0 front) (open_places from led) (open_places past back))
    ∙ ap (λ ns. ns ++ open_places past back) (sym (open_more 0 from front led (omega (arith, long))))
    ∙ sym (open_more 0 past (front ++ led) back (omega (arith, behind)))

pub relisted : (w : Ways) (from past first behind : ℕ) (ds es : List Draft) (places news : List ℕ) → from ≤ past → past ≤ length ds
    → places ≡ open_places 0 ds → first ≡ length (open_places 0 (take from ds)) → behind ≡ length (open_places 0 (take past ds))
    → es ≡ led_at_each w (between first behind places) ds → news ≡ take first places ++ filter (is_open_at es) (drop first places)
    → news ≡ open_places 0 es
relisted w from past first behind ds es places news le within is at there led kept =
    let all = led ∙ led_is w from past first behind ds places le within is at there in
    kept ∙ ap (λ xs. take first places ++ filter (is_open_at xs) (drop first places)) all
    ∙ kept_is w from past first ds places le within is at ∙ ap (open_places 0) (sym all)

-- TURNS OF LOOPS

-- the place that is read is one that was there
pub same_place : (xs ys : List ℕ) (i : ℕ) → drop i ys ≡ drop i xs → get_or xs i 0 ≡ get_or ys i 0
same_place xs ys i rest =
    let at : i ≡ i + 0 = omega arith in
    ap (λ k. get_or xs k 0) at ∙ sym (get_or-drop i xs 0 0) ∙ ap (λ zs. get_or zs 0 0) (sym rest) ∙ get_or-drop i ys 0 0
    ∙ ap (λ k. get_or ys k 0) (sym at)

pub led_turn : (w : Ways) (ns : List ℕ) (i : ℕ) (ds : List Draft) (d e : Draft) → i < length ns → get_or ns i 0 < length ds
    → d ≡ get_or ds (get_or ns i 0) d → e ≡ redirected w d
    → led_at_each w (drop (i + 1) ns) (set ds (get_or ns i 0) e) ≡ led_at_each w (drop i ns) ds
led_turn w ns i ds d e lt within read is =
    ap (λ x. led_at_each w (drop (i + 1) ns) (set ds (get_or ns i 0) x)) is
    ∙ ap (led_at_each w (drop (i + 1) ns)) (set_led w ds (get_or ns i 0) d within read)
    ∙ sym (at_drop_more (λ ks. led_at_each w ks ds) ns i 0 lt)

-- WHAT IS LEFT OF A LIST

take_behind : (xs ys : List ℕ) (n k : ℕ) → n ≡ length xs + k → take n (xs ++ ys) ≡ xs ++ take k ys
take_behind [] ys n k is = ap (λ i. take i ys) (omega (arith, is))
take_behind (x ∷ xs) ys zero k is = absurd (omega (arith, is))
take_behind (x ∷ xs) ys (suc n) k is = ap (λ zs. x ∷ zs) (take_behind xs ys n k (omega (arith, is)))

-- the first ones of what was written from a place on, behind those before it
pub taken_behind : (first kept len : ℕ) (xs news rest back : List ℕ) → first ≤ length xs → kept ≤ length news → first + kept ≤ len
    → take (first + kept) (take len ((take first xs ++ (news ++ rest)) ++ back)) ≡ take first xs ++ take kept news
taken_behind first kept len xs news rest back le within fits =
    let long = length-take-le first xs le in
    take-take (first + kept) len ((take first xs ++ (news ++ rest)) ++ back) fits
    ∙ ap (take (first + kept)) (append_assoc (take first xs) (news ++ rest) back)
    ∙ take_behind (take first xs) ((news ++ rest) ++ back) (first + kept) kept (omega (arith, long))
    ∙ ap (λ zs. take first xs ++ zs)
    (ap (take kept) (append_assoc news rest back) ∙ take-append-le kept news (rest ++ back) within)
