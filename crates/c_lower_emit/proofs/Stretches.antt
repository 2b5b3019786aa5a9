-- Drafts from one place to another that lack an exit.
use Rattle.std.proofs.Common.{◌≡◌, ◌≢◌, ◌⊎◌, inl, inr, ℕ, zero, suc, ◌+◌, ◌-◌, ◌<◌, ◌≤◌, ◌||◌, Bool, false, List, [], ◌∷◌, ◌++◌}
use Rattle.std.proofs.Common.{map, length, take, drop, refl, sym, ap, ◌∙◌, append_assoc, arith}
use Rattle.std.specs.Prelude.{max}
use Rattle.std.proofs.lemmas.Bool.{or_parts, true≢false, cases_lt}
use Rattle.std.proofs.lemmas.List.{length-append, length_push, length-take-le, length-drop, length-map, take_all}
use Rattle.c_lower_emit.specs.declared.drafts.Draft.{Draft}
use Rattle.c_lower_emit.specs.declared.drafts.Label.{Label}
use Rattle.c_lower_emit.specs.declared.drafts.Label.TheVariants.{At, Next, Breaks, Continues, Holds, Fails}
use Rattle.c_lower_emit.specs.declared.drafts.Ways.{Ways}
use Rattle.c_lower_emit.specs.Drafts.{redirect, redirected, as_they_are, next_at, led_between}
use Rattle.c_lower_emit.specs.Stretches.{is_holds, is_fails, is_next, has_exit, has_exit_at, Lacks, LeadsAway}

-- WAYS

pub holds_away : (place : ℕ) → LeadsAway is_holds (record as_they_are { holds = At place })
holds_away place = record { others = others; gone = gone }
  where
    w : Ways
    w = record as_they_are { holds = At place }

    others : (t : Label) → is_holds t ≡ false → redirect w t ≡ t
    others (At n) = λ lacks. refl
    others Next = λ lacks. refl
    others Breaks = λ lacks. refl
    others Continues = λ lacks. refl
    others Holds = λ lacks. absurd (true≢false lacks)
    others Fails = λ lacks. refl

    gone : (t : Label) → is_holds (redirect w t) ≡ false
    gone (At n) = refl
    gone Next = refl
    gone Breaks = refl
    gone Continues = refl
    gone Holds = refl
    gone Fails = refl

pub fails_away : (place : ℕ) → LeadsAway is_fails (record as_they_are { fails = At place })
fails_away place = record { others = others; gone = gone }
  where
    w : Ways
    w = record as_they_are { fails = At place }

    others : (t : Label) → is_fails t ≡ false → redirect w t ≡ t
    others (At n) = λ lacks. refl
    others Next = λ lacks. refl
    others Breaks = λ lacks. refl
    others Continues = λ lacks. refl
    others Holds = λ lacks. refl
    others Fails = λ lacks. absurd (true≢false lacks)

    gone : (t : Label) → is_fails (redirect w t) ≡ false
    gone (At n) = refl
    gone Next = refl
    gone Breaks = refl
    gone Continues = refl
    gone Holds = refl
    gone Fails = refl

not_next : (t : Label) → t ≢ Next → is_next t ≡ false
not_next (At n) = λ other. refl
not_next Next = λ other. absurd (other refl)
not_next Breaks = λ other. refl
not_next Continues = λ other. refl
not_next Holds = λ other. refl
not_next Fails = λ other. refl

pub next_away : (begin : Label) → begin ≢ Next → LeadsAway is_next (next_at begin)
next_away begin other = record { others = others; gone = gone }
  where
    others : (t : Label) → is_next t ≡ false → redirect (next_at begin) t ≡ t
    others (At n) = λ lacks. refl
    others Next = λ lacks. absurd (true≢false lacks)
    others Breaks = λ lacks. refl
    others Continues = λ lacks. refl
    others Holds = λ lacks. refl
    others Fails = λ lacks. refl

    gone : (t : Label) → is_next (redirect (next_at begin) t) ≡ false
    gone (At n) = refl
    gone Next = not_next begin other
    gone Breaks = refl
    gone Continues = refl
    gone Holds = refl
    gone Fails = refl

-- where an exit is led to a place, nothing comes to have another exit
pub holds_brings_none : (exit : Label → Bool) (place : ℕ) → exit (At place) ≡ false → (t : Label) → exit t ≡ false
    → exit (redirect (record as_they_are { holds = At place }) t) ≡ false
holds_brings_none exit place not_at (At n) = λ lacks. lacks
holds_brings_none exit place not_at Next = λ lacks. lacks
holds_brings_none exit place not_at Breaks = λ lacks. lacks
holds_brings_none exit place not_at Continues = λ lacks. lacks
holds_brings_none exit place not_at Holds = λ lacks. not_at
holds_brings_none exit place not_at Fails = λ lacks. lacks

pub fails_brings_none : (exit : Label → Bool) (place : ℕ) → exit (At place) ≡ false → (t : Label) → exit t ≡ false
    → exit (redirect (record as_they_are { fails = At place }) t) ≡ false
fails_brings_none exit place not_at (At n) = λ lacks. lacks
fails_brings_none exit place not_at Next = λ lacks. lacks
fails_brings_none exit place not_at Breaks = λ lacks. lacks
fails_brings_none exit place not_at Continues = λ lacks. lacks
fails_brings_none exit place not_at Holds = λ lacks. lacks
fails_brings_none exit place not_at Fails = λ lacks. not_at

-- ONE DRAFT

both_no : (a b : Bool) → a ≡ false → b ≡ false → (a || b) ≡ false
both_no a b p q = ap (λ x. x || b) p ∙ q

-- what lacks the exit is as it was
stays : (exit : Label → Bool) (w : Ways) → LeadsAway exit w → (d : Draft) → has_exit exit d ≡ false → redirected w d ≡ d
stays exit w away d lacks =
    let parts = or_parts (exit d.next) (exit d.other) lacks in
    ap (λ t. record d { next = t; other = redirect w d.other }) (away.others d.next parts.0)
    ∙ ap (λ t. record d { other = t }) (away.others d.other parts.1)

none_left : (exit : Label → Bool) (w : Ways) → LeadsAway exit w → (d : Draft) → has_exit exit (redirected w d) ≡ false
none_left exit w away d = both_no (exit (redirect w d.next)) (exit (redirect w d.other)) (away.gone d.next) (away.gone d.other)

none_comes : (exit : Label → Bool) (w : Ways) → ((t : Label) → exit t ≡ false → exit (redirect w t) ≡ false) → (d : Draft)
    → has_exit exit d ≡ false
    → has_exit exit (redirected w d) ≡ false
none_comes exit w brings d lacks =
    let parts = or_parts (exit d.next) (exit d.other) lacks in
    both_no (exit (redirect w d.next)) (exit (redirect w d.other)) (brings d.next parts.0) (brings d.other parts.1)

-- DRAFTS FROM ONE PLACE TO ANOTHER

-- the same, one draft after another
abbrev led_part : ℕ → ℕ → Ways → List Draft → List Draft
led_part zero zero w ds = ds
led_part zero (suc p) w [] = []
led_part zero (suc p) w (d ∷ ds) = redirected w d ∷ led_part zero p w ds
led_part (suc f) zero w ds = ds
led_part (suc f) (suc p) w [] = []
led_part (suc f) (suc p) w (d ∷ ds) = d ∷ led_part f p w ds

led_part_count : (w : Ways) (from count past : ℕ) (ds : List Draft) → from + count ≡ past
    → (take from ds ++ map (redirected w) (take count (drop from ds))) ++ drop past ds ≡ led_part from past w ds
led_part_count w zero zero zero ds = λ is. refl
led_part_count w zero zero (suc p) ds = λ is. absurd (omega (arith, is))
led_part_count w zero (suc k) zero ds = λ is. absurd (omega (arith, is))
led_part_count w zero (suc k) (suc p) [] = λ is. refl
led_part_count w zero (suc k) (suc p) (d ∷ ds) = λ is. ap (λ es. redirected w d ∷ es) (led_part_count w 0 k p ds (omega (arith, is)))
led_part_count w (suc f) zero zero ds = λ is. absurd (omega (arith, is))
led_part_count w (suc f) zero (suc p) [] = λ is. refl
led_part_count w (suc f) zero (suc p) (d ∷ ds) = λ is. ap (λ es. d ∷ es) (led_part_count w f 0 p ds (omega (arith, is)))
led_part_count w (suc f) (suc k) zero ds = λ is. absurd (omega (arith, is))
led_part_count w (suc f) (suc k) (suc p) [] = λ is. refl
led_part_count w (suc f) (suc k) (suc p) (d ∷ ds) = λ is. ap (λ es. d ∷ es) (led_part_count w f (suc k) p ds (omega (arith, is)))

led_part_is : (w : Ways) (from past : ℕ) (ds : List Draft) → from ≤ past → led_between from past w ds ≡ led_part from past w ds
led_part_is w from past ds le = led_part_count w from (past - from) past ds (omega (arith, le))

-- between a place and itself there is none
none_led : (w : Ways) (n : ℕ) (ds : List Draft) → led_part n n w ds ≡ ds
none_led w zero ds = refl
none_led w (suc n) [] = refl
none_led w (suc n) (d ∷ ds) = ap (λ es. d ∷ es) (none_led w n ds)

-- those that lack the exit may be passed over
passed : (exit : Label → Bool) (w : Ways) → LeadsAway exit w → (from begin past : ℕ) (ds : List Draft) → from ≤ begin → begin ≤ past
    → ((n : ℕ) → from ≤ n → n < begin → has_exit_at exit ds n ≡ false) → led_part begin past w ds ≡ led_part from past w ds
passed exit w away zero zero past ds = λ le order none. refl
passed exit w away zero (suc b) zero ds = λ le order none. absurd (omega (arith, order))
passed exit w away zero (suc b) (suc p) [] = λ le order none. refl
passed exit w away zero (suc b) (suc p) (d ∷ ds) = λ le order none.
    ap (λ es. d ∷ es)
    (passed exit w away 0 b p ds (omega arith) (omega (arith, order)) (λ n low lt. none (suc n) (omega arith) (omega (arith, lt))))
    ∙ ap (λ e. e ∷ led_part 0 p w ds) (sym (stays exit w away d (none 0 (omega arith) (omega arith))))
passed exit w away (suc f) zero past ds = λ le order none. absurd (omega (arith, le))
passed exit w away (suc f) (suc b) zero ds = λ le order none. absurd (omega (arith, order))
passed exit w away (suc f) (suc b) (suc p) [] = λ le order none. refl
passed exit w away (suc f) (suc b) (suc p) (d ∷ ds) = λ le order none.
    ap (λ es. d ∷ es)
    (passed exit w away f b p ds (omega (arith, le)) (omega (arith, order))
    (λ n low lt. none (suc n) (omega (arith, low)) (omega (arith, lt))))

gone_between : (exit : Label → Bool) (w : Ways) → LeadsAway exit w → (from past : ℕ) (ds : List Draft) (n : ℕ) → n < past
    → (n < from → has_exit_at exit ds n ≡ false) → has_exit_at exit (led_part from past w ds) n ≡ false
gone_between exit w away zero zero ds n = λ lt before. absurd (omega (arith, lt))
gone_between exit w away zero (suc p) [] n = λ lt before. refl
gone_between exit w away zero (suc p) (d ∷ ds) zero = λ lt before. none_left exit w away d
gone_between exit w away zero (suc p) (d ∷ ds) (suc n) = λ lt before.
    gone_between exit w away 0 p ds n (omega (arith, lt)) (λ low. absurd (omega (arith, low)))
gone_between exit w away (suc f) zero ds n = λ lt before. absurd (omega (arith, lt))
gone_between exit w away (suc f) (suc p) [] n = λ lt before. refl
gone_between exit w away (suc f) (suc p) (d ∷ ds) zero = λ lt before. before (omega arith)
gone_between exit w away (suc f) (suc p) (d ∷ ds) (suc n) = λ lt before.
    gone_between exit w away f p ds n (omega (arith, lt)) (λ low. before (omega (arith, low)))

none_comes_between : (exit : Label → Bool) (w : Ways) → ((t : Label) → exit t ≡ false → exit (redirect w t) ≡ false) → (from past : ℕ)
    (ds : List Draft) (n : ℕ) → has_exit_at exit ds n ≡ false → has_exit_at exit (led_part from past w ds) n ≡ false
none_comes_between exit w brings zero zero ds n = λ lacks. lacks
none_comes_between exit w brings zero (suc p) [] n = λ lacks. refl
none_comes_between exit w brings zero (suc p) (d ∷ ds) zero = λ lacks. none_comes exit w brings d lacks
none_comes_between exit w brings zero (suc p) (d ∷ ds) (suc n) = λ lacks. none_comes_between exit w brings 0 p ds n lacks
none_comes_between exit w brings (suc f) zero ds n = λ lacks. lacks
none_comes_between exit w brings (suc f) (suc p) [] n = λ lacks. refl
none_comes_between exit w brings (suc f) (suc p) (d ∷ ds) zero = λ lacks. lacks
none_comes_between exit w brings (suc f) (suc p) (d ∷ ds) (suc n) = λ lacks. none_comes_between exit w brings f p ds n lacks

-- what stands before a place is as it was, whatever comes behind
as_before : (exit : Label → Bool) (at : ℕ) (ds es : List Draft) (n : ℕ) → at ≤ length ds → n < at
    → has_exit_at exit (take at ds ++ es) n ≡ has_exit_at exit ds n
as_before exit zero ds es n = λ le lt. absurd (omega (arith, lt))
as_before exit (suc at) [] es n = λ le lt. absurd (omega (arith, le))
as_before exit (suc at) (d ∷ ds) es zero = λ le lt. refl
as_before exit (suc at) (d ∷ ds) es (suc n) = λ le lt. as_before exit at ds es n (omega (arith, le)) (omega (arith, lt))

led_length : (w : Ways) (from past : ℕ) (ds : List Draft) → from ≤ past → past ≤ length ds → length (led_between from past w ds) ≡ length ds
led_length w from past ds le within =
    let front = length-take-le from ds (omega (arith, le, within)) in
    let rest = length-drop from ds in
    let mid = length-take-le (past - from) (drop from ds) (omega (arith, le, within, rest)) in
    let led = length-map (take (past - from) (drop from ds)) (redirected w) in
    let back = length-drop past ds in
    let one = length-append (take from ds) (map (redirected w) (take (past - from) (drop from ds))) in
    let all = length-append (take from ds ++ map (redirected w) (take (past - from) (drop from ds))) (drop past ds) in
    omega (arith, le, within, front, mid, led, back, one, all)

-- STRETCHES

-- with one more draft
pub one_more_lacks : (exit : Label → Bool) (from past : ℕ) (ds : List Draft) (d : Draft) (es : List Draft) → es ≡ ds ++ d ∷ []
    → Lacks exit from past ds → Lacks exit from past es
one_more_lacks exit from past ds d es is h =
    let within = h.within in
    let long = ap length is ∙ length_push ds d in
    let whole : take (length ds) ds ≡ ds = take_all (length ds) ds (omega arith) in
    record {
      within = omega (arith, within, long);
      none = λ n low lt.
          ap (λ fs. has_exit_at exit fs n) is ∙ ap (λ fs. has_exit_at exit (fs ++ d ∷ []) n) (sym whole)
          ∙ as_before exit (length ds) ds (d ∷ []) n (omega arith) (omega (arith, within, lt))
          ∙ h.none n low lt;
    }

-- what stands before those that are led elsewhere
pub before_lack : (exit : Label → Bool) (w : Ways) (low high from past at upto : ℕ) (ds : List Draft) → from ≤ past → past ≤ length ds
    → at ≡ low → upto ≤ high → upto ≤ from → (es : List Draft) → es ≡ led_between from past w ds → Lacks exit low high ds
    → Lacks exit at upto es
before_lack exit w low high from past at upto ds le within same fits before es led h =
    let long = ap length led ∙ led_length w from past ds le within in
    let middle = map (redirected w) (take (past - from) (drop from ds)) in
    record {
      within = omega (arith, le, within, before, long);
      none = λ n above lt.
          ap (λ fs. has_exit_at exit fs n) (led ∙ append_assoc (take from ds) middle (drop past ds))
          ∙ as_before exit from ds (middle ++ drop past ds) n (omega (arith, le, within)) (omega (arith, lt, before))
          ∙ h.none n (omega (arith, above, same)) (omega (arith, lt, fits));
    }

-- with those behind the stretch that are led elsewhere
pub more_lack : (exit : Label → Bool) (w : Ways) → LeadsAway exit w → (low begin past : ℕ) (ds : List Draft) → begin ≤ past
    → past ≤ length ds → (es : List Draft) → es ≡ led_between begin past w ds → Lacks exit low begin ds → Lacks exit low past es
more_lack exit w away low begin past ds le within es is h =
    let long = ap length is ∙ led_length w begin past ds le within in
    record {
      within = omega (arith, within, long);
      none = λ n above lt.
          ap (λ fs. has_exit_at exit fs n) (is ∙ led_part_is w begin past ds le)
          ∙ gone_between exit w away begin past ds n lt (λ before. h.none n above before);
    }

-- where ways bring no such exit, those that lack it lack it still
pub still_lack : (exit : Label → Bool) (w : Ways) → ((t : Label) → exit t ≡ false → exit (redirect w t) ≡ false) → (low high from past : ℕ)
    (ds : List Draft) → from ≤ past → past ≤ length ds → (es : List Draft) → es ≡ led_between from past w ds → Lacks exit low high ds
    → Lacks exit low high es
still_lack exit w brings low high from past ds le within es is h =
    let fits = h.within in
    let long = ap length is ∙ led_length w from past ds le within in
    record {
      within = omega (arith, fits, long);
      none = λ n above lt.
          ap (λ fs. has_exit_at exit fs n) (is ∙ led_part_is w from past ds le)
          ∙ none_comes_between exit w brings from past ds n (h.none n above lt);
    }

-- to lead those behind the stretch elsewhere, if there are any, is to lead all
pub rest_is_all : (exit : Label → Bool) (w : Ways) → LeadsAway exit w → (low begin from past upto : ℕ) (ds : List Draft) → low ≤ from
    → from ≤ begin → from ≤ past → upto ≡ max past begin → Lacks exit low begin ds
    → led_between begin upto w ds ≡ led_between from past w ds
rest_is_all exit w away low begin from past upto ds above le order is h =
    led_part_is w begin upto ds (omega (arith, is)) ∙ by_order (cases_lt past begin) ∙ sym (led_part_is w from past ds order)
  where
    lacks : (n : ℕ) → from ≤ n → n < begin → has_exit_at exit ds n ≡ false
    lacks n high lt = h.none n (omega (arith, above, high)) lt

    by_order : (past < begin) ⊎ (begin ≤ past) → led_part begin upto w ds ≡ led_part from past w ds
    by_order (inr behind) =
        ap (λ n. led_part begin n w ds) (omega (arith, is, behind)) ∙ passed exit w away from begin past ds le behind lacks
    by_order (inl before) =
        ap (λ n. led_part begin n w ds) (omega (arith, is, before)) ∙ none_led w begin ds ∙ sym (none_led w past ds)
        ∙ passed exit w away from past past ds order (omega arith) (λ n high lt. lacks n high (omega (arith, lt, before)))
