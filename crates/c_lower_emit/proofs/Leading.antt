-- Exits that are replaced.
use Rattle.std.proofs.Common.{◌≡◌, ℕ, ◌+◌, ◌-◌, ◌≤◌, List, [], ◌∷◌, ◌++◌, length, map, take, drop, refl, sym, ap, ◌∙◌}
use Rattle.std.proofs.Common.{append_assoc, arith}
use Rattle.std.proofs.lemmas.List.{length-append, take-append-drop, drop-drop}
use Rattle.c_lower_rules.specs.Code.{node}
use Rattle.c_lower_emit.specs.declared.drafts.Draft.{Draft}
use Rattle.c_lower_emit.specs.declared.drafts.Label.{Label}
use Rattle.c_lower_emit.specs.declared.drafts.Label.TheVariants.{At, Next, Breaks, Continues, Holds, Fails}
use Rattle.c_lower_emit.specs.declared.drafts.Ways.{Ways}
use Rattle.c_lower_emit.specs.Drafts.{Places, resolve, redirect, next_at, redirected, led_between, aimed, laid}

-- where what the exits become leads
abbrev pub led : Places → Ways → Places
led p w = record {
  next = resolve p w.next;
  breaks = resolve p w.breaks;
  continues = resolve p w.continues;
  holds = resolve p w.holds;
  fails = resolve p w.fails;
}

pub resolve_led : (p : Places) (w : Ways) (t : Label) → resolve p (redirect w t) ≡ resolve (led p w) t
resolve_led p w (At place) = refl
resolve_led p w Next = refl
resolve_led p w Breaks = refl
resolve_led p w Continues = refl
resolve_led p w Holds = refl
resolve_led p w Fails = refl

laid_led : (p : Places) (w : Ways) (d : Draft) → laid p (redirected w d) ≡ laid (led p w) d
laid_led p w d =
    ap (λ n. node d.line (aimed d.cmd n (resolve p (redirect w d.other)))) (resolve_led p w d.next)
    ∙ ap (λ n. node d.line (aimed d.cmd (resolve (led p w) d.next) n)) (resolve_led p w d.other)

pub all_led : (p : Places) (w : Ways) (ds : List Draft) → map (laid p) (map (redirected w) ds) ≡ map (laid (led p w)) ds
all_led p w [] = refl
all_led p w (d ∷ ds) = ap (λ n. n ∷ map (laid p) (map (redirected w) ds)) (laid_led p w d)
    ∙ ap (λ ns. laid (led p w) d ∷ ns) (all_led p w ds)

-- the middle of three lists is led
take_front : {A : Type 0} (xs ys : List A) → take (length xs) (xs ++ ys) ≡ xs
take_front [] ys = refl
take_front (x ∷ xs) ys = ap (λ zs. x ∷ zs) (take_front xs ys)

drop_front : {A : Type 0} (xs ys : List A) → drop (length xs) (xs ++ ys) ≡ ys
drop_front [] ys = refl
drop_front (x ∷ xs) ys = drop_front xs ys

pub middle_led : (w : Ways) (xs ys zs : List Draft) (from past : ℕ) → from ≡ length xs → past ≡ length xs + length ys
    → led_between from past w ((xs ++ ys) ++ zs) ≡ (xs ++ map (redirected w) ys) ++ zs
middle_led w xs ys zs from past at there =
    let count : past - from ≡ length ys = omega (arith, at, there) in
    let behind : past ≡ length (xs ++ ys) = there ∙ sym (length-append xs ys) in
    ap (λ n. (take from ((xs ++ ys) ++ zs) ++ map (redirected w) (take (past - from) (drop from ((xs ++ ys) ++ zs))))
    ++ drop n ((xs ++ ys) ++ zs)) behind
    ∙ ap (λ ds. (take from ((xs ++ ys) ++ zs) ++ map (redirected w) (take (past - from) (drop from ((xs ++ ys) ++ zs)))) ++ ds)
    (drop_front (xs ++ ys) zs)
    ∙ ap (λ ds. (take from ds ++ map (redirected w) (take (past - from) (drop from ds))) ++ zs) (append_assoc xs ys zs)
    ∙ ap (λ n. (take n (xs ++ (ys ++ zs)) ++ map (redirected w) (take (past - from) (drop n (xs ++ (ys ++ zs))))) ++ zs) at
    ∙ ap (λ n. (take (length xs) (xs ++ (ys ++ zs)) ++ map (redirected w) (take n (drop (length xs) (xs ++ (ys ++ zs))))) ++ zs) count
    ∙ ap (λ ds. (ds ++ map (redirected w) (take (length ys) (drop (length xs) (xs ++ (ys ++ zs))))) ++ zs) (take_front xs (ys ++ zs))
    ∙ ap (λ ds. (xs ++ map (redirected w) (take (length ys) ds)) ++ zs) (drop_front xs (ys ++ zs))
    ∙ ap (λ ds. (xs ++ map (redirected w) ds) ++ zs) (take_front ys zs)

-- where each exit becomes itself, all is as it was
label_kept : (t : Label) → redirect (next_at Next) t ≡ t
label_kept (At place) = refl
label_kept Next = refl
label_kept Breaks = refl
label_kept Continues = refl
label_kept Holds = refl
label_kept Fails = refl

draft_kept : (d : Draft) → redirected (next_at Next) d ≡ d
draft_kept d =
    ap (λ t. record d { next = t; other = redirect (next_at Next) d.other }) (label_kept d.next)
    ∙ ap (λ t. record d { other = t }) (label_kept d.other)

drafts_kept : (ds : List Draft) → map (redirected (next_at Next)) ds ≡ ds
drafts_kept [] = refl
drafts_kept (d ∷ ds) = ap (λ e. e ∷ map (redirected (next_at Next)) ds) (draft_kept d) ∙ ap (λ es. d ∷ es) (drafts_kept ds)

between_kept : (from past : ℕ) → from ≤ past → (ds : List Draft) → led_between from past (next_at Next) ds ≡ ds
between_kept from past le ds =
    let behind : past ≡ from + (past - from) = omega (arith, le) in
    ap (λ es. (take from ds ++ es) ++ drop past ds) (drafts_kept (take (past - from) (drop from ds)))
    ∙ ap (λ n. (take from ds ++ take (past - from) (drop from ds)) ++ drop n ds) behind
    ∙ ap (λ es. (take from ds ++ take (past - from) (drop from ds)) ++ es) (sym (drop-drop (past - from) from ds))
    ∙ append_assoc (take from ds) (take (past - from) (drop from ds)) (drop (past - from) (drop from ds))
    ∙ ap (λ es. take from ds ++ es) (take-append-drop (past - from) (drop from ds))
    ∙ take-append-drop from ds

-- so nothing changes where pieces are to go on at their own exit
pub next_led_to_next : (begin : Label) → begin ≡ Next → (from past : ℕ) → from ≤ past → (ds : List Draft)
    → ds ≡ led_between from past (next_at begin) ds
next_led_to_next begin is from past le ds = sym (between_kept from past le ds) ∙ ap (λ t. led_between from past (next_at t) ds) (sym is)
