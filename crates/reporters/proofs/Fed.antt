-- An entry was offered to the first of the reporters.
use Rattle.std.proofs.Common.{◌≡◌, ℕ, zero, suc, ◌+◌, ◌<◌, ◌≤◌, false, cond, List, [], ◌∷◌, ◌++◌, map, length, take, drop, get_or, refl}
use Rattle.std.proofs.Common.{sym, ap, ◌∙◌, subst, arith}
use Rattle.std.specs.Prelude.{slice_set}
use Rattle.std.specs.List.{remove}
use Rattle.std.proofs.lemmas.List.{append-nil, append_assoc, at_drop_more, drop-set-lt, drop_all, map-append, take-set, take_all}
use Rattle.std.proofs.lemmas.List.{take_more_set}
use Rattle.std.proofs.lemmas.List.Recursion.{is_count_by}
use Rattle.reporters.specs.declared.reporter.Entry.{Entry}
use Rattle.reporters.specs.Feeding.{AreFed, Stays, steady_count}
use Rattle.reporters.specs.Feeding.AreFed.{nobody, stays, goes}
use Rattle.reporters.specs.Known.{Known}

-- ---- how many are steady

abbrev counted : List Known → ℕ
counted [] = 0
counted (one ∷ others) = cond one.steady (1 + counted others) (counted others)

counted_is : (all : List Known) → counted all ≡ steady_count all
counted_is all = is_count_by counted (λ one. one.steady) refl (λ one others. refl) all

fed_counted : (entry : Entry) (olds news : List Known) → AreFed entry olds news → counted news ≡ counted olds
fed_counted entry _ _ nobody = refl
fed_counted entry _ _ (stays old new olds news is rest) =
    ap (λ b. cond b (1 + counted news) (counted news)) is.steady ∙ ap (λ n. cond old.steady (1 + n) n) (fed_counted entry olds news rest)
fed_counted entry _ _ (goes old olds news unsteady rest) =
    fed_counted entry olds news rest ∙ sym (ap (λ b. cond b (1 + counted olds) (counted olds)) unsteady)

pub fed_steady : (entry : Entry) (olds news : List Known) → AreFed entry olds news → steady_count news ≡ steady_count olds
fed_steady entry olds news fed = sym (counted_is news) ∙ fed_counted entry olds news fed ∙ counted_is olds

-- ---- one after another

take_removed : {X : Type 0} (xs : List X) (i : ℕ) → take i (remove xs i) ≡ take i xs
take_removed [] zero = refl
take_removed [] (suc i) = refl
take_removed (x ∷ xs) zero = refl
take_removed (x ∷ xs) (suc i) = ap (λ l. x ∷ l) (take_removed xs i)

drop_removed : {X : Type 0} (xs : List X) (i : ℕ) → drop i (remove xs i) ≡ drop (suc i) xs
drop_removed [] zero = refl
drop_removed [] (suc i) = refl
drop_removed (x ∷ xs) zero = refl
drop_removed (x ∷ xs) (suc i) = drop_removed xs i

module _ {X : Type 0} (known : X → Known) (entry : Entry) (first : List X) where
  -- whatever comes of those that are left goes behind those that stay
  abbrev pub IsFeeding : List X → ℕ → Type 0
  IsFeeding now place = (later : List Known) → AreFed entry (map known (drop place now)) later
      → AreFed entry (map known first) (map known (take place now) ++ later)

  pub feeding_stays : (now : List X) (place : ℕ) (old new : X) → place < length now → old ≡ get_or now place old → IsFeeding now place
      → Stays entry (known old) (known new) → IsFeeding (slice_set now place new) (place + 1)
  feeding_stays now place old new lt old_is before is later fed =
      let past : place < place + 1 = omega arith in
      let own : AreFed entry (map known (drop (place + 1) now)) later =
      subst (λ l. AreFed entry (map known l) later) (drop-set-lt (place + 1) now place new past) fed in
      let same : Stays entry (known (get_or now place old)) (known new) = subst (λ x. Stays entry (known x) (known new)) old_is is in
      let here : AreFed entry (map known (drop place now)) (known new ∷ later) =
      subst (λ l. AreFed entry l (known new ∷ later)) (sym (at_drop_more (map known) now place old lt))
      (stays (known (get_or now place old)) (known new) (map known (drop (place + 1) now)) later same own) in
      subst (AreFed entry (map known first))
      (sym
      (ap (λ l. map known l ++ later) (take_more_set now place new lt) ∙ ap (λ l. l ++ later) (map-append known (take place now) (new ∷ []))
      ∙ append_assoc (map known (take place now)) (known new ∷ []) later))
      (before (known new ∷ later) here)

  pub feeding_goes : (now after : List X) (place : ℕ) (old new : X) → place < length now → old ≡ get_or now place old → IsFeeding now place
      → (known old).steady ≡ false → after ≡ remove (slice_set now place new) place → IsFeeding after place
  feeding_goes now after place old new lt old_is before unsteady after_is later fed =
      let past : place < suc place = omega arith in
      let one : suc place ≡ place + 1 = omega arith in
      let rest : drop place after ≡ drop (place + 1) now =
      ap (drop place) after_is ∙ drop_removed (slice_set now place new) place ∙ drop-set-lt (suc place) now place new past
      ∙ ap (λ n. drop n now) one in
      let own : AreFed entry (map known (drop (place + 1) now)) later = subst (λ l. AreFed entry (map known l) later) rest fed in
      let same : (known (get_or now place old)).steady ≡ false = ap (λ x. (known x).steady) (sym old_is) ∙ unsteady in
      let here : AreFed entry (map known (drop place now)) later =
      subst (λ l. AreFed entry l later) (sym (at_drop_more (map known) now place old lt))
      (goes (known (get_or now place old)) (map known (drop (place + 1) now)) later same own) in
      let front : take place now ≡ take place after =
      sym (ap (take place) after_is ∙ take_removed (slice_set now place new) place ∙ take-set now place new) in
      subst (λ l. AreFed entry (map known first) (map known l ++ later)) front (before later here)

  pub feeding_ends : (now : List X) (place : ℕ) → length now ≤ place → IsFeeding now place → AreFed entry (map known first) (map known now)
  feeding_ends now place le feeding =
      subst (AreFed entry (map known first)) (append-nil (map known (take place now)) ∙ ap (map known) (take_all place now le))
      (feeding [] (subst (λ l. AreFed entry (map known l) []) (sym (drop_all place now le)) nobody))
