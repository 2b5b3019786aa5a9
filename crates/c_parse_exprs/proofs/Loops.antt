-- Loops that read things one after another, against `read_each`. How often it may go on is the number of words, less one for
-- each thing that was read; as each thing takes a word, that is never too few.
use Rattle.std.proofs.Common.{◌≡◌, ℕ, zero, suc, ◌+◌, ◌-◌, ◌<◌, ◌≤◌, Bool, true, false, cond, List, [], ◌∷◌, ◌++◌, length, map, refl, sym}
use Rattle.std.proofs.Common.{ap, ◌∙◌, subst, arith, append_assoc, append-nil, length-append}
use Rattle.std.specs.Prelude.{Ok, Err, if◌then◌else◌}
use Rattle.c_grammar.specs.declared.tokens.fault.ReadFault.{ReadFault}
use Rattle.c_grammar.specs.declared.class.Class.{Class}
use Rattle.c_grammar.specs.declared.class.Class.TheVariants as class
use Rattle.c_grammar.specs.Words.{Word}
use Rattle.c_grammar.specs.Readers.{Got, ◌>>=◌, class_at, behind, is_class, read_each}
use Rattle.c_parse_exprs.specs.Reads.{Halts}
use Rattle.c_parse_exprs.proofs.Steps.{halts}

-- these things and then those
abbrev pub with_found : {A : Type 0} → List A → Got (List A) → Got (List A)
with_found found got = got >>= (λ others. Ok (found ++ others.0, others.1))

-- of what is read from the first words, these things were read, and the words are left
pub record SoFar {A : Type 0} (begins : Class → Bool) (read : List Word → Got A) (from : List Word) (found : List A)
    (words : List Word) : Type 0 where
  pub room : length found + length words ≤ length from
  pub rest : read_each (length from) begins read from ≡ with_found found (read_each (length from - length found) begins read words)

with_none : {A : Type 0} (got : Got (List A)) → got ≡ with_found [] got
with_none (Ok x) = refl
with_none (Err halt) = refl

pub so_far_none : {A : Type 0} (begins : Class → Bool) (read : List Word → Got A) (from : List Word) → SoFar begins read from [] from
so_far_none begins read from = record {
  room = omega arith;
  rest =
      let same : length from - 0 ≡ length from = omega arith in
      with_none (read_each (length from) begins read from) ∙ ap (λ n. with_found [] (read_each n begins read from)) (sym same);
}

one_more : {A : Type 0} (begins : Class → Bool) (read : List Word → Got A) (times : ℕ) (found : List A) (words next : List Word) (one : A)
    → begins (class_at words) ≡ true → read words ≡ Ok (one, next)
    → with_found found (read_each (suc times) begins read words) ≡ with_found (found ++ one ∷ []) (read_each times begins read next)
one_more begins read times found words next one begun is = rw (begun, is) (regroup (read_each times begins read next))
  where
    regroup : (got : Got (List _))
        → with_found found (got >>= (λ others. Ok (one ∷ others.0, others.1))) ≡ with_found (found ++ one ∷ []) got
    regroup (Ok x) = ap (λ all. Ok (all, x.1)) (sym (append_assoc found (one ∷ []) x.0))
    regroup (Err halt) = refl

-- one more thing was read
pub so_far_more : {A B : Type 0} (begins : Class → Bool) (read : List Word → Got A) (tree : B → A) (from : List Word) (items more : List B)
    (words next : List Word) (one : B)
    → SoFar begins read from (map tree items) words → more ≡ items ++ one ∷ []
    → begins (class_at words) ≡ true → read words ≡ Ok (tree one, next) → length next < length words
    → SoFar begins read from (map tree more) next
so_far_more begins read tree from items more words next one so pushed begun is falls =
    let all : map tree more ≡ map tree items ++ tree one ∷ [] = ap (map tree) pushed ∙ map-push tree items one in
    let long : length (map tree items ++ tree one ∷ []) ≡ length (map tree items) + 1 = length_push (map tree items) (tree one) in
    let times : length from - length (map tree items) ≡ suc (length from - length (map tree items ++ tree one ∷ [])) =
    fuel (length from) (length (map tree items)) (length (map tree items ++ tree one ∷ [])) (length words) long so.room (omega arith) in
    subst (λ found. SoFar begins read from found next) (sym all) (record {
      room =
          room (length from) (length (map tree items)) (length (map tree items ++ tree one ∷ [])) (length words)
          (length next) long so.room falls;
      rest = so.rest ∙ ap (λ n. with_found (map tree items) (read_each n begins read words)) times
          ∙ one_more begins read (length from - length (map tree items ++ tree one ∷ [])) (map tree items) words next (tree one) begun is;
    })
  where
    map-push : {A B : Type 0} (f : B → A) (xs : List B) (x : B) → map f (xs ++ x ∷ []) ≡ map f xs ++ f x ∷ []
    map-push f [] x = refl
    map-push f (y ∷ ys) x = ap (λ r. f y ∷ r) (map-push f ys x)

    length_push : {A : Type 0} (xs : List A) (x : A) → length (xs ++ x ∷ []) ≡ length xs + 1
    length_push xs x = length-append xs (x ∷ [])

    fuel : (f i m w : ℕ) → m ≡ i + 1 → i + w ≤ f → 0 < w → f - i ≡ suc (f - m)
    fuel f i m w long fits some = omega arith

    room : (f i m w n : ℕ) → m ≡ i + 1 → i + w ≤ f → n < w → m + n ≤ f
    room f i m w n long fits falls = omega arith

-- none begins: these were all
pub so_far_end : {A : Type 0} (begins : Class → Bool) (read : List Word → Got A) (from : List Word) (found : List A) (words : List Word)
    → SoFar begins read from found words → begins (class_at words) ≡ false → read_each (length from) begins read from ≡ Ok (found, words)
so_far_end begins read from found words so none =
    so.rest ∙ ap (with_found found) (ends (length from - length found)) ∙ ap (λ all. Ok (all, words)) (append-nil found)
  where
    ends : (times : ℕ) → read_each times begins read words ≡ Ok ([], words)
    ends zero = refl
    ends (suc times) = rw none refl

-- one begins, and reading it halts
pub so_far_halts : {A : Type 0} (begins : Class → Bool) (read : List Word → Got A) (from : List Word) (found : List A) (words : List Word)
    (fault : ReadFault)
    → SoFar begins read from found words → begins (class_at words) ≡ true → begins class.OtherKey ≡ false → Halts fault (read words)
    → Halts fault (read_each (length from) begins read from)
so_far_halts begins read from found [] fault so begun never h = let z : true ≡ false = sym begun ∙ never in absurd (cc)
so_far_halts begins read from found (first ∷ others) fault so begun never h =
    subst (Halts fault) (sym (so.rest ∙ ap (λ n. with_found found (read_each n begins read (first ∷ others))) times))
    (halts fault _ _ (subst (Halts fault) (sym (opened (length from - length found - 1))) (halts fault _ _ h)))
  where
    times : length from - length found ≡ suc (length from - length found - 1)
    times = fuel (length from) (length found) (length (first ∷ others)) so.room (omega arith)
      where
        fuel : (f i w : ℕ) → i + w ≤ f → 0 < w → f - i ≡ suc (f - i - 1)
        fuel f i w fits some = omega arith

    opened : (n : ℕ) → read_each (suc n) begins read (first ∷ others)
        ≡ (read (first ∷ others) >>= (λ one. read_each n begins read one.1 >>= (λ others. Ok (one.0 ∷ others.0, others.1))))
    opened n = rw begun refl

-- The same where each thing stands behind a word of the class, which `eat` passes: what `eat` says of the words before it
-- and behind it.
pub record Eaten (kind : Class) (passed : Bool) (words eaten : List Word) : Type 0 where
  pub seen : passed ≡ is_class kind (class_at words)
  pub value : eaten ≡ (if is_class kind (class_at words) then behind words else words)

behind_eaten : (kind : Class) (seen : Bool) (words eaten : List Word) → Eaten kind seen words eaten → seen ≡ true
    → (is_class kind (class_at words) ≡ true) × (eaten ≡ behind words)
behind_eaten kind seen words eaten h is =
    let begun : is_class kind (class_at words) ≡ true = sym h.seen ∙ is in
    (begun, h.value ∙ ap (λ b. cond b (behind words) words) begun)

pub eaten_more : {A B : Type 0} (kind : Class) (read : List Word → Got A) (tree : B → A) (from : List Word) (items more : List B)
    (words eaten next : List Word) (one : B) (seen : Bool)
    → SoFar (is_class kind) (λ first. read (behind first)) from (map tree items) words → Eaten kind seen words eaten → seen ≡ true
    → read eaten ≡ Ok (tree one, next) → more ≡ items ++ one ∷ [] → length next < length words
    → SoFar (is_class kind) (λ first. read (behind first)) from (map tree more) next
eaten_more kind read tree from items more words eaten next one seen so h is got pushed falls =
    let (begun, same) = behind_eaten kind seen words eaten h is in
    so_far_more (is_class kind) (λ first. read (behind first)) tree from items more words next one so pushed begun
    (ap read (sym same) ∙ got) falls

pub eaten_end : {A : Type 0} (kind : Class) (read : List Word → Got A) (from : List Word) (found : List A) (words eaten : List Word)
    (seen : Bool)
    → SoFar (is_class kind) (λ first. read (behind first)) from found words → Eaten kind seen words eaten → seen ≡ false
    → read_each (length from) (is_class kind) (λ first. read (behind first)) from ≡ Ok (found, eaten)
eaten_end kind read from found words eaten seen so h is =
    let none : is_class kind (class_at words) ≡ false = sym h.seen ∙ is in
    let same : eaten ≡ words = h.value ∙ ap (λ b. cond b (behind words) words) none in
    so_far_end (is_class kind) (λ first. read (behind first)) from found words so none ∙ ap (λ w. Ok (found, w)) (sym same)

pub eaten_halts : {A : Type 0} (kind : Class) (read : List Word → Got A) (from : List Word) (found : List A) (words eaten : List Word)
    (seen : Bool) (fault : ReadFault)
    → SoFar (is_class kind) (λ first. read (behind first)) from found words → Eaten kind seen words eaten → seen ≡ true
    → is_class kind class.OtherKey ≡ false → Halts fault (read eaten)
    → Halts fault (read_each (length from) (is_class kind) (λ first. read (behind first)) from)
eaten_halts kind read from found words eaten seen fault so h is never halt =
    let (begun, same) = behind_eaten kind seen words eaten h is in
    so_far_halts (is_class kind) (λ first. read (behind first)) from found words fault so begun never
    (subst (λ w. Halts fault (read w)) same halt)
