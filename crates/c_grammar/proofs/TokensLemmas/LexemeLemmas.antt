-- The longest lexeme at a place: a run of letters, digits and underscores, or a sign.
use Rattle.std.proofs.Common.{◌≡◌, ◌≢◌, ℕ, zero, suc, ◌+◌, ◌<◌, ◌≤◌, Bool, true, false, cond, List, [], ◌∷◌, ◌++◌, length, inl, inr, ◌⊎◌}
use Rattle.std.proofs.Common.{refl, sym, ap, ◌∙◌, subst, append_assoc, arith}
use Rattle.std.specs.Prelude.{◌==◌, ◌&&◌, ◌||◌, not, nat_le, slice_index}
use Rattle.std.specs.List.{list_all, list_any, prefix_len}
use Rattle.std.specs.Str.{bytes_eq}
use Rattle.std.proofs.lemmas.Bool.{eqb-true, cases_lt}
use Rattle.std.proofs.lemmas.Bool.Decides.{nat_tests}
use Rattle.std.proofs.lemmas.Slice.Eq.{bytes_eq-Decides}
use Rattle.std.proofs.lemmas.List.{append-nil, length-append}
use Rattle.shape_data.specs.Names.{is_name_byte, IsCName}
use Rattle.c_grammar.specs.Tokens.Gaps.{is_blank}
use Rattle.c_grammar.specs.Tokens.Words.{long_signs, short_signs, is_long_sign, is_short_sign, sign_len}
use Rattle.c_grammar.specs.Tokens.Lexemes.{IsNumeral, IsSign, IsLexeme, IsLongest}
use Rattle.c_grammar.proofs.TokensLemmas.Booleans.{both_true, true_both, cond_true, cond_false}
use Rattle.c_grammar.proofs.TokensLemmas.Fronts.{heads, tails, in_all, all_append, shorter_first}

-- what holds of each word of a list holds of one that is found in it
pub found_in : (p : List ℕ → Bool) (words : List (List ℕ)) (word : List ℕ) → list_any (λ other. bytes_eq other word) words ≡ true
    → list_all p words ≡ true → p word ≡ true
found_in p [] word found each = absurd cc
found_in p (other ∷ words) word found each =
    by (bytes_eq other word) refl (λ more. found_in p words word more (both_true (p other) (list_all p words) each).1)
  where
    by : (c : Bool) → bytes_eq other word ≡ c → (list_any (λ other. bytes_eq other word) words ≡ true → p word ≡ true) → p word ≡ true
    by true e more = subst (λ w. p w ≡ true) ((bytes_eq-Decides other word).0 e) (both_true (p other) (list_all p words) each).0
    by false e more = more (sym (ap (λ t. t || list_any (λ other. bytes_eq other word) words) e) ∙ found)

pub found_byte : (p : ℕ → Bool) (bytes : List ℕ) (byte : ℕ) → list_any (λ other. other == byte) bytes ≡ true → list_all p bytes ≡ true
    → p byte ≡ true
found_byte p [] byte found each = absurd cc
found_byte p (other ∷ bytes) byte found each =
    by (other == byte) refl (λ more. found_byte p bytes byte more (both_true (p other) (list_all p bytes) each).1)
  where
    by : (c : Bool) → (other == byte) ≡ c → (list_any (λ other. other == byte) bytes ≡ true → p byte ≡ true) → p byte ≡ true
    by true e more = subst (λ b. p b ≡ true) (eqb-true other byte e) (both_true (p other) (list_all p bytes) each).0
    by false e more = more (sym (ap (λ t. t || list_any (λ other. other == byte) bytes) e) ∙ found)

-- ---- signs

abbrev is_long_shape : List ℕ → Bool
is_long_shape word = (length word == 2)
    && (not (is_name_byte (slice_index word 0))
    && (not (slice_index word 0 == 35) && (not (slice_index word 0 == 47) && not (is_blank (slice_index word 0)))))

long_shapes : list_all is_long_shape long_signs ≡ true
long_shapes = refl

abbrev is_short_shape : ℕ → Bool
is_short_shape byte = not (is_name_byte byte) && (not (byte == 35) && (not (byte == 47) && not (is_blank byte)))

short_shapes : list_all is_short_shape short_signs ≡ true
short_shapes = refl

-- the first byte of a sign is none of a name, no `#`, no slash and no blank
pub record IsSignStart (byte : ℕ) : Type 0 where
  pub other : is_name_byte byte ≡ false
  pub hash : (byte == 35) ≡ false
  pub slash : (byte == 47) ≡ false
  pub blank : is_blank byte ≡ false

not_true : (b : Bool) → not b ≡ true → b ≡ false
not_true true e = absurd cc
not_true false e = refl

shape_start : (byte : ℕ) → is_short_shape byte ≡ true → IsSignStart byte
shape_start byte e =
    let (one, others) = both_true (not (is_name_byte byte)) (not (byte == 35) && (not (byte == 47) && not (is_blank byte))) e in
    let (two, more) = both_true (not (byte == 35)) (not (byte == 47) && not (is_blank byte)) others in
    let (three, four) = both_true (not (byte == 47)) (not (is_blank byte)) more in
    record { other = not_true _ one; hash = not_true _ two; slash = not_true _ three; blank = not_true _ four }

pub short_start : (byte : ℕ) → is_short_sign byte ≡ true → IsSignStart byte
unfolding is_short_sign
short_start byte e = shape_start byte (found_byte is_short_shape short_signs byte e short_shapes)

long_shape : (word : List ℕ) → is_long_sign word ≡ true → is_long_shape word ≡ true
unfolding is_long_sign
long_shape word e = found_in is_long_shape long_signs word e long_shapes

-- the second byte of a sign is no blank and no slash
abbrev second_shape : List ℕ → Bool
second_shape word = not (is_blank (slice_index word 1)) && not (slice_index word 1 == 47)

second_shapes : list_all second_shape long_signs ≡ true
second_shapes = refl

pub long_second : (a b : ℕ) → is_long_sign (a ∷ b ∷ []) ≡ true → (is_blank b ≡ false) × ((b == 47) ≡ false)
unfolding is_long_sign
long_second a b e =
    let (one, two) = both_true (not (is_blank b)) (not (b == 47)) (found_in second_shape long_signs (a ∷ b ∷ []) e second_shapes) in
    (not_true _ one, not_true _ two)

-- a sign of two bytes
pub record IsLongSign (word : List ℕ) : Type 0 where
  pub first : ℕ
  pub second : ℕ
  pub is : word ≡ first ∷ second ∷ []
  pub start : IsSignStart first

pub long_two : (word : List ℕ) → is_long_sign word ≡ true → IsLongSign word
long_two word e = by word (both_true (length word == 2) (is_short_shape (slice_index word 0)) (long_shape word e))
  where
    by : (word : List ℕ) → ((length word == 2) ≡ true) × (is_short_shape (slice_index word 0) ≡ true) → IsLongSign word
    by [] (two, start) = absurd cc
    by (a ∷ []) (two, start) = absurd cc
    by (a ∷ b ∷ []) (two, start) = record { first = a; second = b; is = refl; start = shape_start a start }
    by (a ∷ b ∷ c ∷ more) (two, start) = let is = eqb-true (length (a ∷ b ∷ c ∷ more)) 2 two in absurd (omega arith)

-- a lexeme has a first byte, and how it goes on
pub data Shape : List ℕ → Type 0 where
  of_run : (b : ℕ) (word : List ℕ) → is_name_byte b ≡ true → list_all is_name_byte (b ∷ word) ≡ true → Shape (b ∷ word)
  of_short : (b : ℕ) → is_short_sign b ≡ true → Shape (b ∷ [])
  of_long : (a b : ℕ) → is_long_sign (a ∷ b ∷ []) ≡ true → IsSignStart a → Shape (a ∷ b ∷ [])

pub shape : (word : List ℕ) → IsLexeme word → Shape word
shape word (IsLexeme.name is) = by word is.some (is.each)
  where
    by : (word : List ℕ) → 0 < length word → list_all is_name_byte word ≡ true → Shape word
    by [] some each = absurd (omega arith)
    by (b ∷ word) some each = Shape.of_run b word (both_true (is_name_byte b) (list_all is_name_byte word) each).0 each
shape word (IsLexeme.numeral is) = by word is.some (is.each)
  where
    by : (word : List ℕ) → 0 < length word → list_all is_name_byte word ≡ true → Shape word
    by [] some each = absurd (omega arith)
    by (b ∷ word) some each = Shape.of_run b word (both_true (is_name_byte b) (list_all is_name_byte word) each).0 each
shape word (IsLexeme.sign (inl (byte, is, same))) = subst Shape (sym same) (Shape.of_short byte (is))
shape word (IsLexeme.sign (inr is)) =
    let two = long_two word (is) in
    subst Shape (sym two.is) (Shape.of_long two.first two.second (subst (λ w. is_long_sign w ≡ true) two.is (is)) two.start)

-- ---- runs

-- no byte of a name stands first
abbrev pub Stops : List ℕ → Type 0
Stops [] = Unit {0}
Stops (b ∷ bytes) = is_name_byte b ≡ false

pub record Run (bytes : List ℕ) : Type 0 where
  pub word : List ℕ
  pub rest : List ℕ
  pub is : bytes ≡ word ++ rest
  pub count : prefix_len is_name_byte bytes ≡ length word
  pub each : list_all is_name_byte word ≡ true
  pub stops : Stops rest

pub run_of : (bytes : List ℕ) → Run bytes
run_of [] = record { word = []; rest = []; is = refl; count = refl; each = refl; stops = tt }
run_of (b ∷ bytes) = by (is_name_byte b) refl (run_of bytes)
  where
    by : (c : Bool) → is_name_byte b ≡ c → Run bytes → Run (b ∷ bytes)
    by true e more = record {
      word = b ∷ more.word;
      rest = more.rest;
      is = ap (λ l. b ∷ l) more.is;
      count = cond_true (is_name_byte b) (1 + prefix_len is_name_byte bytes) 0 e ∙ (let c = more.count in omega arith);
      each = true_both (is_name_byte b) (list_all is_name_byte more.word) e more.each;
      stops = more.stops;
    }
    by false e more =
        record {
          word = [];
          rest = b ∷ bytes;
          is = refl;
          count = cond_false (is_name_byte b) (1 + prefix_len is_name_byte bytes) 0 e;
          each = refl;
          stops = e;
        }

pub run_len : (word rest : List ℕ) → list_all is_name_byte word ≡ true → Stops rest → prefix_len is_name_byte (word ++ rest) ≡ length word
run_len [] [] each stops = refl
run_len [] (b ∷ rest) each stops = cond_false (is_name_byte b) (1 + prefix_len is_name_byte rest) 0 stops
run_len (b ∷ word) rest each stops =
    let (first, others) = both_true (is_name_byte b) (list_all is_name_byte word) each in
    let more = run_len word rest others stops in
    cond_true (is_name_byte b) (1 + prefix_len is_name_byte (word ++ rest)) 0 first ∙ omega arith

-- no run goes on behind its stop
run_longest : (word rest other behind : List ℕ) → Stops rest → list_all is_name_byte other ≡ true → word ++ rest ≡ other ++ behind
    → length other ≤ length word
run_longest word rest other behind stops each e = by (cases_lt (length word) (length other))
  where
    longer : (mid rest : List ℕ) → Stops rest → length word < length other → other ≡ word ++ mid → rest ≡ mid ++ behind → ⊥
    longer [] rest stops lt same f = let none = ap length (same ∙ append-nil word) in absurd (omega arith)
    longer (m ∷ mid) [] stops lt same f = absurd cc
    longer (m ∷ mid) (b ∷ rest) stops lt same f =
        let named = in_all is_name_byte word m mid (sym (ap (list_all is_name_byte) same) ∙ each) in
        let never : true ≡ false = sym named ∙ ap is_name_byte (sym (heads f)) ∙ stops in absurd cc

    by : (length word < length other) ⊎ (length other ≤ length word) → length other ≤ length word
    by (inl lt) = let (mid, same, f) = shorter_first word rest other behind (omega arith) e in absurd (longer mid rest stops lt same f)
    by (inr le) = le

-- a run is the longest lexeme where it begins
pub run_is_longest : (b : ℕ) (word rest : List ℕ) → is_name_byte b ≡ true → Stops rest → IsLongest (b ∷ word) rest
run_is_longest b word rest named stops other behind is e = by other (shape other is) e
  where
    by : (other : List ℕ) → Shape other → (b ∷ word) ++ rest ≡ other ++ behind → length other ≤ length (b ∷ word)
    by _ (Shape.of_run c more first each) e = run_longest (b ∷ word) rest (c ∷ more) behind stops each e
    by _ (Shape.of_short c is) e = omega arith
    by _ (Shape.of_long c d is start) e = let never : true ≡ false = sym named ∙ ap is_name_byte (heads e) ∙ start.other in absurd cc

-- behind a longest run no byte of a name stands
pub longest_stops : (word rest : List ℕ) → ((b : ℕ) → is_name_byte b ≡ true → IsLexeme (word ++ b ∷ [])) → IsLongest word rest → Stops rest
longest_stops word [] goes_on longest = tt
longest_stops word (b ∷ rest) goes_on longest = by (is_name_byte b) refl
  where
    by : (c : Bool) → is_name_byte b ≡ c → is_name_byte b ≡ false
    by false e = e
    by true e =
        let long = longest (word ++ b ∷ []) rest (goes_on b e) (sym (append_assoc word (b ∷ []) rest)) in
        let more = length-append word (b ∷ []) in absurd (omega arith)

pub name_goes_on : (word : List ℕ) → IsCName word → (b : ℕ) → is_name_byte b ≡ true → IsCName (word ++ b ∷ [])
name_goes_on [] is b named = let some = is.some in absurd (omega arith)
name_goes_on (a ∷ word) is b named = record {
  some = omega arith;
  first = is.first;
  each = all_append is_name_byte (a ∷ word) (b ∷ []) is.each (true_both (is_name_byte b) true named refl);
}

pub numeral_goes_on : (word : List ℕ) → IsNumeral word → (b : ℕ) → is_name_byte b ≡ true → IsNumeral (word ++ b ∷ [])
numeral_goes_on [] is b named = let some = is.some in absurd (omega arith)
numeral_goes_on (a ∷ word) is b named = record {
  some = omega arith;
  first = is.first;
  each = all_append is_name_byte (a ∷ word) (b ∷ []) is.each (true_both (is_name_byte b) true named refl);
}

-- ---- signs

two_bytes : (a b : ℕ) (bytes : List ℕ) → nat_le 2 (length (a ∷ b ∷ bytes)) ≡ true
two_bytes a b bytes = grind (arith, nat_tests)

pub sign_len-two : (a b : ℕ) (bytes : List ℕ) → sign_len (a ∷ b ∷ bytes) ≡ cond (is_long_sign (a ∷ b ∷ [])) 2 (cond (is_short_sign a) 1 0)
sign_len-two a b bytes = ap (λ t. cond (t && is_long_sign (a ∷ b ∷ [])) 2 (cond (is_short_sign a) 1 0)) (two_bytes a b bytes)

-- a lexeme that a byte begins which stands in no name is a sign
abbrev pub SignCut : List ℕ → ℕ → Type 0
SignCut bytes zero = (word behind : List ℕ) → IsLexeme word → bytes ≢ word ++ behind
SignCut bytes (suc n) = (word behind : List ℕ) × (bytes ≡ word ++ behind) × (length word ≡ suc n) × IsSign word × IsLongest word behind

pub sign_longest : (a : ℕ) (word behind : List ℕ) → is_name_byte a ≡ false
    → ((b : ℕ) (rest : List ℕ) → word ++ behind ≡ a ∷ b ∷ rest → is_long_sign (a ∷ b ∷ []) ≡ true → 2 ≤ length word) → 1 ≤ length word
    → (rest : List ℕ) → word ++ behind ≡ a ∷ rest → IsLongest word behind
sign_longest a word behind other long some rest starts lexeme after is e = by lexeme (shape lexeme is) e
  where
    by : (lexeme : List ℕ) → Shape lexeme → word ++ behind ≡ lexeme ++ after → length lexeme ≤ length word
    by _ (Shape.of_run c more first each) e =
        let never : true ≡ false = sym first ∙ ap is_name_byte (heads (sym e ∙ starts)) ∙ other in absurd cc
    by _ (Shape.of_short c is) e = some
    by _ (Shape.of_long c d is start) e =
        let same : c ≡ a = heads (sym e ∙ starts) in
        long d after (e ∙ ap (λ x. x ∷ d ∷ after) same) (subst (λ x. is_long_sign (x ∷ d ∷ []) ≡ true) same is)

no_sign : (a : ℕ) (bytes : List ℕ) → is_name_byte a ≡ false → is_short_sign a ≡ false
    → ((b : ℕ) (rest : List ℕ) → bytes ≡ b ∷ rest → is_long_sign (a ∷ b ∷ []) ≡ false) → SignCut (a ∷ bytes) zero
no_sign a bytes other short long lexeme after is e = by lexeme (shape lexeme is) e
  where
    by : (lexeme : List ℕ) → Shape lexeme → a ∷ bytes ≡ lexeme ++ after → ⊥
    by _ (Shape.of_run c more first each) e = let never : true ≡ false = sym first ∙ ap is_name_byte (heads (sym e)) ∙ other in absurd cc
    by _ (Shape.of_short c is) e = let never : true ≡ false = sym is ∙ ap is_short_sign (heads (sym e)) ∙ short in absurd cc
    by _ (Shape.of_long c d is start) e =
        let never : true ≡ false = sym is ∙ ap (λ x. is_long_sign (x ∷ d ∷ [])) (heads (sym e)) ∙ long d after (tails e) in absurd cc

pub sign_cut : (a : ℕ) (bytes : List ℕ) → is_name_byte a ≡ false → SignCut (a ∷ bytes) (sign_len (a ∷ bytes))
sign_cut a [] other = by (is_short_sign a) refl
  where
    by : (c : Bool) → is_short_sign a ≡ c → SignCut (a ∷ []) (cond (is_short_sign a) 1 0)
    by true e =
        subst (SignCut (a ∷ [])) (sym (cond_true (is_short_sign a) 1 0 e)) (
          a ∷ [],
          [],
          refl,
          refl,
          inl (a, e, refl),
          sign_longest a (a ∷ []) [] other (λ b rest f is. absurd (no_tail (tails f)))
              (omega arith) [] refl,
        )
      where
        no_tail : {b : ℕ} {rest : List ℕ} → [] ≡ b ∷ rest → ⊥
        no_tail f = cc
    by false e = subst (SignCut (a ∷ [])) (sym (cond_false (is_short_sign a) 1 0 e)) (no_sign a [] other e (λ b rest f. absurd cc))
sign_cut a (b ∷ bytes) other = subst (SignCut (a ∷ b ∷ bytes)) (sym (sign_len-two a b bytes)) (long (is_long_sign (a ∷ b ∷ [])) refl)
  where
    short : (c : Bool) → is_long_sign (a ∷ b ∷ []) ≡ false → is_short_sign a ≡ c → SignCut (a ∷ b ∷ bytes) (cond (is_short_sign a) 1 0)
    short true f e =
        subst (SignCut (a ∷ b ∷ bytes)) (sym (cond_true (is_short_sign a) 1 0 e)) (
          a ∷ [],
          b ∷ bytes,
          refl,
          refl,
          inl (a, e, refl),
          sign_longest a (a ∷ []) (b ∷ bytes) other
              (λ d rest g is. let never : true ≡ false = sym is ∙ ap (λ x. is_long_sign (a ∷ x ∷ [])) (heads (tails (sym g)))
              ∙ f in absurd cc)
              (omega arith) (b ∷ bytes) refl,
        )
    short false f e =
        subst (SignCut (a ∷ b ∷ bytes)) (sym (cond_false (is_short_sign a) 1 0 e))
        (no_sign a (b ∷ bytes) other e (λ d rest g. ap (λ x. is_long_sign (a ∷ x ∷ [])) (heads (sym g)) ∙ f))

    long : (c : Bool) → is_long_sign (a ∷ b ∷ []) ≡ c
        → SignCut (a ∷ b ∷ bytes) (cond (is_long_sign (a ∷ b ∷ [])) 2 (cond (is_short_sign a) 1 0))
    long true e =
        subst (SignCut (a ∷ b ∷ bytes)) (sym (cond_true (is_long_sign (a ∷ b ∷ [])) 2 (cond (is_short_sign a) 1 0) e)) (
          a ∷ b ∷ [],
          bytes,
          refl,
          refl,
          inr (e),
          sign_longest a (a ∷ b ∷ []) bytes other (λ d rest f is. omega arith) (omega arith)
              (b ∷ bytes) refl,
        )
    long false e =
        subst (SignCut (a ∷ b ∷ bytes)) (sym (cond_false (is_long_sign (a ∷ b ∷ [])) 2 (cond (is_short_sign a) 1 0) e))
        (short (is_short_sign a) e refl)

-- two longest lexemes of one text are the same
pub same_longest : (word behind other after : List ℕ) → IsLexeme word → IsLexeme other → IsLongest word behind → IsLongest other after
    → word ++ behind ≡ other ++ after → (word ≡ other) × (behind ≡ after)
same_longest word behind other after is are one two e =
    let low = one other after are e in
    let high = two word behind is (sym e) in
    let (mid, same, f) = shorter_first word behind other after high e in
    by mid same f low
  where
    by : (mid : List ℕ) → other ≡ word ++ mid → behind ≡ mid ++ after → length other ≤ length word → (word ≡ other) × (behind ≡ after)
    by [] same f low = (sym (append-nil word) ∙ sym same, f)
    by (m ∷ mid) same f low = let long = ap length same ∙ length-append word (m ∷ mid) in absurd (omega arith)

-- the sign that a text begins with is as long as the scan says
pub sign_scanned : (a : ℕ) (word behind : List ℕ) → is_name_byte a ≡ false → IsSign (a ∷ word) → IsLongest (a ∷ word) behind
    → sign_len (a ∷ (word ++ behind)) ≡ length (a ∷ word)
sign_scanned a word behind other is longest = by (sign_len (a ∷ (word ++ behind))) (sign_cut a (word ++ behind) other)
  where
    by : (n : ℕ) → SignCut (a ∷ (word ++ behind)) n → n ≡ length (a ∷ word)
    by zero cut = absurd (cut (a ∷ word) behind (IsLexeme.sign is) refl)
    by (suc n) (found, after, e, long, sign, first) =
        let same = same_longest (a ∷ word) behind found after (IsLexeme.sign is) (IsLexeme.sign sign) longest first e in
        sym long ∙ ap length (sym same.0)

pub no_sign_scanned : (a : ℕ) (bytes : List ℕ) → is_name_byte a ≡ false
    → ((word behind : List ℕ) → IsLexeme word → a ∷ bytes ≢ word ++ behind) → sign_len (a ∷ bytes) ≡ 0
no_sign_scanned a bytes other none = by (sign_len (a ∷ bytes)) (sign_cut a bytes other)
  where
    by : (n : ℕ) → SignCut (a ∷ bytes) n → n ≡ 0
    by zero cut = refl
    by (suc n) (found, after, e, long, sign, first) = absurd (none found after (IsLexeme.sign sign) e)

-- a lexeme is the longest where it goes on to no other
pub next_longest : (word : List ℕ) (c : ℕ) (rest : List ℕ) → IsLexeme word → ¬ IsLexeme (word ++ c ∷ []) → IsLongest word (c ∷ rest)
next_longest word c rest (IsLexeme.name is) never = by word is never
  where
    by : (word : List ℕ) → IsCName word → ¬ IsLexeme (word ++ c ∷ []) → IsLongest word (c ∷ rest)
    by [] is never = let some = is.some in absurd (omega arith)
    by (a ∷ word) is never =
        run_is_longest a word (c ∷ rest) (both_true (is_name_byte a) (list_all is_name_byte word) is.each).0 (stop (is_name_byte c) refl)
      where
        stop : (d : Bool) → is_name_byte c ≡ d → is_name_byte c ≡ false
        stop true e = absurd (never (IsLexeme.name (name_goes_on (a ∷ word) is c e)))
        stop false e = e
next_longest word c rest (IsLexeme.numeral is) never = by word is never
  where
    by : (word : List ℕ) → IsNumeral word → ¬ IsLexeme (word ++ c ∷ []) → IsLongest word (c ∷ rest)
    by [] is never = let some = is.some in absurd (omega arith)
    by (a ∷ word) is never =
        run_is_longest a word (c ∷ rest) (both_true (is_name_byte a) (list_all is_name_byte word) is.each).0 (stop (is_name_byte c) refl)
      where
        stop : (d : Bool) → is_name_byte c ≡ d → is_name_byte c ≡ false
        stop true e = absurd (never (IsLexeme.numeral (numeral_goes_on (a ∷ word) is c e)))
        stop false e = e
next_longest word c rest (IsLexeme.sign (inl (byte, is, same))) never =
    subst (λ w. IsLongest w (c ∷ rest)) (sym same)
    (sign_longest byte (byte ∷ []) (c ∷ rest) (short_start byte is).other two (omega arith) (c ∷ rest) refl)
  where
    two : (b : ℕ) (more : List ℕ) → byte ∷ c ∷ rest ≡ byte ∷ b ∷ more → is_long_sign (byte ∷ b ∷ []) ≡ true → 2 ≤ 1
    two b more e long =
        absurd (never
        (subst (λ w. IsLexeme (w ++ c ∷ [])) (sym same)
        (subst (λ x. IsLexeme (byte ∷ x ∷ [])) (heads (sym (tails e))) (IsLexeme.sign (inr long)))))
next_longest word c rest (IsLexeme.sign (inr is)) never =
    let two = long_two word is in
    subst (λ w. IsLongest w (c ∷ rest)) (sym two.is)
    (sign_longest two.first (two.first ∷ two.second ∷ []) (c ∷ rest) two.start.other (λ b more e long. omega arith) (omega arith)
    (two.second ∷ c ∷ rest) refl)

-- a longest lexeme goes on to no other
pub longest_never : (word : List ℕ) (c : ℕ) (rest : List ℕ) → IsLongest word (c ∷ rest) → ¬ IsLexeme (word ++ c ∷ [])
longest_never word c rest longest is =
    let long = longest (word ++ c ∷ []) rest is (sym (append_assoc word (c ∷ []) rest)) in
    let more = length-append word (c ∷ []) in omega arith

-- a byte that is no part of a name and no second byte of a sign ends each lexeme
pub gap_never : (word : List ℕ) (g : ℕ) → 0 < length word → is_name_byte g ≡ false → ((a : ℕ) → is_long_sign (a ∷ g ∷ []) ≡ false)
    → ¬ IsLexeme (word ++ g ∷ [])
gap_never word g some other second is = by (word ++ g ∷ []) refl (shape (word ++ g ∷ []) is)
  where
    two : (word : List ℕ) (a b : ℕ) → 0 < length word → word ++ g ∷ [] ≡ a ∷ b ∷ [] → g ≡ b
    two [] a b some e = absurd (omega arith)
    two (x ∷ []) a b some e = heads (tails e)
    two (x ∷ y ∷ word) a b some e = let long = ap length e ∙ refl in let more = length-append word (g ∷ []) in absurd (omega arith)

    by : (whole : List ℕ) → word ++ g ∷ [] ≡ whole → Shape whole → ⊥
    by _ e (Shape.of_run b others named each) =
        let never : true ≡ false = sym (in_all is_name_byte word g [] (ap (list_all is_name_byte) e ∙ each)) ∙ other in absurd cc
    by _ e (Shape.of_short b is) = let long = ap length e in let more = length-append word (g ∷ []) in omega arith
    by _ e (Shape.of_long a b is start) =
        let same = two word a b some e in
        let never : true ≡ false = sym (subst (λ x. is_long_sign (a ∷ x ∷ []) ≡ true) (sym same) is) ∙ second a in absurd cc
