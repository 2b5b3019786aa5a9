-- The token that a text begins with, where no blank, comment or directive stands.
use Rattle.std.proofs.Common.{◌≡◌, ◌≢◌, ℕ, zero, suc, ◌<◌, ◌≤◌, Bool, true, false, cond, List, [], ◌∷◌, ◌++◌, length, inl, inr, ◌⊎◌, refl}
use Rattle.std.proofs.Common.{sym, ap, ◌∙◌, subst, arith}
use Rattle.std.specs.Prelude.{◌==◌, ◌&&◌, ◌||◌, not, nat_le, slice_index}
use Rattle.std.specs.List.{list_all}
use Rattle.std.specs.Char.{is_ascii_digit}
use Rattle.std.specs.Fmt.{decimal}
use Rattle.std.specs.Str.Parse.{AllDigits, digits_value}
use Rattle.std.proofs.lemmas.Bool.{eqb-true, cases_lt}
use Rattle.std.proofs.lemmas.Bool.Decides.{nat_tests}
use Rattle.std.proofs.lemmas.List.{take_at}
use Rattle.std.proofs.lemmas.Str.Parse.{digit_from_value}
use Rattle.std.proofs.lemmas.Fmt.{decimal_is_IsNumeral, length-decimal-le, first_decimal, decimal_digit, decimal-digits_value}
use Rattle.shape_data.specs.Names.{is_name_start, is_name_byte, IsCName}
use Rattle.c_grammar.specs.declared.tokens.places.Place.{Place}
use Rattle.c_grammar.specs.declared.tokens.places.Refusal.{Refusal}
use Rattle.c_grammar.specs.declared.tokens.pieces.Piece.{Piece}
use Rattle.c_grammar.specs.declared.tokens.pieces.Piece.TheVariants.{Passed, Lexed, Refused as Bad}
use Rattle.c_grammar.specs.declared.tokens.token.TokenKind.{TokenKind}
use Rattle.c_grammar.specs.declared.tokens.token.TokenKind.TheVariants.{Word, Key, Number, Sign, End}
use Rattle.c_grammar.specs.Tokens.Places.{refusal}
use Rattle.c_grammar.specs.Tokens.Words.{reserved, is_reserved, is_plain, is_number, sign_len}
use Rattle.c_grammar.specs.Tokens.Lexemes.{IsNumeral, IsSign, IsLexeme, IsLongest, IsToken}
use Rattle.c_grammar.specs.Tokens.Grammar.{BeginsWith}
use Rattle.c_grammar.specs.Tokens.Pieces.{name_piece, number_piece, sign_piece, token_piece}
use Rattle.c_grammar.proofs.TokensLemmas.Booleans.{both_true, true_both, cond_true, cond_false}
use Rattle.c_grammar.proofs.TokensLemmas.Digits.{own, all_digits}
use Rattle.c_grammar.proofs.TokensLemmas.LexemeLemmas.{
  Stops,
  run_of,
  run_len,
  run_is_longest,
  longest_stops,
  name_goes_on,
  numeral_goes_on,
  found_in,
}
use Rattle.c_grammar.proofs.TokensLemmas.LexemeLemmas.{SignCut, sign_cut, sign_scanned, no_sign_scanned, short_start, long_two}

-- ---- numbers

first_or : (c d : Bool) → (not c || d) ≡ true → c ≡ true → d ≡ true
first_or true d e f = e
first_or false d e f = absurd cc

or_first : (c d : Bool) → (c ≡ true → d ≡ true) → (not c || d) ≡ true
or_first true d f = f refl
or_first false d f = refl

at_most : (m n : ℕ) → nat_le m n ≡ true → m ≤ n
at_most m n e = grind (arith, nat_tests)

is_at_most : (m n : ℕ) → m ≤ n → nat_le m n ≡ true
is_at_most m n e = grind (arith, nat_tests)

is_more : (m n : ℕ) → n < m → nat_le m n ≡ false
is_more m n e = grind (arith, nat_tests)

equal_is : (m n : ℕ) → m ≡ n → (m == n) ≡ true
equal_is m n e = grind (arith, nat_tests)

not_zero : (n : ℕ) → (suc n == 0) ≡ false
not_zero n = grind (arith, nat_tests)

-- a number that the test lets through is a plain decimal
pub number_token : (word : List ℕ) → 0 < length word → is_number word ≡ true → IsToken Number word
number_token word some e =
    let (plain, small) = both_true (is_plain word) (nat_le (digits_value 10 word) 2147483647) e in
    let (short, rest) =
    both_true (nat_le (length word) 10) (list_all is_ascii_digit word && (not (slice_index word 0 == 48) || length word == 1)) plain in
    let (digits, first) = both_true (list_all is_ascii_digit word) (not (slice_index word 0 == 48) || length word == 1) rest in
    let value : digits_value 10 word ≤ 2147483647 = at_most _ _ small in (
      digits_value 10 word,
      value,
      sym (decimal-digits_value own word (all_digits word digits) some
          (λ zero_first. eqb-true (length word) 1
          (first_or (slice_index word 0 == 48) (length word == 1) first (equal_is (slice_index word 0) 48 zero_first))) (omega arith)),
    )

are_digits : (ds : List ℕ) → AllDigits 10 ds → list_all is_ascii_digit ds ≡ true
are_digits [] digits = refl
are_digits (d ∷ ds) digits =
    let range = digit_from_value d digits.0 in
    let first : is_ascii_digit d ≡ true = grind (arith, nat_tests) in
    true_both (is_ascii_digit d) (list_all is_ascii_digit ds) first (are_digits ds digits.1)

-- the text of a number
pub record IsDecimal (word : List ℕ) : Type 0 where
  pub some : 0 < length word
  pub digits : list_all is_ascii_digit word ≡ true
  pub number : is_number word ≡ true

decimal_test : (n : ℕ) → n ≤ 2147483647 → IsDecimal (decimal n)
decimal_test n small =
    let numeral = decimal_is_IsNumeral n (omega arith) in
    let digits = are_digits (decimal n) numeral.0.1 in
    let short : length (decimal n) ≤ 10 = length-decimal-le 10 n (omega arith) (omega arith) (omega arith) in
    let value : digits_value 10 (decimal n) ≤ 2147483647 = omega (arith, numeral.1) in
    let first =
    or_first (slice_index (decimal n) 0 == 48) (length (decimal n) == 1)
    (λ e. equal_is _ _ (first_of n small (eqb-true (slice_index (decimal n) 0) 48 e))) in
    record {
      some = numeral.0.0;
      digits = digits;
      number =
          true_both (is_plain (decimal n)) (nat_le (digits_value 10 (decimal n)) 2147483647)
          (true_both (nat_le (length (decimal n)) 10) _ (is_at_most _ _ short)
          (true_both (list_all is_ascii_digit (decimal n)) _ digits first)) (is_at_most _ _ value);
    }
  where
    first_of : (n : ℕ) → n ≤ 2147483647 → slice_index (decimal n) 0 ≡ 48 → length (decimal n) ≡ 1
    first_of zero small e = ap length (decimal_digit 0 (omega arith))
    first_of (suc n) small e =
        let large = first_decimal (suc n) (omega arith) (omega arith) in
        absurd (omega arith)

pub token_decimal : (word : List ℕ) → IsToken Number word → IsDecimal word
token_decimal word (n, small, is) = subst IsDecimal (sym is) (decimal_test n small)

digit_in_name : (a : ℕ) → is_ascii_digit a ≡ true → is_name_byte a ≡ true
digit_in_name a e = grind (arith, nat_tests)

digits_in_name : (ds : List ℕ) → list_all is_ascii_digit ds ≡ true → list_all is_name_byte ds ≡ true
digits_in_name [] e = refl
digits_in_name (d ∷ ds) e =
    let (first, rest) = both_true (is_ascii_digit d) (list_all is_ascii_digit ds) e in
    true_both (is_name_byte d) (list_all is_name_byte ds) (digit_in_name d first) (digits_in_name ds rest)

pub token_numeral : (word : List ℕ) → IsToken Number word → IsNumeral word
token_numeral word is = by word (token_decimal word is)
  where
    by : (word : List ℕ) → IsDecimal word → IsNumeral word
    by [] decimal = let some = decimal.some in absurd (omega arith)
    by (d ∷ word) decimal = record {
      some = decimal.some;
      first = (both_true (is_ascii_digit d) (list_all is_ascii_digit word) decimal.digits).0;
      each = digits_in_name (d ∷ word) decimal.digits;
    }

-- ---- reserved words

abbrev is_reserved_shape : List ℕ → Bool
is_reserved_shape word =
    nat_le 1 (length word) && (is_name_start (slice_index word 0) && (list_all is_name_byte word && nat_le (length word) 64))

reserved_shapes : list_all is_reserved_shape reserved ≡ true
reserved_shapes = refl

pub record IsShortName (word : List ℕ) : Type 0 where
  pub name : IsCName word
  pub short : length word ≤ 64

pub reserved_name : (word : List ℕ) → is_reserved word ≡ true → IsShortName word
unfolding is_reserved
reserved_name word e =
    let (some, others) =
    both_true (nat_le 1 (length word)) (is_name_start (slice_index word 0) && (list_all is_name_byte word && nat_le (length word) 64))
    (found_in is_reserved_shape reserved word e reserved_shapes) in
    let (first, rest) = both_true (is_name_start (slice_index word 0)) (list_all is_name_byte word && nat_le (length word) 64) others in
    let (each, short) = both_true (list_all is_name_byte word) (nat_le (length word) 64) rest in
    let one = at_most 1 (length word) some in
    record { name = record { some = omega arith; first = first; each = each }; short = at_most _ _ short }

-- ---- what the scan finds

start_in_name : (a : ℕ) → is_name_start a ≡ true → is_name_byte a ≡ true
start_in_name a e = ap (λ t. t || is_ascii_digit a) e

digit_no_start : (a : ℕ) → is_ascii_digit a ≡ true → is_name_start a ≡ false
digit_no_start a e = grind (arith, nat_tests)

-- a run that a letter or an underscore begins
name_is : (here : Place) (a : ℕ) (word rest : List ℕ) → is_name_start a ≡ true → list_all is_name_byte (a ∷ word) ≡ true → Stops rest
    → token_piece here (a ∷ (word ++ rest))
    ≡ cond (nat_le (length (a ∷ word)) 64) (cond (is_reserved (a ∷ word)) (Lexed Key (length (a ∷ word))) (Lexed Word (length (a ∷ word))))
    (Bad (refusal here 105))
name_is here a word rest starts each stops =
    cond_true (is_name_start a) _ _ starts
    ∙ ap (name_piece here (a ∷ (word ++ rest))) (run_len (a ∷ word) rest each stops)
    ∙ ap (λ w. cond (nat_le (length (a ∷ word)) 64) (cond (is_reserved w) (Lexed Key (length (a ∷ word))) (Lexed Word (length (a ∷ word))))
    (Bad (refusal here 105))) (take_at (a ∷ word) rest (length (a ∷ word)) refl)

-- a run that a digit begins
number_is : (here : Place) (a : ℕ) (word rest : List ℕ) → is_ascii_digit a ≡ true → list_all is_name_byte (a ∷ word) ≡ true → Stops rest
    → token_piece here (a ∷ (word ++ rest)) ≡ cond (is_number (a ∷ word)) (Lexed Number (length (a ∷ word))) (Bad (refusal here 103))
number_is here a word rest digit each stops =
    cond_false (is_name_start a) _ _ (digit_no_start a digit)
    ∙ cond_true (is_ascii_digit a) _ _ digit
    ∙ ap (number_piece here (a ∷ (word ++ rest))) (run_len (a ∷ word) rest each stops)
    ∙ ap (λ w. cond (is_number w) (Lexed Number (length (a ∷ word))) (Bad (refusal here 103)))
    (take_at (a ∷ word) rest (length (a ∷ word)) refl)

no_or : (c d : Bool) → (c || d) ≡ false → (c ≡ false) × (d ≡ false)
no_or true d e = absurd cc
no_or false d e = (refl, e)

sign_is : (here : Place) (a : ℕ) (bytes : List ℕ) → is_name_byte a ≡ false
    → token_piece here (a ∷ bytes) ≡ sign_piece here (sign_len (a ∷ bytes))
sign_is here a bytes other =
    let (start, digit) = no_or (is_name_start a) (is_ascii_digit a) other in
    cond_false (is_name_start a) _ _ start ∙ cond_false (is_ascii_digit a) _ _ digit

-- why no token stands
pub data NoTokenAt (here : Place) (bytes : List ℕ) : Refusal → Type 0 where
  no_lexeme : ((word behind : List ℕ) → IsLexeme word → bytes ≢ word ++ behind) → NoTokenAt here bytes (refusal here 101)
  bad_number : (word : List ℕ) → IsNumeral word → BeginsWith word bytes → ¬ IsToken Number word → NoTokenAt here bytes (refusal here 103)
  long : (word : List ℕ) → IsCName word → BeginsWith word bytes → 64 < length word → NoTokenAt here bytes (refusal here 105)

-- what the scan of a token tells
abbrev pub TokenCut : Place → List ℕ → Piece → Type 0
TokenCut here bytes (Passed n part) = ⊥
TokenCut here bytes (Lexed kind n) =
    (word behind : List ℕ) × (bytes ≡ word ++ behind) × (n ≡ length word) × IsToken kind word × IsLongest word behind
TokenCut here bytes (Bad refusal) = NoTokenAt here bytes refusal

name_cut : (here : Place) (a : ℕ) (word rest : List ℕ) → is_name_start a ≡ true → list_all is_name_byte (a ∷ word) ≡ true → Stops rest
    → TokenCut here (a ∷ (word ++ rest)) (token_piece here (a ∷ (word ++ rest)))
name_cut here a word rest starts each stops =
    subst (TokenCut here (a ∷ (word ++ rest))) (sym (name_is here a word rest starts each stops)) (by (cases_lt 64 (length (a ∷ word))))
  where
    name : IsCName (a ∷ word)
    name = record { some = omega arith; first = starts; each = each }

    longest : IsLongest (a ∷ word) rest
    longest = run_is_longest a word rest (start_in_name a starts) stops

    kind : (c : Bool) → length (a ∷ word) ≤ 64 → is_reserved (a ∷ word) ≡ c
        → TokenCut here (a ∷ (word ++ rest))
        (cond (is_reserved (a ∷ word)) (Lexed Key (length (a ∷ word))) (Lexed Word (length (a ∷ word))))
    kind true low e =
        subst (TokenCut here (a ∷ (word ++ rest)))
        (sym (cond_true (is_reserved (a ∷ word)) (Lexed Key (length (a ∷ word))) (Lexed Word (length (a ∷ word))) e))
        (a ∷ word, rest, refl, refl, e, longest)
    kind false low e =
        subst (TokenCut here (a ∷ (word ++ rest)))
        (sym (cond_false (is_reserved (a ∷ word)) (Lexed Key (length (a ∷ word))) (Lexed Word (length (a ∷ word))) e))
        (a ∷ word, rest, refl, refl, (name, low, e), longest)

    by : (64 < length (a ∷ word)) ⊎ (length (a ∷ word) ≤ 64)
        → TokenCut here (a ∷ (word ++ rest))
        (cond (nat_le (length (a ∷ word)) 64)
        (cond (is_reserved (a ∷ word)) (Lexed Key (length (a ∷ word))) (Lexed Word (length (a ∷ word))))
        (Bad (refusal here 105)))
    by (inl high) =
        subst (TokenCut here (a ∷ (word ++ rest)))
        (sym (cond_false (nat_le (length (a ∷ word)) 64)
        (cond (is_reserved (a ∷ word)) (Lexed Key (length (a ∷ word))) (Lexed Word (length (a ∷ word)))) (Bad (refusal here 105))
        (is_more (length (a ∷ word)) 64 high))) (NoTokenAt.long (a ∷ word) name (rest, longest, refl) high)
    by (inr low) =
        subst (TokenCut here (a ∷ (word ++ rest)))
        (sym (cond_true (nat_le (length (a ∷ word)) 64)
        (cond (is_reserved (a ∷ word)) (Lexed Key (length (a ∷ word))) (Lexed Word (length (a ∷ word)))) (Bad (refusal here 105))
        (is_at_most (length (a ∷ word)) 64 low))) (kind (is_reserved (a ∷ word)) low refl)

number_cut : (here : Place) (a : ℕ) (word rest : List ℕ) → is_ascii_digit a ≡ true → list_all is_name_byte (a ∷ word) ≡ true → Stops rest
    → TokenCut here (a ∷ (word ++ rest)) (token_piece here (a ∷ (word ++ rest)))
number_cut here a word rest digit each stops =
    subst (TokenCut here (a ∷ (word ++ rest))) (sym (number_is here a word rest digit each stops)) (by (is_number (a ∷ word)) refl)
  where
    longest : IsLongest (a ∷ word) rest
    longest = run_is_longest a word rest (digit_in_name a digit) stops

    by : (c : Bool) → is_number (a ∷ word) ≡ c
        → TokenCut here (a ∷ (word ++ rest)) (cond (is_number (a ∷ word)) (Lexed Number (length (a ∷ word))) (Bad (refusal here 103)))
    by true e =
        subst (TokenCut here (a ∷ (word ++ rest)))
        (sym (cond_true (is_number (a ∷ word)) (Lexed Number (length (a ∷ word))) (Bad (refusal here 103)) e))
        (a ∷ word, rest, refl, refl, number_token (a ∷ word) (omega arith) e, longest)
    by false e =
        subst (TokenCut here (a ∷ (word ++ rest)))
        (sym (cond_false (is_number (a ∷ word)) (Lexed Number (length (a ∷ word))) (Bad (refusal here 103)) e))
        (NoTokenAt.bad_number (a ∷ word) (record { some = omega arith; first = digit; each = each }) (rest, longest, refl)
        (λ is. let never : true ≡ false = sym (token_decimal (a ∷ word) is).number ∙ e in absurd cc))

sign_cut_at : (here : Place) (a : ℕ) (bytes : List ℕ) → is_name_byte a ≡ false → TokenCut here (a ∷ bytes) (token_piece here (a ∷ bytes))
sign_cut_at here a bytes other =
    subst (TokenCut here (a ∷ bytes)) (sym (sign_is here a bytes other)) (by (sign_len (a ∷ bytes)) (sign_cut a bytes other))
  where
    by : (n : ℕ) → SignCut (a ∷ bytes) n → TokenCut here (a ∷ bytes) (sign_piece here n)
    by zero cut = NoTokenAt.no_lexeme cut
    by (suc n) (word, behind, e, count, sign, longest) =
        subst (TokenCut here (a ∷ bytes)) (sym (cond_false (suc n == 0) (Bad (refusal here 101)) (Lexed Sign (suc n)) (not_zero n)))
        (word, behind, e, sym count, sign, longest)

-- the scan of a token, whatever stands there
pub token_cut : (here : Place) (a : ℕ) (bytes : List ℕ) → TokenCut here (a ∷ bytes) (token_piece here (a ∷ bytes))
token_cut here a bytes = by (is_name_start a) refl
  where
    run : (is_name_start a ≡ true) ⊎ (is_ascii_digit a ≡ true) → TokenCut here (a ∷ bytes) (token_piece here (a ∷ bytes))
    run (inl e) =
        let found = run_of bytes in
        subst (λ l. TokenCut here (a ∷ l) (token_piece here (a ∷ l))) (sym found.is)
        (name_cut here a found.word found.rest e
        (true_both (is_name_byte a) (list_all is_name_byte found.word) (start_in_name a e) found.each) found.stops)
    run (inr e) =
        let found = run_of bytes in
        subst (λ l. TokenCut here (a ∷ l) (token_piece here (a ∷ l))) (sym found.is)
        (number_cut here a found.word found.rest e
        (true_both (is_name_byte a) (list_all is_name_byte found.word) (digit_in_name a e) found.each) found.stops)

    digit : (c : Bool) → is_name_start a ≡ false → is_ascii_digit a ≡ c → TokenCut here (a ∷ bytes) (token_piece here (a ∷ bytes))
    digit true s e = run (inr e)
    digit false s e = sign_cut_at here a bytes (ap (λ t. t || is_ascii_digit a) s ∙ e)

    by : (c : Bool) → is_name_start a ≡ c → TokenCut here (a ∷ bytes) (token_piece here (a ∷ bytes))
    by true e = run (inl e)
    by false e = digit (is_ascii_digit a) e refl

-- ---- what the scan finds where a token is known

pub name_found : (here : Place) (word rest : List ℕ) → IsCName word → IsLongest word rest
    → token_piece here (word ++ rest)
    ≡ cond (nat_le (length word) 64) (cond (is_reserved word) (Lexed Key (length word)) (Lexed Word (length word))) (Bad (refusal here 105))
name_found here [] rest is longest = let some = is.some in absurd (omega arith)
name_found here (a ∷ word) rest is longest =
    name_is here a word rest is.first is.each
    (longest_stops (a ∷ word) rest (λ b named. IsLexeme.name (name_goes_on (a ∷ word) is b named)) longest)

pub numeral_found : (here : Place) (word rest : List ℕ) → IsNumeral word → IsLongest word rest
    → token_piece here (word ++ rest) ≡ cond (is_number word) (Lexed Number (length word)) (Bad (refusal here 103))
numeral_found here [] rest is longest = let some = is.some in absurd (omega arith)
numeral_found here (a ∷ word) rest is longest =
    number_is here a word rest is.first is.each
    (longest_stops (a ∷ word) rest (λ b named. IsLexeme.numeral (numeral_goes_on (a ∷ word) is b named)) longest)

sign_found : (here : Place) (word rest : List ℕ) → IsSign word → IsLongest word rest
    → token_piece here (word ++ rest) ≡ Lexed Sign (length word)
sign_found here [] rest (inl (byte, is, same)) longest = absurd cc
sign_found here [] rest (inr is) longest = let two = ap length (long_two [] is).is in absurd (omega arith)
sign_found here (a ∷ word) rest is longest =
    let other = start is in
    sign_is here a (word ++ rest) other
    ∙ ap (sign_piece here) (sign_scanned a word rest other is longest)
    ∙ cond_false (length (a ∷ word) == 0) (Bad (refusal here 101)) (Lexed Sign (length (a ∷ word))) (not_zero (length word))
  where
    heads_of : {xs ys : List ℕ} {b : ℕ} → a ∷ xs ≡ b ∷ ys → b ≡ a
    heads_of e = cc

    start : IsSign (a ∷ word) → is_name_byte a ≡ false
    start (inl (byte, is, same)) = subst (λ x. is_name_byte x ≡ false) (heads_of same) (short_start byte is).other
    start (inr is) = let two = long_two (a ∷ word) is in subst (λ x. is_name_byte x ≡ false) (heads_of two.is) two.start.other

-- a token that is the longest is what the scan finds
pub token_found : (here : Place) (kind : TokenKind) (word rest : List ℕ) → IsToken kind word → IsLongest word rest
    → token_piece here (word ++ rest) ≡ Lexed kind (length word)
token_found here Word word rest (is, short, other) longest =
    name_found here word rest is longest
    ∙ cond_true (nat_le (length word) 64) _ _ (is_at_most (length word) 64 short)
    ∙ cond_false (is_reserved word) _ _ other
token_found here Key word rest is longest =
    let name = reserved_name word is in
    name_found here word rest name.name longest
    ∙ cond_true (nat_le (length word) 64) _ _ (is_at_most (length word) 64 name.short)
    ∙ cond_true (is_reserved word) _ _ is
token_found here Number word rest is longest =
    numeral_found here word rest (token_numeral word is) longest ∙ cond_true (is_number word) _ _ (token_decimal word is).number
token_found here Sign word rest is longest = sign_found here word rest is longest
token_found here End word rest is longest = absurd is

-- each token is a lexeme
pub token_lexeme : (kind : TokenKind) (word : List ℕ) → IsToken kind word → IsLexeme word
token_lexeme Word word is = IsLexeme.name is.0
token_lexeme Key word is = IsLexeme.name (reserved_name word is).name
token_lexeme Number word is = IsLexeme.numeral (token_numeral word is)
token_lexeme Sign word is = IsLexeme.sign is
token_lexeme End word is = absurd is

-- where no token stands, the scan says why
pub no_token_found : (here : Place) (a : ℕ) (bytes : List ℕ) → ((word behind : List ℕ) → IsLexeme word → a ∷ bytes ≢ word ++ behind)
    → token_piece here (a ∷ bytes) ≡ Bad (refusal here 101)
no_token_found here a bytes none = by (is_name_start a) refl
  where
    sign : is_name_byte a ≡ false → token_piece here (a ∷ bytes) ≡ Bad (refusal here 101)
    sign other = sign_is here a bytes other ∙ ap (sign_piece here) (no_sign_scanned a bytes other none)

    digit : (c : Bool) → is_name_start a ≡ false → is_ascii_digit a ≡ c → token_piece here (a ∷ bytes) ≡ Bad (refusal here 101)
    digit true s e =
        absurd (none (a ∷ []) bytes
        (IsLexeme.numeral (record { some = omega arith; first = e; each = true_both (is_name_byte a) true (digit_in_name a e) refl })) refl)
    digit false s e = sign (ap (λ t. t || is_ascii_digit a) s ∙ e)

    by : (c : Bool) → is_name_start a ≡ c → token_piece here (a ∷ bytes) ≡ Bad (refusal here 101)
    by true e =
        absurd (none (a ∷ []) bytes
        (IsLexeme.name (record { some = omega arith; first = e; each = true_both (is_name_byte a) true (start_in_name a e) refl })) refl)
    by false e = digit (is_ascii_digit a) e refl

pub bad_number_found : (here : Place) (word rest : List ℕ) → IsNumeral word → IsLongest word rest → ¬ IsToken Number word
    → token_piece here (word ++ rest) ≡ Bad (refusal here 103)
bad_number_found here word rest is longest bad =
    numeral_found here word rest is longest ∙ cond_false (is_number word) _ _ (test (is_number word) refl)
  where
    test : (c : Bool) → is_number word ≡ c → is_number word ≡ false
    test true e = absurd (bad (number_token word is.some e))
    test false e = e

pub long_found : (here : Place) (word rest : List ℕ) → IsCName word → IsLongest word rest → 64 < length word
    → token_piece here (word ++ rest) ≡ Bad (refusal here 105)
long_found here word rest is longest high =
    name_found here word rest is longest ∙ cond_false (nat_le (length word) 64) _ _ (is_more (length word) 64 high)
