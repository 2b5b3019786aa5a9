-- Digits that the code tests, and the number that they write.
use Rattle.std.proofs.Common.{◌≡◌, ℕ, zero, suc, ◌+◌, ◌*◌, ◌-◌, ◌^◌, ◌<◌, ◌≤◌, true, List, [], ◌∷◌, length, take, length-take-le, get_or}
use Rattle.std.proofs.Common.{arith}
use Rattle.std.specs.Prelude.{◌&&◌, ◌||◌, ◌==◌, not, nat_le, slice_index}
use Rattle.std.specs.Char.{is_ascii_digit, digit_value}
use Rattle.std.specs.List.{list_all}
use Rattle.std.specs.Str.Parse.{AllDigits, digits_value}
use Rattle.std.proofs.lemmas.Bool.Decides.{nat_tests}
use Rattle.std.proofs.lemmas.Str.Parse.{IsNumeralModel, numerals_by_value, tells_digits, digits_value_short, digit_at}
use Rattle.std.proofs.lemmas.Int.Digits.{digits_value_more}
use Rattle.std.proofs.lemmas.Str.{digit_value_digit}
use Rattle.c_grammar.specs.Tokens.Words.{is_plain}
use Rattle.c_grammar.proofs.TokensLemmas.Booleans.{both_true}

pub own : IsNumeralModel (AllDigits 10) (digits_value 10)
own = numerals_by_value (AllDigits 10) tells_digits

-- ten digits write less than ten to the tenth
pub ten_digits : (ds : List ℕ) → AllDigits 10 ds → length ds ≤ 10 → digits_value 10 ds < 10 ^ 10
ten_digits ds digits short = digits_value_short own ds 10 digits short

-- an ASCII digit has its value
pub ascii_digit : (b : ℕ) → is_ascii_digit b ≡ true → (48 ≤ b) × (b ≤ 57) × (digit_value b ≡ b - 48) × (digit_value b < 10)
ascii_digit b e =
    let low : 48 ≤ b = grind (arith, nat_tests) in
    let high : b ≤ 57 = grind (arith, nat_tests) in
    let value : digit_value b ≡ b - 48 = grind (arith, nat_tests) in
    (low, high, value, omega arith)

-- the test of each byte
pub all_digits : (ds : List ℕ) → list_all is_ascii_digit ds ≡ true → AllDigits 10 ds
all_digits [] e = tt
all_digits (d ∷ ds) e =
    let parts = both_true (is_ascii_digit d) (list_all is_ascii_digit ds) e in
    ((ascii_digit d parts.0).3, all_digits ds parts.1)

-- of a plain word each byte is a digit
pub plain_digits : (word : List ℕ) → is_plain word ≡ true → AllDigits 10 word
plain_digits word e =
    let parts =
    both_true (nat_le (length word) 10) (list_all is_ascii_digit word && (not (slice_index word 0 == 48) || length word == 1)) e in
    let digits = both_true (list_all is_ascii_digit word) (not (slice_index word 0 == 48) || length word == 1) parts.1 in
    all_digits word digits.0

-- the first of digits are digits
pub digits_front : (n : ℕ) (ds : List ℕ) → AllDigits 10 ds → AllDigits 10 (take n ds)
digits_front zero ds digits = tt
digits_front (suc n) [] digits = tt
digits_front (suc n) (d ∷ ds) digits = (digits.0, digits_front n ds digits.1)

-- what the digits so far write
pub front_value : (word : List ℕ) (i value : ℕ) → AllDigits 10 word → value ≡ digits_value 10 (take i word) → i < length word
    → length word ≤ 10 → value < 10 ^ 10
front_value word i value digits is within short =
    let front = length-take-le i word (omega arith) in
    let bound = ten_digits (take i word) (digits_front i word digits) (omega arith) in
    omega arith

-- one more digit
pub next_digit : (word : List ℕ) (i : ℕ) → AllDigits 10 word → i < length word
    → (48 ≤ get_or word i 0) × (get_or word i 0 ≤ 57) × (get_or word i 0 - 48 ≡ digit_value (get_or word i 0))
next_digit word i digits within =
    let range = digit_at word i digits within in
    let value = digit_value_digit (get_or word i 0) range in
    (range.0, range.1, omega (arith, value))

pub next_value : (word : List ℕ) (i value digit : ℕ) → AllDigits 10 word → i < length word → value ≡ digits_value 10 (take i word)
    → digit ≡ get_or word i 0 - 48 → value * 10 + digit ≡ digits_value 10 (take (i + 1) word)
next_value word i value digit digits within is digit_is =
    let more = digits_value_more 10 word i within in
    let here = next_digit word i digits within in
    omega (arith, more, is, here.2, digit_is)
