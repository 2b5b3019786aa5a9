-- Expressions are read exactly.
use Rattle.std.proofs.Common.{◌≡◌, if◌then◌else◌, ℕ, suc, ◌+◌, ◌-◌, ◌%◌, ◌<◌, ◌≤◌, Bool, true, false, List, [], ◌∷◌, ◌++◌, length, get_or}
use Rattle.std.proofs.Common.{Some, pos, negsuc, refl, sym, ap, ◌∙◌, arith}
use Rattle.std.proofs.lemmas.Bool.Decides.{nat_tests}
use Rattle.std.proofs.lemmas.Fmt.{decimal_by_steps}
use Rattle.std.specs.Prelude.{nat_lt, codes, slice_index_or}
use Rattle.std.specs.Char.{is_ascii_digit}
use Rattle.std.specs.Fmt.{decimal}
use Rattle.shape_data.specs.declared.symbolic.Exp.{Exp}
use Rattle.shape_data.specs.declared.symbolic.Exp.TheVariants.{Var, Const}
use Rattle.shape_data.specs.Names.{is_name_start}
use Rattle.shape_data.specs.WellFormed.{IsExp}
use Rattle.sym_text.specs.declared.starts.Start.{Start}
use Rattle.sym_text.specs.declared.starts.Start.TheVariants as start
use Rattle.sym_text.specs.Grammar.{written, IsInt}
use Rattle.sym_text.specs.Outcome.{◌>>=◌, give, never, first, by_first}
use Rattle.sym_text.specs.Reading.{place_of, read_number, read_word, start_of, exp_by, read_exp}
use Rattle.sym_text.specs.Text.{exp_text, variable_text}
use Rattle.sym_text.proofs.Exactly.{Language, Reads, Anything, Behind, Under, behind-Reads, under-Reads, never-Reads, from-Reads}
use Rattle.sym_text.proofs.Exactly.{same-Reads, by_first-Reads}
use Rattle.sym_text.proofs.NameLaws.{AreCNames, Differ, are_names, member_c_name, first_letter, place_within, place_at, member_at}
use Rattle.sym_text.proofs.NumberLaws.{IsNumber, number-Reads}
use Rattle.sym_text.proofs.WordLaws.{IsWord, WordEnds, word-Reads}

-- few parameters with C names that differ
pub record GoodParams (params : List (List ℕ)) : Type 0 where
  pub few : length params ≤ 32768
  pub names : AreCNames params
  pub differ : Differ params

-- the texts of an expression
abbrev pub ExpText : List (List ℕ) → Language Exp
ExpText params exp text = IsExp written (length params) exp × IsInt exp × (text ≡ exp_text params exp)

-- the texts of an expression that begin so
abbrev pub ExpBy : List (List ℕ) → Start → Language Exp
ExpBy params start.Letter = Under (λ name. Var (place_of params name)) (IsWord params)
ExpBy params start.Digit = Under (λ n. Const (pos n)) (IsNumber 0 2147483647)
ExpBy params start.Dollar = Behind (codes "$") (Under (λ n. Var (length params + (n - 1))) (IsNumber 1 32768))
ExpBy params start.Question = Behind (codes "?") (Under (λ n. Var (65535 + n)) (IsNumber 1 32768))
ExpBy params start.Minus = Behind (codes "-") (Under (λ n. Const (negsuc (n - 1))) (IsNumber 1 2147483648))
ExpBy params start.Other = λ exp text. ⊥

one_number : (f : ℕ → Exp) (limit : ℕ) → 9 ≤ limit → (e : Exp) × (t : List ℕ) × Under f (IsNumber 1 limit) e t
one_number f limit some = (f 1, decimal 1, (1, refl, (omega arith, omega arith, refl)))

numbers : (f : ℕ → Exp) (least limit : ℕ) → least ≤ 1 → 9 ≤ limit → limit < 4294967296
    → Reads Anything (Under f (IsNumber least limit)) WordEnds (read_number least limit >>= λ n. give (f n))
numbers f least limit few some small =
    under-Reads Anything f (IsNumber least limit) WordEnds WordEnds (read_number least limit) (λ a byte so. so) (λ a byte so. so)
    (number-Reads least limit few some (omega arith))

pub exp_by-Reads : (params : List (List ℕ)) → GoodParams params → (k : Start) → Reads Anything (ExpBy params k) WordEnds (exp_by params k)
unfolding exp_by
exp_by-Reads params good start.Letter =
    under-Reads Anything (λ name. Var (place_of params name)) (IsWord params) WordEnds WordEnds (read_word params) (λ a byte so. so)
    (λ a byte so. so) (word-Reads params (are_names params good.names))
exp_by-Reads params good start.Digit = numbers (λ n. Const (pos n)) 0 2147483647 (omega arith) (omega arith) (omega arith)
exp_by-Reads params good start.Dollar =
    behind-Reads Anything (codes "$") (Under (λ n. Var (length params + (n - 1))) (IsNumber 1 32768)) WordEnds _
    (numbers (λ n. Var (length params + (n - 1))) 1 32768 (omega arith) (omega arith) (omega arith))
    (one_number (λ n. Var (length params + (n - 1))) 32768 (omega arith))
exp_by-Reads params good start.Question =
    behind-Reads Anything (codes "?") (Under (λ n. Var (65535 + n)) (IsNumber 1 32768)) WordEnds _
    (numbers (λ n. Var (65535 + n)) 1 32768 (omega arith) (omega arith) (omega arith))
    (one_number (λ n. Var (65535 + n)) 32768 (omega arith))
exp_by-Reads params good start.Minus =
    behind-Reads Anything (codes "-") (Under (λ n. Const (negsuc (n - 1))) (IsNumber 1 2147483648)) WordEnds _
    (numbers (λ n. Const (negsuc (n - 1))) 1 2147483648 (omega arith) (omega arith) (omega arith))
    (one_number (λ n. Const (negsuc (n - 1))) 2147483648 (omega arith))
exp_by-Reads params good start.Other = never-Reads Anything WordEnds

-- FIRST BYTES

digit_first : (n : ℕ) → n < 4294967296 → (byte : ℕ) × (rest : List ℕ) × (decimal n ≡ byte ∷ rest) × (is_ascii_digit byte ≡ true)
digit_first n small =
    decimal_by_steps (λ (n : ℕ) (ds : List ℕ). (byte : ℕ) × (rest : List ℕ) × (ds ≡ byte ∷ rest) × (is_ascii_digit byte ≡ true)) one more n
    (omega arith)
  where
    digit : (n : ℕ) → n < 10 → is_ascii_digit (48 + n) ≡ true
    digit n small = grind (arith, nat_tests)

    one : (n : ℕ) → n < 10 → (byte : ℕ) × (rest : List ℕ) × ((48 + n) ∷ [] ≡ byte ∷ rest) × (is_ascii_digit byte ≡ true)
    one n small = (48 + n, [], refl, digit n small)

    more : (n : ℕ) (ds : List ℕ) → 10 ≤ n → (byte : ℕ) × (rest : List ℕ) × (ds ≡ byte ∷ rest) × (is_ascii_digit byte ≡ true)
        → (byte : ℕ) × (rest : List ℕ) × (ds ++ ((48 + n % 10) ∷ []) ≡ byte ∷ rest) × (is_ascii_digit byte ≡ true)
    more n ds large (byte, rest, same, is) = (byte, rest ++ ((48 + n % 10) ∷ []), ap (λ t. t ++ ((48 + n % 10) ∷ [])) same, is)

start_letter : (byte : ℕ) → is_name_start byte ≡ true → start_of (Some byte) ≡ start.Letter
start_letter byte is = rw is refl

no_letter : (byte : ℕ) → is_ascii_digit byte ≡ true → is_name_start byte ≡ false
no_letter byte is = grind (arith, nat_tests)

start_digit : (byte : ℕ) → is_ascii_digit byte ≡ true → start_of (Some byte) ≡ start.Digit
start_digit byte is = rw (no_letter byte is, is) refl

pub exp_start : (params : List (List ℕ)) → GoodParams params → (k : Start) (exp : Exp) (piece beyond : List ℕ) → ExpBy params k exp piece
    → start_of (first (piece ++ beyond)) ≡ k
exp_start params good start.Letter exp piece beyond (name, same, is) =
    let (byte, rest, text, letter) = first_letter name (member_c_name name params good.names is.0) in
    ap (λ t. start_of (first (t ++ beyond))) (is.1 ∙ text) ∙ start_letter byte letter
exp_start params good start.Digit exp piece beyond (n, same, is) =
    let (byte, rest, text, digit) = digit_first n (omega arith) in
    ap (λ t. start_of (first (t ++ beyond))) (is.2 ∙ text) ∙ start_digit byte digit
exp_start params good start.Dollar exp piece beyond (rest, cut, is) = ap (λ t. start_of (first (t ++ beyond))) cut
exp_start params good start.Question exp piece beyond (rest, cut, is) = ap (λ t. start_of (first (t ++ beyond))) cut
exp_start params good start.Minus exp piece beyond (rest, cut, is) = ap (λ t. start_of (first (t ++ beyond))) cut
exp_start params good start.Other exp piece beyond is = absurd is

-- TEXTS

below_params : (params : List (List ℕ)) (x : ℕ) → x < length params → length params ≤ 32768
    → IsExp written (length params) (Var x) × (variable_text params x ≡ get_or params x [])
below_params params x inside few =
    let test : nat_lt x (length params) ≡ true = grind (arith, nat_tests) in
    (grind (arith, nat_tests), rw test refl)

numbered : (params : List (List ℕ)) (n : ℕ) → 1 ≤ n → n ≤ 32768 → length params ≤ 32768
    → IsExp written (length params) (Var (length params + (n - 1)))
    × (variable_text params (length params + (n - 1)) ≡ codes "$" ++ decimal n)
numbered params n some small few =
    let test : nat_lt (length params + (n - 1)) (length params) ≡ false = grind (arith, nat_tests) in
    let logical : nat_lt (length params + (n - 1)) 65536 ≡ true = grind (arith, nat_tests) in
    let number : length params + (n - 1) - length params + 1 ≡ n = omega arith in
    (grind (arith, nat_tests), rw (test, logical, number) refl)

existential : (params : List (List ℕ)) (n : ℕ) → 1 ≤ n → n ≤ 32768 → length params ≤ 32768
    → IsExp written (length params) (Var (65535 + n)) × (variable_text params (65535 + n) ≡ codes "?" ++ decimal n)
existential params n some small few =
    let test : nat_lt (65535 + n) (length params) ≡ false = grind (arith, nat_tests) in
    let logical : nat_lt (65535 + n) 65536 ≡ false = grind (arith, nat_tests) in
    let number : 65535 + n - 65535 ≡ n = omega arith in
    (grind (arith, nat_tests), rw (test, logical, number) refl)

pub exp_to : (params : List (List ℕ)) → GoodParams params → (k : Start) (exp : Exp) (text : List ℕ) → ExpBy params k exp text
    → ExpText params exp text
exp_to params good start.Letter exp text (name, same, is) =
    let (inside, at) = place_within params name [] is.0 in
    let (fits, written_so) = below_params params (place_of params name) inside good.few in
    rw same (fits, tt, is.1 ∙ sym (written_so ∙ at))
exp_to params good start.Digit exp text (n, same, is) = rw same (tt, is.1, is.2)
exp_to params good start.Dollar exp text (rest, cut, (n, same, is)) =
    let (fits, written_so) = numbered params n is.0 is.1 good.few in
    rw same (fits, tt, cut ∙ ap (λ t. codes "$" ++ t) is.2 ∙ sym written_so)
exp_to params good start.Question exp text (rest, cut, (n, same, is)) =
    let (fits, written_so) = existential params n is.0 is.1 good.few in
    rw same (fits, tt, cut ∙ ap (λ t. codes "?" ++ t) is.2 ∙ sym written_so)
exp_to params good start.Minus exp text (rest, cut, (n, same, is)) =
    let number : suc (n - 1) ≡ n = omega arith in
    rw same (tt, omega arith, cut ∙ ap (λ t. codes "-" ++ t) (is.2 ∙ ap decimal (sym number)))
exp_to params good start.Other exp text is = absurd is

logical_small : (k x : ℕ) → IsExp written k (Var x) → x < 65536 → x < k + 32768
logical_small k x is small = grind (arith, nat_tests)

existential_small : (k x : ℕ) → IsExp written k (Var x) → x < 98304
existential_small k x is = grind (arith, nat_tests)

test_below : (a b : ℕ) → nat_lt a b ≡ true → a < b
test_below a b is = grind (arith, nat_tests)

test_above : (a b : ℕ) → nat_lt a b ≡ false → b ≤ a
test_above a b is = grind (arith, nat_tests)

pub exp_back : (params : List (List ℕ)) → GoodParams params → (exp : Exp) (text : List ℕ) → ExpText params exp text
    → (k : Start) × ExpBy params k exp text
exp_back params good (Const (pos n)) text (fits, int, cut) = (start.Digit, (n, refl, (omega arith, int, cut)))
exp_back params good (Const (negsuc n)) text (fits, int, cut) =
    let number : suc n - 1 ≡ n = omega arith in
    (start.Minus, (decimal (suc n), cut, (suc n, ap (λ m. Const (negsuc m)) (sym number), (omega arith, omega arith, refl))))
exp_back params good (Var x) text (fits, int, cut) = by_param (nat_lt x (length params)) refl cut
  where
    by_logical : (logical : Bool) → length params ≤ x → nat_lt x 65536 ≡ logical
        → text ≡ (if logical then codes "$" ++ decimal (x - length params + 1) else codes "?" ++ decimal (x - 65535))
        → (k : Start) × ExpBy params k (Var x) text
    by_logical true behind logical cut =
        let small = logical_small (length params) x fits (test_below x 65536 logical) in
        let number : length params + (x - length params + 1 - 1) ≡ x = omega arith in (
          start.Dollar,
          (decimal (x - length params + 1), cut, (x - length params + 1, ap (λ m. Var m) (sym number), (omega arith, omega arith, refl))),
        )
    by_logical false behind logical cut =
        let small = existential_small (length params) x fits in
        let large = test_above x 65536 logical in
        let number : 65535 + (x - 65535) ≡ x = omega arith in
        (start.Question, (decimal (x - 65535), cut, (x - 65535, ap (λ m. Var m) (sym number), (omega arith, omega arith, refl))))

    by_param : (param : Bool) → nat_lt x (length params) ≡ param
        → text ≡ (if param then slice_index_or params x []
        else (if nat_lt x 65536 then codes "$" ++ decimal (x - length params + 1) else codes "?" ++ decimal (x - 65535)))
        → (k : Start) × ExpBy params k (Var x) text
    by_param true param cut =
        let inside = test_below x (length params) param in (
          start.Letter,
          (get_or params x [], ap (λ m. Var m) (sym (place_at params x [] good.differ inside)), (member_at params x [] inside, cut)),
        )
    by_param false param cut = by_logical (nat_lt x 65536) (test_above x (length params) param) refl cut

-- expressions are read exactly
pub exp-Reads : (params : List (List ℕ)) → GoodParams params → Reads Anything (ExpText params) WordEnds (read_exp params)
unfolding read_exp
exp-Reads params good =
    same-Reads Anything (λ exp text. (k : Start) × ExpBy params k exp text) (ExpText params) WordEnds (by_first start_of (exp_by params))
    (λ exp text (k, is). exp_to params good k exp text is)
    (λ exp text is. exp_back params good exp text is)
    (by_first-Reads Anything start_of (ExpBy params) WordEnds (exp_by params)
    (λ k. from-Reads Anything (λ byte. Anything byte × (start_of byte ≡ k)) (ExpBy params k) WordEnds (exp_by params k) (λ byte so. tt)
    (exp_by-Reads params good k))
    (λ k exp piece beyond is so. exp_start params good k exp piece beyond is))

-- there is always an expression
pub some_exp : (params : List (List ℕ)) → (exp : Exp) × (text : List ℕ) × ExpText params exp text
some_exp params = (Const (pos 0), decimal 0, (tt, omega arith, refl))
