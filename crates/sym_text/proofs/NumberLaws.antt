-- Decimal numbers are read exactly.
use Rattle.std.proofs.Common.{◌≡◌, ◌&&◌, if◌then◌else◌, ℕ, ◌+◌, ◌-◌, ◌*◌, ◌/◌, ◌%◌, ◌^◌, ◌<◌, ◌≤◌, Bool, true, false, List, [], ◌∷◌, ◌++◌}
use Rattle.std.proofs.Common.{length, inl, inr, Some, refl, sym, ap, ◌∙◌, subst, append_assoc, arith}
use Rattle.std.proofs.lemmas.List.{append-nil}
use Rattle.std.proofs.lemmas.Bool.Decides.{nat_tests}
use Rattle.std.proofs.lemmas.Fmt.{decimal_digit, decimal_step, decimal_by_steps, decimal_nonempty}
use Rattle.std.specs.Prelude.{nat_le}
use Rattle.std.specs.Char.{is_ascii_digit}
use Rattle.std.specs.Fmt.{decimal}
use Rattle.shape_data.specs.Names.{is_name_byte}
use Rattle.sym_text.specs.Outcome.{Outcome, Got, Stopped, first}
use Rattle.sym_text.specs.Reading.{may_go_on, read_digits, read_number}
use Rattle.sym_text.proofs.Exactly.{Language, Answers, Reads, Anything}
use Rattle.sym_text.proofs.WordLaws.{NotName, WordEnds}

-- the number lies between two limits
abbrev pub IsNumber : ℕ → ℕ → Language ℕ
IsNumber least limit value text = (least ≤ value) × (value ≤ limit) × (text ≡ decimal value)

-- a digit with its value
digit_byte : (d : ℕ) → d < 10 → (is_ascii_digit (48 + d) ≡ true) × (is_name_byte (48 + d) ≡ true) × (48 + d - 48 ≡ d)
digit_byte d small = (grind (arith, nat_tests), grind (arith, nat_tests), omega arith)

digit_name : (byte : ℕ) → is_ascii_digit byte ≡ true → is_name_byte byte ≡ true
digit_name byte is = grind (arith, nat_tests)

digit_value : (byte : ℕ) → is_ascii_digit byte ≡ true → (byte ≡ 48 + (byte - 48)) × (byte - 48 < 10)
digit_value byte is = (grind (arith, nat_tests), grind (arith, nat_tests))

first_digit : (least n : ℕ) → least ≤ n → n < 10 → (is_ascii_digit (48 + n) && nat_le least (48 + n - 48)) ≡ true
first_digit least n above small = rw ((digit_byte n small).2, (digit_byte n small).0) (grind (arith, nat_tests))

goes_on : (limit value d : ℕ) → 0 < value → d < 10 → 10 * value + d ≤ limit → may_go_on limit value (48 + d) ≡ true
goes_on limit value d some small fits = rw ((digit_byte d small).2, (digit_byte d small).0) (grind (arith, nat_tests))

went_on : (limit value byte : ℕ) → may_go_on limit value byte ≡ true
    → (is_ascii_digit byte ≡ true) × (0 < value) × (10 * value + (byte - 48) ≤ limit)
went_on limit value byte is = (grind (arith, nat_tests), grind (arith, nat_tests), grind (arith, nat_tests))

-- the text of a number is read as its digits
pub read_decimal : (least limit : ℕ) → least ≤ 1 → limit < 2 ^ 64 → (n : ℕ) → least ≤ n → n ≤ limit → (beyond : List ℕ)
    → read_number least limit (decimal n ++ beyond) ≡ read_digits limit n beyond
read_decimal least limit few small n above below beyond =
    decimal_by_steps
    (λ (n : ℕ) (ds : List ℕ). least ≤ n → n ≤ limit → (beyond : List ℕ)
    → read_number least limit (ds ++ beyond) ≡ read_digits limit n beyond) one more n (omega arith) above below beyond
  where
    one : (n : ℕ) → n < 10 → least ≤ n → n ≤ limit → (beyond : List ℕ)
        → read_number least limit ((48 + n) ∷ beyond) ≡ read_digits limit n beyond
    one n digit above below beyond = rw (first_digit least n above digit, (digit_byte n digit).2) refl

    more : (n : ℕ) (ds : List ℕ) → 10 ≤ n
        → (least ≤ n / 10 → n / 10 ≤ limit → (beyond : List ℕ) → read_number least limit (ds ++ beyond) ≡ read_digits limit (n / 10) beyond)
        → least ≤ n → n ≤ limit → (beyond : List ℕ)
        → read_number least limit ((ds ++ ((48 + n % 10) ∷ [])) ++ beyond) ≡ read_digits limit n beyond
    more n ds large front above below beyond =
        let digit : n % 10 < 10 = omega arith in
        let whole : 10 * (n / 10) + n % 10 ≡ n = omega arith in
        let next : may_go_on limit (n / 10) (48 + n % 10) ≡ true = goes_on limit (n / 10) (n % 10) (omega arith) digit (omega arith) in
        let step : read_digits limit (n / 10) ((48 + n % 10) ∷ beyond) ≡ read_digits limit n beyond =
        rw ((digit_byte (n % 10) digit).1, next, (digit_byte (n % 10) digit).2, whole) refl in
        ap (read_number least limit) (append_assoc ds ((48 + n % 10) ∷ []) beyond)
        ∙ front (omega arith) (omega arith) ((48 + n % 10) ∷ beyond) ∙ step

-- behind a number nothing more is read
read_end : (limit n : ℕ) (beyond : List ℕ) → NotName (first beyond) → read_digits limit n beyond ≡ Got n beyond
read_end limit n [] ends = refl
read_end limit n (byte ∷ beyond) ends = rw ends refl

-- the number's text begins with the text of a number that was read
abbrev GoesOn : ℕ → ℕ → ℕ → Language ℕ
GoesOn least limit front value text = (least ≤ value) × (value ≤ limit) × (decimal value ≡ decimal front ++ text)

-- the text of a larger number
append_digit : (value byte : ℕ) → is_ascii_digit byte ≡ true → 0 < value → 10 * value + (byte - 48) < 2 ^ 64
    → decimal (10 * value + (byte - 48)) ≡ decimal value ++ (byte ∷ [])
append_digit value byte is some small =
    let (same, digit) = digit_value byte is in
    let front : (10 * value + (byte - 48)) / 10 ≡ value = omega arith in
    let last : (10 * value + (byte - 48)) % 10 ≡ byte - 48 = omega arith in
    decimal_step (10 * value + (byte - 48)) (omega arith) small ∙ rw (front, last, ← same) refl

clash : {A : Type 0} (value : A) (s t : List ℕ) → Got value s ≡ Stopped t → ⊥
clash value s t is = cc

-- a byte of a name that may not go on ends the reading there, whatever stands behind
stops_here : (limit value byte : ℕ) (text : List ℕ) → is_name_byte byte ≡ true → may_go_on limit value byte ≡ false
    → read_digits limit value (byte ∷ text) ≡ Stopped (byte ∷ text)
stops_here limit value byte text name stop = rw (name, stop) refl

-- a byte that may not go on stands in no number of the limits
no_digit : (least limit value byte : ℕ) (piece beyond others : List ℕ) (n : ℕ) → least ≤ 1 → limit < 2 ^ 64 → least ≤ value → value ≤ limit
    → is_name_byte byte ≡ true → may_go_on limit value byte ≡ false
    → GoesOn least limit value n piece → NotName (first beyond) → piece ++ beyond ≡ byte ∷ others → ⊥
no_digit least limit value byte [] beyond others n few small above below name stop is ends same =
    let other : NotName (Some byte) =
    subst (λ (t : List ℕ). NotName (first t)) same ends in absurd (let never : true ≡ false = sym name ∙ other in cc)
no_digit least limit value byte (b ∷ piece) beyond others n few small above below name stop is ends same =
    let alike : b ≡ byte = cc in
    let text : decimal n ++ [] ≡ decimal value ++ (byte ∷ piece) =
    append-nil (decimal n) ∙ is.2 ∙ ap (λ (x : ℕ). decimal value ++ (x ∷ piece)) alike in
    let got : read_number least limit (decimal n ++ []) ≡ Got n [] = read_decimal least limit few small n is.0 is.1 [] in
    let stopped : read_number least limit (decimal n ++ []) ≡ Stopped (byte ∷ piece) = ap (read_number least limit) text
    ∙ read_decimal least limit few small value above below (byte ∷ piece) ∙ stops_here limit value byte piece name stop in
    clash n [] (byte ∷ piece) (sym got ∙ stopped)

-- a digit more, of a number that goes on
one_digit : (least limit value byte : ℕ) (text : List ℕ) (o : Outcome ℕ) → is_name_byte byte ≡ true → least ≤ 10 * value + (byte - 48)
    → 10 * value + (byte - 48) ≤ limit → decimal (10 * value + (byte - 48)) ≡ decimal value ++ (byte ∷ [])
    → Answers (GoesOn least limit (10 * value + (byte - 48))) WordEnds text o → Answers (GoesOn least limit value) WordEnds (byte ∷ text) o
one_digit least limit value byte text (Got n rest) name above below longer g = record {
  piece = byte ∷ g.piece;
  is = (g.is.0, g.is.1, g.is.2 ∙ ap (λ t. t ++ g.piece) longer ∙ append_assoc (decimal value) (byte ∷ []) g.piece);
  cut = ap (λ t. byte ∷ t) g.cut;
  ends_so = g.ends_so;
}
one_digit least limit value byte text (Stopped rest) name above below longer s = record {
  front = byte ∷ s.front;
  cut = ap (λ t. byte ∷ t) s.cut;
  begun = inr (elim s.begun [
    | inl none ↦
        record {
          value = 10 * value + (byte - 48);
          piece = byte ∷ [];
          more = [];
          is = (above, below, longer);
          text = ap (λ t. byte ∷ (t ++ [])) (sym none);
        }
    | inr b ↦ record {
      value = b.value;
      piece = byte ∷ b.piece;
      more = b.more;
      is = (b.is.0, b.is.1, b.is.2 ∙ ap (λ t. t ++ b.piece) longer ∙ append_assoc (decimal value) (byte ∷ []) b.piece);
      text = ap (λ t. byte ∷ t) b.text;
    }
  ]);
  none = λ other others left. λ n piece beyond behind is ends same. none other others left n piece beyond behind is ends same;
}
  where
    none : (other : ℕ) (others : List ℕ) → rest ≡ other ∷ others → (n : ℕ) (piece beyond behind : List ℕ) → GoesOn least limit value n piece
        → NotName (first beyond) → piece ++ beyond ≡ (byte ∷ s.front ++ (other ∷ [])) ++ behind → ⊥
    none other others left n [] beyond behind is ends same =
        let no_name : NotName (Some byte) =
        subst (λ (t : List ℕ). NotName (first t)) same ends in absurd (let never : true ≡ false = sym name ∙ no_name in cc)
    none other others left n (b ∷ piece) beyond behind is ends same =
        let alike : b ≡ byte = cc in
        let tails : piece ++ beyond ≡ (s.front ++ (other ∷ [])) ++ behind = cc in
        let text : decimal n ≡ decimal (10 * value + (byte - 48)) ++ piece = is.2 ∙ ap (λ (x : ℕ). decimal value ++ (x ∷ piece)) alike
        ∙ sym (append_assoc (decimal value) (byte ∷ []) piece) ∙ ap (λ t. t ++ piece) (sym longer) in
        s.none other others left n piece beyond behind (is.0, is.1, text) ends tails

-- the digits behind a number that is read
digits_answers : (least limit value : ℕ) (text : List ℕ) → least ≤ 1 → limit < 2 ^ 64 → least ≤ value → value ≤ limit
    → Answers (GoesOn least limit value) WordEnds text (read_digits limit value text)
digits_answers least limit value [] few small above below =
    record { piece = []; is = (above, below, sym (append-nil (decimal value))); cut = refl; ends_so = tt }
digits_answers least limit value (byte ∷ text) few small above below = by_name (is_name_byte byte) refl
    (λ on. let (digit, some, fits) = went_on limit value byte on in digits_answers least limit (10 * value + (byte - 48)) text few small
    (omega arith) fits)
  where
    by_digit : (on : Bool) → is_name_byte byte ≡ true → may_go_on limit value byte ≡ on
        → (may_go_on limit value byte ≡ true
        → Answers (GoesOn least limit (10 * value + (byte - 48))) WordEnds text (read_digits limit (10 * value + (byte - 48)) text))
        → Answers (GoesOn least limit value) WordEnds (byte ∷ text)
        (if on then read_digits limit (10 * value + (byte - 48)) text else Stopped (byte ∷ text))
    by_digit true name on rest =
        let (digit, some, fits) = went_on limit value byte on in
        one_digit least limit value byte text (read_digits limit (10 * value + (byte - 48)) text) name (omega arith) fits
        (append_digit value byte digit some (omega arith)) (rest on)
    by_digit false name on rest = record {
      front = [];
      cut = refl;
      begun = inl refl;
      none = λ other others left. λ n piece beyond behind is ends same.
          let alike : byte ≡ other = cc in
          no_digit least limit value byte piece beyond behind n few small above below name on is ends
          (same ∙ ap (λ (x : ℕ). x ∷ behind) (sym alike));
    }

    by_name : (name : Bool) → is_name_byte byte ≡ name
        → (may_go_on limit value byte ≡ true
        → Answers (GoesOn least limit (10 * value + (byte - 48))) WordEnds text (read_digits limit (10 * value + (byte - 48)) text))
        → Answers (GoesOn least limit value) WordEnds (byte ∷ text)
        (if name then (if may_go_on limit value byte then read_digits limit (10 * value + (byte - 48)) text else Stopped (byte ∷ text))
        else Got value (byte ∷ text))
    by_name true name rest = by_digit (may_go_on limit value byte) name refl rest
    by_name false name rest = record { piece = []; is = (above, below, sym (append-nil (decimal value))); cut = refl; ends_so = name }

-- the text of a number has a first byte
first_of_number : (least limit n : ℕ) (beyond : List ℕ) (byte : ℕ) (behind : List ℕ) → least ≤ 1 → limit < 2 ^ 64 → least ≤ n → n ≤ limit
    → decimal n ++ beyond ≡ byte ∷ behind → (ds : List ℕ) × (decimal n ≡ byte ∷ ds) × (ds ++ beyond ≡ behind)
first_of_number least limit n beyond byte behind few small above below same = of_text (decimal n) refl same
  where
    of_text : (ds : List ℕ) → decimal n ≡ ds → ds ++ beyond ≡ byte ∷ behind
        → (rest : List ℕ) × (decimal n ≡ byte ∷ rest) × (rest ++ beyond ≡ behind)
    of_text [] is same = let some = decimal_nonempty n (omega arith) in absurd (omega (arith, ap length is))
    of_text (d ∷ ds) is same =
        let alike : d ≡ byte = cc in
        let tails : ds ++ beyond ≡ behind = cc in
        (ds, is ∙ ap (λ (x : ℕ). x ∷ ds) alike, tails)

first_tests : (least byte : ℕ) → (is_ascii_digit byte && nat_le least (byte - 48)) ≡ true
    → (is_ascii_digit byte ≡ true) × (least ≤ byte - 48)
first_tests least byte is = (grind (arith, nat_tests), grind (arith, nat_tests))

-- the text of one digit
first_text : (byte : ℕ) → is_ascii_digit byte ≡ true → decimal (byte - 48) ≡ byte ∷ []
first_text byte is = let (same, small) = digit_value byte is in decimal_digit (byte - 48) small ∙ ap (λ (x : ℕ). x ∷ []) (sym same)

-- numbers are read exactly
pub number-Reads : (least limit : ℕ) → least ≤ 1 → 9 ≤ limit → limit < 2 ^ 64
    → Reads Anything (IsNumber least limit) WordEnds (read_number least limit)
number-Reads least limit few some small = record {
  answers = λ text so. of_text text;
  complete = λ n piece beyond is ends. ap (λ t. read_number least limit (t ++ beyond)) is.2
      ∙ read_decimal least limit few small n is.0 is.1 beyond ∙ read_end limit n beyond ends;
}
  where
    is_first : (byte : ℕ) → (is_ascii_digit byte && nat_le least (byte - 48)) ≡ true → (is_ascii_digit byte ≡ true) × (least ≤ byte - 48)
    is_first byte is = first_tests least byte is

    started : (byte : ℕ) (text : List ℕ) → is_ascii_digit byte ≡ true → least ≤ byte - 48 → (o : Outcome ℕ)
        → Answers (GoesOn least limit (byte - 48)) WordEnds text o → Answers (IsNumber least limit) WordEnds (byte ∷ text) o
    started byte text digit above (Got n rest) g =
        let written = first_text byte digit in
        record {
          piece = byte ∷ g.piece;
          is = (g.is.0, g.is.1, sym (g.is.2 ∙ ap (λ t. t ++ g.piece) written));
          cut = ap (λ t. byte ∷ t) g.cut;
          ends_so = g.ends_so;
        }
    started byte text digit above (Stopped rest) s =
        let written = first_text byte digit in
        let value = digit_value byte digit in
        record {
          front = byte ∷ s.front;
          cut = ap (λ t. byte ∷ t) s.cut;
          begun = inr (elim s.begun [
            | inl none ↦
                record {
                  value = byte - 48;
                  piece = byte ∷ [];
                  more = [];
                  is = (above, omega arith, sym written);
                  text = ap (λ t. byte ∷ (t ++ [])) (sym none);
                }
            | inr b ↦ record {
              value = b.value;
              piece = byte ∷ b.piece;
              more = b.more;
              is = (b.is.0, b.is.1, sym (b.is.2 ∙ ap (λ t. t ++ b.piece) written));
              text = ap (λ t. byte ∷ t) b.text;
            }
          ]);
          none = λ other others left. λ n piece beyond behind is ends same.
              let (ds, is_text, tails) =
              first_of_number least limit n beyond byte ((s.front ++ (other ∷ [])) ++ behind) few small is.0 is.1
              (ap (λ t. t ++ beyond) (sym is.2) ∙ same) in
              s.none other others left n ds beyond behind (is.0, is.1, is_text ∙ ap (λ t. t ++ ds) (sym written)) ends tails;
        }

    by_first : (byte : ℕ) (text : List ℕ) (start : Bool) → (is_ascii_digit byte && nat_le least (byte - 48)) ≡ start
        → Answers (IsNumber least limit) WordEnds (byte ∷ text)
        (if start then read_digits limit (byte - 48) text else Stopped (byte ∷ text))
    by_first byte text true start =
        let (digit, above) = is_first byte start in
        let value = digit_value byte digit in
        started byte text digit above (read_digits limit (byte - 48) text)
        (digits_answers least limit (byte - 48) text few small above (omega arith))
    by_first byte text false start = record {
      front = [];
      cut = refl;
      begun = inl refl;
      none = λ other others left. λ n piece beyond behind is ends same.
          let alike : byte ≡ other = cc in
          let (ds, is_text, tails) =
          first_of_number least limit n beyond byte behind few small is.0 is.1
          (ap (λ t. t ++ beyond) (sym is.2) ∙ same ∙ ap (λ (x : ℕ). x ∷ behind) (sym alike)) in
          let got : read_number least limit (decimal n ++ []) ≡ Got n [] = read_decimal least limit few small n is.0 is.1 [] in
          let stopped : read_number least limit (byte ∷ ds) ≡ Stopped (byte ∷ ds) = rw start refl in
          clash n [] (byte ∷ ds) (sym got ∙ ap (read_number least limit) (append-nil (decimal n) ∙ is_text) ∙ stopped);
    }

    of_text : (text : List ℕ) → Answers (IsNumber least limit) WordEnds text (read_number least limit text)
    of_text [] =
        record { front = []; cut = refl; begun = inl refl; none = λ byte others left. absurd (let never : [] ≡ byte ∷ others = left in cc) }
    of_text (byte ∷ text) = by_first byte text (is_ascii_digit byte && nat_le least (byte - 48)) refl
