-- A line is one text, and a text is at most one line.
use Rattle.std.proofs.Common.{◌≡◌, ◌≢◌, ℕ, ◌<◌, ◌≤◌, ◌^◌, Bool, true, false, if◌then◌else◌, List, [], ◌∷◌, ◌++◌, length, refl, sym, ap}
use Rattle.std.proofs.Common.{subst, ◌∙◌, arith, append_assoc, length-append}
use Rattle.std.specs.Prelude.{codes, ◌&&◌, ◌==◌, not, None}
use Rattle.std.specs.Fmt.{decimal}
use Rattle.std.specs.List.{list_all}
use Rattle.std.proofs.lemmas.Fmt.{decimal_is_IsNumeral, decimal_injective, length-decimal-le}
use Rattle.std.proofs.lemmas.Str.Parse.{digit_at}
use Rattle.std.proofs.lemmas.List.Elements.{All-head, All-tail, All-nil, All-cons, All-append, All-from_get_or}
use Rattle.shape_data.specs.Names.{is_name_byte}
use Rattle.session_lines.specs.declared.command.Line.{Line}
use Rattle.session_lines.specs.declared.command.Line.TheVariants as line
use Rattle.session_lines.specs.Lines.{IsFileName, IsLine, IsProcName, body_size, is_file_byte, line_text}
use Rattle.session_lines.specs.Parts.{IsAbsent, IsLineIn}

-- the first such byte parts the bytes in one way
pub part_once : (byte : ℕ) (xs us ys vs : List ℕ) → IsAbsent byte xs → IsAbsent byte us → xs ++ byte ∷ ys ≡ us ++ byte ∷ vs
    → (xs ≡ us) × (ys ≡ vs)
part_once byte [] [] ys vs no_x no_u same = (refl, cc)
part_once byte [] (u ∷ us) ys vs no_x no_u same =
    let first : u ≡ byte = cc in
    absurd (All-head (λ b. b ≢ byte) u us no_u first)
part_once byte (x ∷ xs) [] ys vs no_x no_u same =
    let first : x ≡ byte = cc in
    absurd (All-head (λ b. b ≢ byte) x xs no_x first)
part_once byte (x ∷ xs) (u ∷ us) ys vs no_x no_u same =
    let first : x ≡ u = cc in
    let rest : xs ++ byte ∷ ys ≡ us ++ byte ∷ vs = cc in
    let (front, back) = part_once byte xs us ys vs (All-tail (λ b. b ≢ byte) x xs no_x) (All-tail (λ b. b ≢ byte) u us no_u) rest in
    (cc, back)

-- a byte that stands between two parts is not absent
pub not_absent : (byte : ℕ) (xs ys all : List ℕ) → all ≡ xs ++ byte ∷ ys → IsAbsent byte all → ⊥
not_absent byte [] ys all text absent = rw text at absent 0 0 (omega arith) refl
not_absent byte (x ∷ xs) ys all text absent =
    let there = rw text at absent in
    not_absent byte xs ys (xs ++ byte ∷ ys) refl (All-tail (λ b. b ≢ byte) x (xs ++ byte ∷ ys) there)

and_true : (a b : Bool) → (a && b) ≡ true → (a ≡ true) × (b ≡ true)
and_true true b e = (refl, e)
and_true false b e = (e, cc)

-- a test that excludes a byte excludes it everywhere
pub absent_by : (test : ℕ → Bool) (byte : ℕ) (bytes : List ℕ) → test byte ≡ false → list_all test bytes ≡ true → IsAbsent byte bytes
absent_by test byte [] out e = All-nil (λ b. b ≢ byte)
absent_by test byte (b ∷ bytes) out e =
    let (first, others) = and_true (test b) (list_all test bytes) e in
    All-cons (λ b. b ≢ byte) b bytes (λ same. let here = ap test same in cc) (absent_by test byte bytes out others)

-- no line feed
abbrev is_text : ℕ → Bool
is_text b = not (b == 10)

-- the name of a file holds no space and no line feed
pub no_space : (name : List ℕ) → IsFileName name → IsAbsent 32 name
no_space name named = absent_by is_file_byte 32 name refl named.each

name_on_line : (name : List ℕ) → IsFileName name → IsAbsent 10 name
name_on_line name named = absent_by is_file_byte 10 name refl named.each

proc_on_line : (name : List ℕ) → IsProcName name → IsAbsent 10 name
proc_on_line name named = absent_by is_name_byte 10 name refl named.c_name.each

decimal_on_line : (n : ℕ) → n < 2 ^ 64 → IsAbsent 10 (decimal n)
decimal_on_line n small = All-from_get_or (λ b. b ≢ 10) (decimal n) 0 (λ i below same.
    let range = digit_at (decimal n) i (decimal_is_IsNumeral n small).0.1 below in
    omega arith)

-- the parts of the lines that have an argument
pub put_text : (name : List ℕ) (size : ℕ) → line_text (line.Put name size) ≡ codes "put " ++ (name ++ 32 ∷ decimal size)
put_text name size = simp append_assoc

-- a line holds no line feed
pub on_one_line : (one : Line) → IsLine one → IsAbsent 10 (line_text one)
on_one_line line.Blank is = All-nil (λ b. b ≢ 10)
on_one_line (line.Put name size) (named, small) =
    subst (IsAbsent 10) (sym (put_text name size))
    (All-append (λ b. b ≢ 10) (codes "put ") (name ++ 32 ∷ decimal size) (absent_by is_text 10 (codes "put ") refl refl)
    (All-append (λ b. b ≢ 10) name (32 ∷ decimal size) (name_on_line name named)
    (All-cons (λ b. b ≢ 10) 32 (decimal size) (λ e. cc) (decimal_on_line size (omega arith)))))
on_one_line (line.DropFile name) named =
    All-append (λ b. b ≢ 10) (codes "drop ") name (absent_by is_text 10 (codes "drop ") refl refl) (name_on_line name named)
on_one_line line.Start is = absent_by is_text 10 (codes "start") refl refl
on_one_line (line.Show proc) named =
    All-append (λ b. b ≢ 10) (codes "show ") proc (absent_by is_text 10 (codes "show ") refl refl) (proc_on_line proc named)
on_one_line line.Report is = absent_by is_text 10 (codes "report") refl refl
on_one_line line.Save is = absent_by is_text 10 (codes "save") refl refl
on_one_line (line.Gen n) (some, few) =
    All-append (λ b. b ≢ 10) (codes "gen ") (decimal n) (absent_by is_text 10 (codes "gen ") refl refl) (decimal_on_line n (omega arith))
on_one_line line.Quit is = absent_by is_text 10 (codes "quit") refl refl

-- THE KINDS OF LINES, BY THEIR FIRST TWO BYTES

data Kind : Type 0 where
  blank : Kind
  put : Kind
  drop : Kind
  start : Kind
  show : Kind
  report : Kind
  save : Kind
  gen : Kind
  quit : Kind

abbrev kind_by : ℕ → ℕ → Kind
kind_by a b =
    if a == 112 then put else (if a == 100 then drop else (if a == 114 then report else (if a == 103 then gen
    else (if a == 113 then quit else (if b == 116 then start else (if b == 104 then show else save))))))

abbrev kind_in : List ℕ → Kind
kind_in [] = blank
kind_in (a ∷ []) = blank
kind_in (a ∷ b ∷ others) = kind_by a b

abbrev kind_of : Line → Kind
kind_of line.Blank = blank
kind_of (line.Put name size) = put
kind_of (line.DropFile name) = drop
kind_of line.Start = start
kind_of (line.Show proc) = show
kind_of line.Report = report
kind_of line.Save = save
kind_of (line.Gen n) = gen
kind_of line.Quit = quit

kind_is : (one : Line) → kind_in (line_text one) ≡ kind_of one
kind_is line.Blank = refl
kind_is (line.Put name size) = refl
kind_is (line.DropFile name) = refl
kind_is line.Start = refl
kind_is (line.Show proc) = refl
kind_is line.Report = refl
kind_is line.Save = refl
kind_is (line.Gen n) = refl
kind_is line.Quit = refl

-- lines of one text are of one kind
kind_once : (one other : Line) → line_text one ≡ line_text other → kind_of one ≡ kind_of other
kind_once one other same = sym (kind_is one) ∙ ap kind_in same ∙ kind_is other

-- what stands behind `put `
behind_put : (argument name : List ℕ) (size : ℕ) → codes "put " ++ argument ≡ line_text (line.Put name size)
    → argument ≡ name ++ 32 ∷ decimal size
behind_put argument name size same = let whole = same ∙ put_text name size in cc

-- a text is at most one line
pub line_once : (one other : Line) → IsLine one → IsLine other → line_text one ≡ line_text other → one ≡ other
line_once line.Blank line.Blank is is' same = refl
line_once (line.Put name size) (line.Put name' size') (named, small) (named', small') same =
    let arguments = behind_put (name ++ 32 ∷ decimal size) name' size' (sym (put_text name size) ∙ same) in
    let (names, sizes) = part_once 32 name name' (decimal size) (decimal size') (no_space name named) (no_space name' named') arguments in
    let numbers = decimal_injective size size' (omega arith) (omega arith) sizes in
    cc
line_once (line.DropFile name) (line.DropFile name') is is' same = cc
line_once line.Start line.Start is is' same = refl
line_once (line.Show proc) (line.Show proc') is is' same = cc
line_once line.Report line.Report is is' same = refl
line_once line.Save line.Save is is' same = refl
line_once (line.Gen n) (line.Gen n') (some, few) (some', few') same =
    let digits : decimal n ≡ decimal n' = cc in
    ap line.Gen (decimal_injective n n' (omega arith) (omega arith) digits)
line_once line.Quit line.Quit is is' same = refl
line_once one other is is' same = let kinds = kind_once one other same in absurd cc

-- WHY A TEXT IS NO LINE

-- the argument of `put`
pub record IsPutArgument (argument : List ℕ) : Type 0 where
  pub name : List ℕ
  pub size : ℕ
  pub named : IsFileName name
  pub small : size ≤ 9999999
  pub text : argument ≡ name ++ 32 ∷ decimal size

pub put_argument : (argument : List ℕ) (one : Line) → IsLine one → codes "put " ++ argument ≡ line_text one → IsPutArgument argument
put_argument argument (line.Put name size) (named, small) same =
    record { name = name; size = size; named = named; small = small; text = behind_put argument name size same }
put_argument argument other is same =
    let kinds : put ≡ kind_of other = ap kind_in same ∙ kind_is other in
    absurd cc

pub gen_argument : (argument : List ℕ) (one : Line) → IsLine one → codes "gen " ++ argument ≡ line_text one
    → (n : ℕ) × (1 ≤ n) × (n ≤ 1000) × (argument ≡ decimal n)
gen_argument argument (line.Gen n) (some, few) same = (n, some, few, cc)
gen_argument argument other is same =
    let kinds : gen ≡ kind_of other = ap kind_in same ∙ kind_is other in
    absurd cc

-- without such a number there is no such line
pub no_size : (name digits : List ℕ) → IsAbsent 32 name → ((n : ℕ) → n ≤ 9999999 → digits ≢ decimal n)
    → IsLineIn (codes "put " ++ (name ++ 32 ∷ digits)) None
no_size name digits absent never one is same =
    let put = put_argument (name ++ 32 ∷ digits) one is same in
    let (names, sizes) = part_once 32 name put.name digits (decimal put.size) absent (no_space put.name put.named) put.text in
    never put.size put.small sizes

-- without a file's name there is no such line
pub no_name : (name digits : List ℕ) → IsAbsent 32 name → (IsFileName name → ⊥) → IsLineIn (codes "put " ++ (name ++ 32 ∷ digits)) None
no_name name digits absent never one is same =
    let put = put_argument (name ++ 32 ∷ digits) one is same in
    let (names, sizes) = part_once 32 name put.name digits (decimal put.size) absent (no_space put.name put.named) put.text in
    never (rw names put.named)

-- without a space there is no size
pub no_argument : (argument : List ℕ) → IsAbsent 32 argument → IsLineIn (codes "put " ++ argument) None
no_argument argument absent one is same =
    let put = put_argument argument one is same in
    not_absent 32 put.name (decimal put.size) argument put.text absent

pub no_number : (digits : List ℕ) → ((n : ℕ) → n ≤ 1000 → 1 ≤ n → digits ≢ decimal n) → IsLineIn (codes "gen " ++ digits) None
no_number digits never one is same =
    let (n, some, few, text) = gen_argument digits one is same in
    never n few some text

-- a text without a space that is none of the words
pub no_word : (text : List ℕ) → IsAbsent 32 text → text ≢ [] → text ≢ codes "start" → text ≢ codes "report" → text ≢ codes "save"
    → text ≢ codes "quit" → IsLineIn text None
no_word text absent a b c d e line.Blank is same = a same
no_word text absent a b c d e line.Start is same = b same
no_word text absent a b c d e line.Report is same = c same
no_word text absent a b c d e line.Save is same = d same
no_word text absent a b c d e line.Quit is same = e same
no_word text absent a b c d e (line.Put name size) is same =
    not_absent 32 (codes "put") (name ++ 32 ∷ decimal size) text (same ∙ put_text name size) absent
no_word text absent a b c d e (line.DropFile name) is same = not_absent 32 (codes "drop") name text same absent
no_word text absent a b c d e (line.Show proc) is same = not_absent 32 (codes "show") proc text same absent
no_word text absent a b c d e (line.Gen n) is same = not_absent 32 (codes "gen") (decimal n) text same absent

abbrev is_unspaced : ℕ → Bool
is_unspaced b = not (b == 32)

unspaced : (word : List ℕ) → list_all is_unspaced word ≡ true → IsAbsent 32 word
unspaced word e = absent_by is_unspaced 32 word refl e

-- a text whose first word is none of those that have an argument
pub no_such_word : (word argument : List ℕ) → IsAbsent 32 word → word ≢ codes "put" → word ≢ codes "drop" → word ≢ codes "show"
    → word ≢ codes "gen" → IsLineIn (word ++ 32 ∷ argument) None
no_such_word word argument absent a b c d line.Blank is same = not_absent 32 word argument [] (sym same) (unspaced [] refl)
no_such_word word argument absent a b c d line.Start is same =
    not_absent 32 word argument (codes "start") (sym same) (unspaced (codes "start") refl)
no_such_word word argument absent a b c d line.Report is same =
    not_absent 32 word argument (codes "report") (sym same) (unspaced (codes "report") refl)
no_such_word word argument absent a b c d line.Save is same =
    not_absent 32 word argument (codes "save") (sym same) (unspaced (codes "save") refl)
no_such_word word argument absent a b c d line.Quit is same =
    not_absent 32 word argument (codes "quit") (sym same) (unspaced (codes "quit") refl)
no_such_word word argument absent a b c d (line.Put name size) is same =
    a (part_once 32 word (codes "put") argument (name ++ 32 ∷ decimal size) absent (unspaced (codes "put") refl)
    (same ∙ put_text name size)).0
no_such_word word argument absent a b c d (line.DropFile name) is same =
    b (part_once 32 word (codes "drop") argument name absent (unspaced (codes "drop") refl) same).0
no_such_word word argument absent a b c d (line.Show proc) is same =
    c (part_once 32 word (codes "show") argument proc absent (unspaced (codes "show") refl) same).0
no_such_word word argument absent a b c d (line.Gen n) is same =
    d (part_once 32 word (codes "gen") argument (decimal n) absent (unspaced (codes "gen") refl) same).0

pub no_zero : (digits : List ℕ) (n : ℕ) → digits ≡ decimal n → n ≤ 0 → IsLineIn (codes "gen " ++ digits) None
no_zero digits n text zero = no_number digits (λ n' few some text'.
    let same = decimal_injective n n' (omega arith) (omega arith) (sym text ∙ text') in
    omega arith)

-- HOW LONG A LINE IS

pub body_small : (one : Line) → IsLine one → body_size one ≤ 9999999
body_small (line.Put name size) is = is.1
body_small other is = omega arith

-- a line has at most 256 bytes
pub line_short : (one : Line) → IsLine one → length (line_text one) ≤ 256
line_short line.Blank is = omega arith
line_short (line.Put name size) (named, small) =
    let whole = ap length (put_text name size) in
    let parts = length-append name (32 ∷ decimal size) in
    let digits = length-decimal-le 7 size (omega arith) (omega arith) (omega arith) in
    omega (arith, named.short)
line_short (line.DropFile name) named = omega (arith, named.short)
line_short line.Start is = omega arith
line_short (line.Show proc) named = omega (arith, named.short)
line_short line.Report is = omega arith
line_short line.Save is = omega arith
line_short (line.Gen n) (some, few) =
    let digits = length-decimal-le 4 n (omega arith) (omega arith) (omega arith) in
    omega arith
line_short line.Quit is = omega arith
