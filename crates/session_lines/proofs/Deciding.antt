-- Whether a text is a line, and whether a command stands first in a stream, is decided.
use Rattle.std.proofs.Common.{◌≡◌, ◌≢◌, ℕ, ◌<◌, ◌≤◌, Bool, true, false, Option, Some, None, List, [], ◌∷◌, ◌++◌, ◌⊎◌, inl, inr, suc, zero}
use Rattle.std.proofs.Common.{length, take, drop, refl, sym, ap, ◌∙◌, subst, arith}
use Rattle.std.proofs.lemmas.Bool.{cases_lt}
use Rattle.std.specs.Prelude.{codes, IsTrue, slice_index}
use Rattle.std.specs.Fmt.{decimal}
use Rattle.std.specs.List.{list_all}
use Rattle.std.proofs.lemmas.List.{take-append-drop, length-append, length-take-le}
use Rattle.std.proofs.Math.Seq.{take-append_seam}
use Rattle.shape_data.specs.Names.{is_name_byte, is_name_start}
use Rattle.session_lines.specs.declared.command.Command.{Command}
use Rattle.session_lines.specs.declared.command.Line.{Line}
use Rattle.session_lines.specs.declared.command.Line.TheVariants as line
use Rattle.session_lines.specs.Lines.{IsFileName, IsFirst, IsFirstLine, IsLine, IsProcName, body_size, command_of, is_file_byte, line_text}
use Rattle.session_lines.specs.Parts.{IsAbsent, IsLineIn}
use Rattle.session_lines.specs.Sessions.{BeginsWithNone}
use Rattle.session_lines.proofs.FirstLemmas.{none_begins, short_begins}
use Rattle.session_lines.proofs.LineLemmas.{put_text}
use Rattle.std.proofs.lemmas.List.Elements.{All-nil, All-cons}

abbrev pub Decided : Type 0 → Type 0
Decided P = P ⊎ (P → ⊥)

is_true : (b : Bool) → Decided (IsTrue b)
is_true true = inl refl
is_true false = inr (λ e. cc)

pub at_most : (few many : ℕ) → Decided (few ≤ many)
at_most few many = by (cases_lt many few)
  where
    by : (many < few) ⊎ (few ≤ many) → Decided (few ≤ many)
    by (inl more) = inr (λ within. omega (arith, more, within))
    by (inr within) = inl within

same_number : (m n : ℕ) → Decided (m ≡ n)
same_number zero zero = inl refl
same_number zero (suc n) = inr (λ e. omega (arith, e))
same_number (suc m) zero = inr (λ e. omega (arith, e))
same_number (suc m) (suc n) = by (same_number m n)
  where
    by : Decided (m ≡ n) → Decided (suc m ≡ suc n)
    by (inl same) = inl (ap suc same)
    by (inr other) = inr (λ e. other (omega (arith, e)))

pub same_bytes : (xs ys : List ℕ) → Decided (xs ≡ ys)
same_bytes [] [] = inl refl
same_bytes [] (y ∷ ys) = inr (λ e. cc)
same_bytes (x ∷ xs) [] = inr (λ e. cc)
same_bytes (x ∷ xs) (y ∷ ys) = by (same_number x y) (same_bytes xs ys)
  where
    by : Decided (x ≡ y) → Decided (xs ≡ ys) → Decided ((x ∷ xs) ≡ (y ∷ ys))
    by (inl first) (inl others) = inl cc
    by (inl first) (inr other) = inr (λ e. let others : xs ≡ ys = cc in other others)
    by (inr other) others = inr (λ e. let first : x ≡ y = cc in other first)

-- one of two
pub either : (P Q : Type 0) → Decided P → Decided Q → Decided (P ⊎ Q)
either P Q (inl p) other = inl (inl p)
either P Q (inr never) (inl q) = inl (inr q)
either P Q (inr never) (inr none) = inr (λ one. at one)
  where
    at : P ⊎ Q → ⊥
    at (inl p) = never p
    at (inr q) = none q

-- both of two
pub both : (P Q : Type 0) → Decided P → Decided Q → Decided (P × Q)
both P Q (inl p) (inl q) = inl (p, q)
both P Q (inl p) (inr never) = inr (λ pair. never pair.1)
both P Q (inr never) other = inr (λ pair. never pair.0)

-- whether some number below a bound is such a one
pub below : (P : ℕ → Type 0) → ((n : ℕ) → Decided (P n)) → (bound : ℕ) → ((n : ℕ) × (n < bound) × P n) ⊎ ((n : ℕ) → n < bound → P n → ⊥)
below P decide zero = inr (λ n under p. omega (arith, under))
below P decide (suc bound) = by (decide bound) (below P decide bound)
  where
    by : Decided (P bound) → ((n : ℕ) × (n < bound) × P n) ⊎ ((n : ℕ) → n < bound → P n → ⊥)
        → ((n : ℕ) × (n < suc bound) × P n) ⊎ ((n : ℕ) → n < suc bound → P n → ⊥)
    by (inl p) others = inl (bound, omega arith, p)
    by (inr never) (inl (n, under, p)) = inl (n, omega (arith, under), p)
    by (inr never) (inr none) = inr (λ n under p. at n under p (cases_lt n bound))
      where
        at : (n : ℕ) → n < suc bound → P n → (n < bound) ⊎ (bound ≤ n) → ⊥
        at n under p (inl less) = none n less p
        at n under p (inr most) = let same : n ≡ bound = omega (arith, under, most) in never (subst P same p)

-- a name of a file
pub file_name : (name : List ℕ) → Decided (IsFileName name)
file_name name = by (both (1 ≤ length name) ((length name ≤ 64) × IsTrue (list_all is_file_byte name)) (at_most 1 (length name))
    (both (length name ≤ 64) (IsTrue (list_all is_file_byte name)) (at_most (length name) 64) (is_true (list_all is_file_byte name))))
  where
    by : Decided ((1 ≤ length name) × ((length name ≤ 64) × IsTrue (list_all is_file_byte name))) → Decided (IsFileName name)
    by (inl (some, (short, each))) = inl (record { some = some; short = short; each = each })
    by (inr never) = inr (λ named. never (named.some, (named.short, named.each)))

-- a C name of so few bytes
proc_name : (name : List ℕ) → Decided (IsProcName name)
proc_name name =
    by (both (length name ≤ 64) ((1 ≤ length name) × (IsTrue (is_name_start (slice_index name 0)) × IsTrue (list_all is_name_byte name)))
    (at_most (length name) 64)
    (both (1 ≤ length name) (IsTrue (is_name_start (slice_index name 0)) × IsTrue (list_all is_name_byte name)) (at_most 1 (length name))
    (both (IsTrue (is_name_start (slice_index name 0))) (IsTrue (list_all is_name_byte name)) (is_true (is_name_start (slice_index name 0)))
    (is_true (list_all is_name_byte name)))))
  where
    by : Decided
        ((length name ≤ 64) × ((1 ≤ length name) × (IsTrue (is_name_start (slice_index name 0)) × IsTrue (list_all is_name_byte name))))
        → Decided (IsProcName name)
    by (inl (short, (some, (first, each)))) =
        inl (record { c_name = record { some = omega (arith, some); first = first; each = each }; short = short })
    by (inr never) = inr (λ named. let is = named.c_name in never (named.short, (omega (arith, is.some), (is.first, is.each))))

-- WHETHER A TEXT IS A LINE, KIND BY KIND

-- the argument of `put` is cut behind so many bytes, and has this size
abbrev IsCut : List ℕ → ℕ → ℕ → Type 0
IsCut argument place size = IsFileName (take place argument) × (argument ≡ take place argument ++ 32 ∷ decimal size)

cut_decided : (argument : List ℕ) (place size : ℕ) → Decided (IsCut argument place size)
cut_decided argument place size =
    both (IsFileName (take place argument)) (argument ≡ take place argument ++ 32 ∷ decimal size) (file_name (take place argument))
    (same_bytes argument (take place argument ++ 32 ∷ decimal size))

-- some size below a bound
abbrev HasSize : ℕ → List ℕ → ℕ → Type 0
HasSize bound argument place = (size : ℕ) × (size < bound) × IsCut argument place size

size_decided : (bound : ℕ) (argument : List ℕ) (place : ℕ) → Decided (HasSize bound argument place)
size_decided bound argument place = by (below (IsCut argument place) (cut_decided argument place) bound)
  where
    by : ((size : ℕ) × (size < bound) × IsCut argument place size) ⊎ ((size : ℕ) → size < bound → IsCut argument place size → ⊥)
        → Decided (HasSize bound argument place)
    by (inl found) = inl found
    by (inr none) = inr (λ has. none has.0 has.1 has.2)

-- the argument of `put`, with a size below a bound
abbrev IsPut : ℕ → List ℕ → Type 0
IsPut bound argument = (name : List ℕ) × (size : ℕ) × (size < bound) × IsFileName name × (argument ≡ name ++ 32 ∷ decimal size)

put_decided : (bound : ℕ) (argument : List ℕ) → Decided (IsPut bound argument)
put_decided bound argument = by (below (HasSize bound argument) (size_decided bound argument) (length argument))
  where
    none_there : ((place : ℕ) → place < length argument → HasSize bound argument place → ⊥) → IsPut bound argument → ⊥
    none_there none (name, size, under, named, text) =
        let size_of = ap length text in
        let parts = length-append name (32 ∷ decimal size) in
        let front : take (length name) argument ≡ name = ap (take (length name)) text ∙ take-append_seam name (32 ∷ decimal size) in
        none (length name) (omega arith)
        (size, under, (subst IsFileName (sym front) named, text ∙ ap (λ xs. xs ++ 32 ∷ decimal size) (sym front)))

    by : ((place : ℕ) × (place < length argument) × HasSize bound argument place)
        ⊎ ((place : ℕ) → place < length argument → HasSize bound argument place → ⊥) → Decided (IsPut bound argument)
    by (inl (place, under, (size, small, (named, text)))) = inl (take place argument, size, small, named, text)
    by (inr none) = inr (none_there none)

-- some number below a bound, of a command that takes one
abbrev IsGen : ℕ → List ℕ → Type 0
IsGen bound argument = (n : ℕ) × (n < bound) × ((1 ≤ n) × (argument ≡ decimal n))

gen_decided : (bound : ℕ) (argument : List ℕ) → Decided (IsGen bound argument)
gen_decided bound argument =
    by (below (λ n. (1 ≤ n) × (argument ≡ decimal n))
    (λ n. both (1 ≤ n) (argument ≡ decimal n) (at_most 1 n) (same_bytes argument (decimal n))) bound)
  where
    by : ((n : ℕ) × (n < bound) × ((1 ≤ n) × (argument ≡ decimal n))) ⊎ ((n : ℕ) → n < bound → ((1 ≤ n) × (argument ≡ decimal n)) → ⊥)
        → Decided (IsGen bound argument)
    by (inl found) = inl found
    by (inr none) = inr (λ has. none has.0 has.1 has.2)

-- what stands behind a word, if the text begins with it
abbrev IsBehindWord : List ℕ → List ℕ → (List ℕ → Type 0) → Type 0
IsBehindWord word text P = (argument : List ℕ) × (text ≡ word ++ argument) × P argument

pub dropped : (word argument : List ℕ) → drop (length word) (word ++ argument) ≡ argument
dropped [] argument = refl
dropped (x ∷ word) argument = dropped word argument

behind_decided : (word text : List ℕ) (P : List ℕ → Type 0) → ((argument : List ℕ) → Decided (P argument))
    → Decided (IsBehindWord word text P)
behind_decided word text P decide = by (same_bytes text (word ++ drop (length word) text)) (decide (drop (length word) text))
  where
    by : Decided (text ≡ word ++ drop (length word) text) → Decided (P (drop (length word) text)) → Decided (IsBehindWord word text P)
    by (inl same) (inl is) = inl (drop (length word) text, same, is)
    by (inl same) (inr never) = inr (λ has. never (subst P (sym (dropped word has.0) ∙ ap (drop (length word)) (sym has.1)) has.2))
    by (inr other) any = inr (λ has. other (has.1 ∙ ap (λ xs. word ++ xs) (sym (dropped word has.0) ∙ ap (drop (length word)) (sym has.1))))

-- whether the text is a line: each kind is decided
line_in : (text : List ℕ) → (found : Option Line) × IsLineIn text found
line_in text = by
    (same_bytes text []) (same_bytes text (codes "start")) (same_bytes text (codes "report")) (same_bytes text (codes "save"))
    (same_bytes text (codes "quit"))
    (behind_decided (codes "put ") text (IsPut 10000000) (put_decided 10000000)) (behind_decided (codes "drop ") text IsFileName file_name)
    (behind_decided (codes "show ") text IsProcName proc_name) (behind_decided (codes "gen ") text (IsGen 1001) (gen_decided 1001))
  where
    by : Decided (text ≡ []) → Decided (text ≡ codes "start") → Decided (text ≡ codes "report") → Decided (text ≡ codes "save")
        → Decided (text ≡ codes "quit")
        → Decided (IsBehindWord (codes "put ") text (IsPut 10000000)) → Decided (IsBehindWord (codes "drop ") text IsFileName)
        → Decided (IsBehindWord (codes "show ") text IsProcName) → Decided (IsBehindWord (codes "gen ") text (IsGen 1001))
        → (found : Option Line) × IsLineIn text found
    by (inl is) b c d e f g h i = (Some line.Blank, (tt, is))
    by (inr a) (inl is) c d e f g h i = (Some line.Start, (tt, is))
    by (inr a) (inr b) (inl is) d e f g h i = (Some line.Report, (tt, is))
    by (inr a) (inr b) (inr c) (inl is) e f g h i = (Some line.Save, (tt, is))
    by (inr a) (inr b) (inr c) (inr d) (inl is) f g h i = (Some line.Quit, (tt, is))
    by (inr a) (inr b) (inr c) (inr d) (inr e) (inl (argument, is, (name, size, under, named, cut))) g h i =
        (Some (line.Put name size), ((named, omega (arith, under)), is ∙ ap (λ xs. codes "put " ++ xs) cut ∙ sym (put_text name size)))
    by (inr a) (inr b) (inr c) (inr d) (inr e) (inr f) (inl (name, is, named)) h i = (Some (line.DropFile name), (named, is))
    by (inr a) (inr b) (inr c) (inr d) (inr e) (inr f) (inr g) (inl (name, is, named)) i = (Some (line.Show name), (named, is))
    by (inr a) (inr b) (inr c) (inr d) (inr e) (inr f) (inr g) (inr h) (inl (argument, is, (n, under, (some, digits)))) =
        (Some (line.Gen n), ((some, omega (arith, under)), is ∙ ap (λ xs. codes "gen " ++ xs) digits))
    by (inr a) (inr b) (inr c) (inr d) (inr e) (inr f) (inr g) (inr h) (inr i) = (None, none)
      where
        none : IsLineIn text None
        none line.Blank is same = a same
        none line.Start is same = b same
        none line.Report is same = c same
        none line.Save is same = d same
        none line.Quit is same = e same
        none (line.Put name size) (named, small) same =
            f (name ++ 32 ∷ decimal size, same ∙ put_text name size, (name, size, omega (arith, small), named, refl))
        none (line.DropFile name) named same = g (name, same, named)
        none (line.Show name) named same = h (name, same, named)
        none (line.Gen n) (some, few) same = i (decimal n, same, (n, omega (arith, few), (some, refl)))

-- WHAT STANDS FIRST IN A STREAM

-- the first line of a stream that is not empty, and what stands behind it
record IsCutFirst (stream : List ℕ) : Type 0 where
  text : List ℕ
  behind : List ℕ
  cut : IsFirstLine stream text behind
  absent : IsAbsent 10 text

-- without a line feed, or up to the first one
split : (stream : List ℕ) → IsAbsent 10 stream ⊎ ((text : List ℕ) × (behind : List ℕ) × (stream ≡ text ++ 10 ∷ behind) × IsAbsent 10 text)
split [] = inl (All-nil (λ b. b ≢ 10))
split (x ∷ xs) = by (same_number x 10) (split xs)
  where
    by : Decided (x ≡ 10) → IsAbsent 10 xs ⊎ ((text : List ℕ) × (behind : List ℕ) × (xs ≡ text ++ 10 ∷ behind) × IsAbsent 10 text)
        → IsAbsent 10 (x ∷ xs) ⊎ ((text : List ℕ) × (behind : List ℕ) × ((x ∷ xs) ≡ text ++ 10 ∷ behind) × IsAbsent 10 text)
    by (inl here) others = inr ([], xs, ap (λ b. b ∷ xs) here, All-nil (λ b. b ≢ 10))
    by (inr other) (inl absent) = inl (All-cons (λ b. b ≢ 10) x xs other absent)
    by (inr other) (inr (text, behind, is, absent)) =
        inr (x ∷ text, behind, ap (λ ys. x ∷ ys) is, All-cons (λ b. b ≢ 10) x text other absent)

cut_first : (stream : List ℕ) → stream ≢ [] → IsCutFirst stream
cut_first stream some = by (split stream)
  where
    by : IsAbsent 10 stream ⊎ ((text : List ℕ) × (behind : List ℕ) × (stream ≡ text ++ 10 ∷ behind) × IsAbsent 10 text) → IsCutFirst stream
    by (inl absent) = record { text = stream; behind = []; cut = inr ((refl, some), refl); absent = absent }
    by (inr (text, behind, is, absent)) = record { text = text; behind = behind; cut = inl is; absent = absent }

-- some command stands first, or none does
pub first_in : (stream : List ℕ) → stream ≢ [] → ((one : Command) × (rest : List ℕ) × IsFirst stream one rest) ⊎ BeginsWithNone stream
first_in stream some = let first = cut_first stream some in by first (line_in first.text)
  where
    whole : (first : IsCutFirst stream) (one : Line) → IsLine one → first.text ≡ line_text one → (body_size one ≤ length first.behind)
        → IsFirst stream (command_of one (take (body_size one) first.behind)) (drop (body_size one) first.behind)
    whole first one allowed is enough = record {
      line = one;
      body = take (body_size one) first.behind;
      allowed = allowed;
      whole = length-take-le (body_size one) first.behind enough;
      means = refl;
      text =
          subst (IsFirstLine stream (line_text one)) (sym (take-append-drop (body_size one) first.behind))
          (subst (λ xs. IsFirstLine stream xs first.behind) is first.cut);
    }

    by_size : (first : IsCutFirst stream) (one : Line) → IsLine one → first.text ≡ line_text one
        → Decided (body_size one ≤ length first.behind)
        → ((one : Command) × (rest : List ℕ) × IsFirst stream one rest) ⊎ BeginsWithNone stream
    by_size first one allowed is (inl enough) =
        inl (command_of one (take (body_size one) first.behind), drop (body_size one) first.behind, whole first one allowed is enough)
    by_size first one allowed is (inr short) =
        inr (short_begins stream first.behind one allowed (subst (λ xs. IsFirstLine stream xs first.behind) is first.cut)
        (less (cases_lt (length first.behind) (body_size one))))
      where
        less : (length first.behind < body_size one) ⊎ (body_size one ≤ length first.behind) → length first.behind < body_size one
        less (inl under) = under
        less (inr enough) = absurd (short enough)

    by : (first : IsCutFirst stream) → ((found : Option Line) × IsLineIn first.text found)
        → ((one : Command) × (rest : List ℕ) × IsFirst stream one rest) ⊎ BeginsWithNone stream
    by first (None, never) = inr (none_begins stream first.text first.behind first.cut first.absent never)
    by first (Some one, (allowed, is)) = by_size first one allowed is (at_most (body_size one) (length first.behind))
