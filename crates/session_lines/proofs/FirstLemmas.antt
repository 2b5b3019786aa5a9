-- What stands first in a stream, and why nothing does.
use Rattle.std.proofs.Common.{◌≡◌, ◌≢◌, ℕ, ◌+◌, ◌-◌, ◌<◌, ◌≤◌, Bool, true, false, Option, Some, None, List, [], ◌∷◌, ◌++◌, inl, inr, suc}
use Rattle.std.proofs.Common.{length, take, drop, refl, sym, ap, ◌∙◌, subst, arith, append_assoc, length-append}
use Rattle.std.specs.Prelude.{IfSome, if◌then◌else◌, nat_le}
use Rattle.std.proofs.lemmas.Bool.Decides.{nat_tests}
use Rattle.std.proofs.lemmas.List.{append-nil, length-drop, take-append-le}
use Rattle.std.proofs.Math.Seq.{take-append-add}
use Rattle.io_ports.specs.Bytes.{before_left, IsNothingLeft}
use Rattle.session_lines.specs.declared.command.Command.TheVariants as command
use Rattle.session_lines.specs.declared.command.Line.{Line}
use Rattle.session_lines.specs.declared.command.Line.TheVariants as line
use Rattle.session_lines.specs.declared.command.Taken.{Taken}
use Rattle.session_lines.specs.declared.command.Taken.TheVariants as taken
use Rattle.session_lines.specs.Lines.{IsCommand, IsEnded, IsFirstLine, IsLine, MOST_FILE_BYTES, body_size, command_of, line_text}
use Rattle.session_lines.specs.Parts.{IsAbsent, IsFirstAt, IsLineIn, IsNoCommand, TakesLine}
use Rattle.session_lines.specs.Reading.{IsCounted, Reading, Takes}
use Rattle.session_lines.specs.Sessions.{BeginsWithNone, MOST_COMMANDS}
use Rattle.session_lines.proofs.LineLemmas.{line_once, line_short, not_absent, on_one_line, part_once}

-- what is shown of each told stream
pub if_told : (told : Option (List ℕ)) (P : List ℕ → Type 0) → ((stream : List ℕ) → told ≡ Some stream → P stream) → IfSome told P
if_told None P shown = tt
if_told (Some stream) P shown = shown stream refl

-- the first line of a stream is one
pub first_line_once : (stream text behind text' behind' : List ℕ) → IsFirstLine stream text behind → IsAbsent 10 text
    → IsFirstLine stream text' behind' → IsAbsent 10 text'
    → (text ≡ text') × (behind ≡ behind')
first_line_once stream text behind text' behind' (inl ended) absent (inl ended') absent' =
    part_once 10 text text' behind behind' absent absent' (sym ended ∙ ended')
first_line_once stream text behind text' behind' (inl ended) absent (inr ((whole, some), none)) absent' =
    absurd (not_absent 10 text behind text' (sym whole ∙ ended) absent')
first_line_once stream text behind text' behind' (inr ((whole, some), none)) absent (inl ended') absent' =
    absurd (not_absent 10 text' behind' text (sym whole ∙ ended') absent)
first_line_once stream text behind text' behind' (inr ((whole, some), none)) absent (inr ((whole', some'), none')) absent' =
    (sym whole ∙ whole', none ∙ sym none')

-- the first line of the stream is no line
pub none_begins : (stream text behind : List ℕ) → IsFirstLine stream text behind → IsAbsent 10 text → IsLineIn text None
    → BeginsWithNone stream
none_begins stream text behind cut absent never command rest first =
    let (same, others) =
    first_line_once stream text behind (line_text first.line) (first.body ++ rest) cut absent first.text
    (on_one_line first.line first.allowed) in
    never first.line first.allowed same

-- behind the first line too few bytes stand
pub short_begins : (stream behind : List ℕ) (one : Line) → IsLine one → IsFirstLine stream (line_text one) behind
    → length behind < body_size one → BeginsWithNone stream
short_begins stream behind one is cut short command rest first =
    let (same, others) =
    first_line_once stream (line_text one) behind (line_text first.line) (first.body ++ rest) cut (on_one_line one is) first.text
    (on_one_line first.line first.allowed) in
    let lines = line_once one first.line is first.allowed same in
    let sizes = ap body_size lines in
    let lengths = ap length others in
    let parts = length-append first.body rest in
    let whole = first.whole in
    omega arith

-- the first line of the stream is longer than any
pub long_begins : (stream : List ℕ) → 256 < length stream → IsAbsent 10 (take 257 stream) → BeginsWithNone stream
long_begins stream long absent command rest first = by_cut first.text
  where
    by_cut : IsFirstLine stream (line_text first.line) (first.body ++ rest) → ⊥
    by_cut (inl ended) =
        let short = line_short first.line first.allowed in
        let text = line_text first.line in
        let more = 256 - length text in
        let behind = first.body ++ rest in
        let all : 257 ≡ length text + suc more = omega arith in
        not_absent 10 text (take more behind) (take 257 stream)
        (ap (take 257) ended ∙ ap (λ n. take n (text ++ 10 ∷ behind)) all ∙ take-append-add text (10 ∷ behind) (suc more)) absent
    by_cut (inr ((whole, some), none)) =
        let short = line_short first.line first.allowed in
        let size = ap length whole in
        omega arith

-- what is left behind some bytes of a told stream
pub body_cut : (before after : Option (List ℕ)) (behind bytes : List ℕ) → before ≡ Some behind → before ≡ before_left bytes after
    → (rest : List ℕ) × (after ≡ Some rest) × (behind ≡ bytes ++ rest)
body_cut before None behind bytes told cut = let clash : Some behind ≡ None = sym told ∙ cut in absurd cc
body_cut before (Some rest) behind bytes told cut =
    let same : Some behind ≡ Some (bytes ++ rest) = sym told ∙ cut in
    (rest, refl, cc)

short_told : (before : Option (List ℕ)) (behind : List ℕ) (size : ℕ) → before ≡ Some behind → IfSome before (λ bytes. length bytes < size)
    → length behind < size
short_told before behind size told short = subst (λ (o : Option (List ℕ)). IfSome o (λ bytes. length bytes < size)) told short

-- the line that stands first was taken, or it is none
pub line_takes : (found : Option Line) (size : ℕ) (old mid new : Reading) (before after : Option (List ℕ)) (answer : Taken)
    (stream text behind : List ℕ)
    → mid.taken ≡ old.taken → mid.offset ≡ old.offset → old.taken < MOST_COMMANDS
    → IsLineIn text found → IsFirstLine stream text behind → IsAbsent 10 text → before ≡ Some behind → length stream ≡ size + length behind
    → stream ≢ []
    → TakesLine found size mid new before after answer → Takes old new stream after answer
line_takes None size old mid new before after answer stream text behind same_taken same_offset few none cut absent told whole some
    (is, none_more) =
    subst (Takes old new stream after) (sym is) (record {
      some = some;
      few = few;
      none = none_begins stream text behind cut absent none;
      is_number = ap (λ n. n + 1) same_taken;
      is_offset = same_offset;
    })
line_takes (Some one) size old mid new before after (taken.Command command) stream text behind same_taken same_offset few
    (allowed, is_text) cut absent told whole some ((bytes, moved, all, means), one_more) =
    let (rest, left, parts) = body_cut before after behind bytes told moved in
    let lengths = ap length parts in
    let sums = length-append bytes rest in
    record {
      rest = rest;
      is_left = left;
      first = record {
        line = one;
        body = bytes;
        allowed = allowed;
        whole = all;
        means = means;
        text = subst (IsFirstLine stream (line_text one)) parts (subst (λ xs. IsFirstLine stream xs behind) is_text cut);
      };
      counted = record {
        few = few;
        taken = one_more.taken ∙ ap (λ n. n + 1) same_taken;
        offset = omega (arith, one_more.offset, same_offset, whole, all);
      };
    }
line_takes (Some one) size old mid new before after (taken.Malformed number offset) stream text behind same_taken same_offset few
    (allowed, is_text) cut absent told whole some (short, is_number, is_offset, none_more) =
    record {
      some = some;
      few = few;
      none =
          short_begins stream behind one allowed (subst (λ xs. IsFirstLine stream xs behind) is_text cut)
          (short_told before behind (body_size one) told short);
      is_number = is_number ∙ ap (λ n. n + 1) same_taken;
      is_offset = is_offset ∙ same_offset;
    }
line_takes (Some one) size old mid new before after taken.ReadFault stream text behind same_taken same_offset few is_line cut absent told
    whole some is = tt
line_takes (Some one) size old mid new before after taken.End stream text behind same_taken same_offset few is_line cut absent told whole
    some is = absurd is
line_takes (Some one) size old mid new before after taken.Full stream text behind same_taken same_offset few is_line cut absent told whole
    some is = absurd is

-- a line that is allowed, with the bytes that belong to it, is a command that says what it may
command_fits : (one : Line) (body : List ℕ) → IsLine one → length body ≡ body_size one → IsCommand (command_of one body)
command_fits line.Blank body allowed whole = tt
command_fits (line.Put name size) body (named, short) whole = by_test (nat_le size MOST_FILE_BYTES) refl
  where
    by_test : (b : Bool) → nat_le size MOST_FILE_BYTES ≡ b → IsCommand (if b then command.Put name body else command.PutTooLong name size)
    by_test true is = let few : size ≤ 1048576 = grind (arith, nat_tests) in (named, omega arith)
    by_test false is = let many : 1048576 < size = grind (arith, nat_tests) in (named, many, short)
command_fits (line.DropFile name) body allowed whole = allowed
command_fits line.Start body allowed whole = tt
command_fits (line.Show proc) body allowed whole = allowed
command_fits line.Report body allowed whole = tt
command_fits line.Save body allowed whole = tt
command_fits (line.Gen n) body allowed whole = allowed
command_fits line.Quit body allowed whole = tt

-- where no command was taken, none is counted
pub none_counted : (old new : Reading) → new.taken ≡ old.taken → new.offset ≡ old.offset → (answer : Taken) → IsNoCommand answer
    → IsCounted old new answer
none_counted old new same_taken same_offset (taken.Command command) none = absurd none
none_counted old new same_taken same_offset taken.End none = (same_taken, same_offset)
none_counted old new same_taken same_offset (taken.Malformed number offset) none = (same_taken, same_offset)
none_counted old new same_taken same_offset taken.Full none = (same_taken, same_offset)
none_counted old new same_taken same_offset taken.ReadFault none = (same_taken, same_offset)

-- a command that was taken is counted, and nothing else is
pub line_counted : (found : Option Line) (size : ℕ) (old mid new : Reading) (before after : Option (List ℕ)) (answer : Taken)
    (text : List ℕ)
    → mid.taken ≡ old.taken → mid.offset ≡ old.offset → old.taken < MOST_COMMANDS → IsLineIn text found
    → TakesLine found size mid new before after answer → IsCounted old new answer
line_counted None size old mid new before after answer text same_taken same_offset few none (is, (more_taken, more_offset)) =
    subst (IsCounted old new) (sym is) (more_taken ∙ same_taken, more_offset ∙ same_offset)
line_counted (Some one) size old mid new before after (taken.Command command) text same_taken same_offset few (allowed, is_text)
    ((bytes, moved, all, means), one_more) =
    (few, one_more.taken ∙ ap (λ n. n + 1) same_taken, subst IsCommand (sym means) (command_fits one bytes allowed all))
line_counted (Some one) size old mid new before after (taken.Malformed number offset) text same_taken same_offset few is_line
    (short, is_number, is_offset, (more_taken, more_offset)) =
    (more_taken ∙ same_taken, more_offset ∙ same_offset)
line_counted (Some one) size old mid new before after taken.ReadFault text same_taken same_offset few is_line (more_taken, more_offset) =
    (more_taken ∙ same_taken, more_offset ∙ same_offset)
line_counted (Some one) size old mid new before after taken.End text same_taken same_offset few is_line is = absurd is
line_counted (Some one) size old mid new before after taken.Full text same_taken same_offset few is_line is = absurd is

-- the first line of a stream ends where a line feed stands ahead
pub record IsCutAt (stream ahead : List ℕ) (place : ℕ) (left : Option (List ℕ)) : Type 0 where
  pub behind : List ℕ
  pub cut : IsFirstLine stream (take place ahead) behind
  pub told : before_left (drop (place + 1) ahead) left ≡ Some behind
  pub whole : length stream ≡ (place + 1) + length behind
  pub some : stream ≢ []

pub cut_at : (stream ahead : List ℕ) (place : ℕ) (left : Option (List ℕ)) → before_left ahead left ≡ Some stream → IsFirstAt 10 ahead place
    → IsCutAt stream ahead place left
cut_at stream ahead place None told at = let clash : None ≡ Some stream = told in absurd cc
cut_at stream ahead place (Some rest) told at =
    let whole : ahead ++ rest ≡ stream = cc in
    let text : stream ≡ take place ahead ++ 10 ∷ (drop (place + 1) ahead ++ rest) =
    sym whole ∙ ap (λ xs. xs ++ rest) at.text ∙ append_assoc (take place ahead) (10 ∷ drop (place + 1) ahead) rest in
    let size = ap length whole in
    let parts = length-append ahead rest in
    let parts' = length-append (drop (place + 1) ahead) rest in
    let dropped = length-drop (place + 1) ahead in
    record {
      behind = drop (place + 1) ahead ++ rest;
      cut = inl text;
      told = refl;
      whole = omega (arith, at.within);
      some = λ none. let nothing = ap length none in omega (arith, at.within);
    }

-- the last line of a stream is all that is ahead
pub last_cut : (stream ahead : List ℕ) (left : Option (List ℕ)) → before_left ahead left ≡ Some stream → IsNothingLeft left → stream ≡ ahead
last_cut stream ahead None told none = let clash : None ≡ Some stream = told in absurd cc
last_cut stream ahead (Some rest) told none =
    let whole : ahead ++ rest ≡ stream = cc in sym whole ∙ ap (λ xs. ahead ++ xs) none ∙ append-nil ahead

all_dropped : (xs : List ℕ) → drop (length xs) xs ≡ []
all_dropped [] = refl
all_dropped (x ∷ xs) = all_dropped xs

pub nothing_behind : (stream ahead : List ℕ) (left : Option (List ℕ)) → before_left ahead left ≡ Some stream → IsNothingLeft left
    → before_left (drop (length ahead) ahead) left ≡ Some []
nothing_behind stream ahead None told none = let clash : None ≡ Some stream = told in absurd cc
nothing_behind stream ahead (Some rest) told none =
    ap (λ xs. Some xs) (ap (λ xs. drop (length ahead) ahead ++ xs) none ∙ append-nil (drop (length ahead) ahead) ∙ all_dropped ahead)

-- a stream of which more than a line stands ahead
pub long_ahead : (stream ahead : List ℕ) (left : Option (List ℕ)) → before_left ahead left ≡ Some stream → 256 < length ahead
    → IsAbsent 10 (take 257 ahead) → BeginsWithNone stream
long_ahead stream ahead None told long absent = let clash : None ≡ Some stream = told in absurd cc
long_ahead stream ahead (Some rest) told long absent =
    let whole : ahead ++ rest ≡ stream = cc in
    let size = ap length whole in
    let parts = length-append ahead rest in
    long_begins stream (omega arith)
    (subst (λ xs. IsAbsent 10 (take 257 xs)) whole (subst (IsAbsent 10) (sym (take-append-le 257 ahead rest (omega arith))) absent))

-- where a whole command stands ahead, its line is the first, and all of it is there
pub ended_size : (ahead : List ℕ) (place : ℕ) (one : Line) (body rest : List ℕ) (found : Option Line) → IsFirstAt 10 ahead place
    → IsLineIn (take place ahead) found → IsLine one
    → length body ≡ body_size one → IsEnded ahead (line_text one) (body ++ rest)
    → (found ≡ Some one) × (place + 1 + body_size one ≤ length ahead)
ended_size ahead place one body rest found at is_found allowed whole ended = (by found is_found, size)
  where
    same : (take place ahead ≡ line_text one) × (drop (place + 1) ahead ≡ body ++ rest)
    same =
        part_once 10 (take place ahead) (line_text one) (drop (place + 1) ahead) (body ++ rest) at.first (on_one_line one allowed)
        (sym at.text ∙ ended)

    by : (found : Option Line) → IsLineIn (take place ahead) found → found ≡ Some one
    by None never = absurd (never one allowed same.0)
    by (Some other) (allowed', is_text) = ap (λ l. Some l) (line_once other one allowed' allowed (sym is_text ∙ same.0))

    size : place + 1 + body_size one ≤ length ahead
    size =
        let lengths = ap length same.1 in
        let dropped = length-drop (place + 1) ahead in
        let parts = length-append body rest in
        omega (arith, at.within)
