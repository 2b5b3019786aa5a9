-- `#` lines: what the tokenizer reads of one is what the grammar says.
use Rattle.std.proofs.Common.{◌≡◌, ℕ, zero, suc, ◌+◌, ◌-◌, ◌<◌, Bool, true, false, cond, take, drop, List, [], ◌∷◌, ◌++◌, length, inl, inr}
use Rattle.std.proofs.Common.{◌⊎◌, refl, sym, ap, ◌∙◌, subst, append_assoc, arith}
use Rattle.std.specs.Prelude.{◌==◌, ◌&&◌, nat_le, Option, Some, None, slice_index, codes}
use Rattle.std.specs.List.{list_all, prefix_len}
use Rattle.std.specs.Str.{bytes_eq}
use Rattle.std.proofs.lemmas.Bool.{eqb-true}
use Rattle.std.proofs.lemmas.Bool.Decides.{nat_tests}
use Rattle.std.proofs.lemmas.List.{length-append, get_or_at}
use Rattle.shape_data.specs.Names.{is_name_byte}
use Rattle.c_grammar.specs.declared.tokens.places.Place.{Place}
use Rattle.c_grammar.specs.declared.tokens.places.Refusal.{Refusal}
use Rattle.c_grammar.specs.declared.tokens.pieces.Part.{Part}
use Rattle.c_grammar.specs.declared.tokens.pieces.Part.TheVariants.{LineStart, InLine, Hash, Include, Header}
use Rattle.c_grammar.specs.declared.tokens.pieces.Piece.{Piece}
use Rattle.c_grammar.specs.declared.tokens.pieces.Piece.TheVariants.{Passed, Lexed, Refused as Bad}
use Rattle.c_grammar.specs.Tokens.Places.{after, place_after, refusal}
use Rattle.c_grammar.specs.Tokens.Gaps.{is_space, is_blank, IsLineComment, IsGap, IsLineEnd, OpensComment, EndsInBackslash}
use Rattle.c_grammar.specs.Tokens.Headers.{is_header_byte, IsHeader}
use Rattle.c_grammar.specs.Tokens.Grammar.{Stage, AtHash, AtInclude, AtHeader, IsDirective, IsInclude, BreaksInclude}
use Rattle.c_grammar.specs.Tokens.Pieces.{first_piece, line_feed_piece, block_piece, bare_piece, header_len, begins_with_header}
use Rattle.c_grammar.specs.Tokens.Scan.{line_end, block_end}
use Rattle.c_grammar.specs.declared.tokens.comments.Behind.TheVariants.{Other}
use Rattle.c_grammar.specs.Tokens.Reading.{Reading, Refused, with_piece, reading_from, at_end}
use Rattle.c_grammar.proofs.TokensLemmas.Booleans.{both_true, true_both, cond_true, cond_false}
use Rattle.c_grammar.proofs.TokensLemmas.LexemeLemmas.{Stops, run_len}
use Rattle.c_grammar.proofs.TokensLemmas.PieceLemmas.{first_space, first_line, first_block, first_open}

-- ---- places

pub place_after-append : (front back : List ℕ) (here : Place) → place_after here (front ++ back) ≡ place_after (place_after here front) back
place_after-append [] back here = refl
place_after-append (b ∷ front) back here = place_after-append front back (after here b)

-- ---- reading a `#` line to its end

-- the end of a `#` line, or why it is no `#include` line
pub data Outcome : Type 0 where
  Complete : Place → List ℕ → Outcome
  Broken : Refusal → Outcome

abbrev pub at_stop : Place → List ℕ → Part → Outcome
at_stop here bytes (Hash hash) = Broken (refusal hash 104)
at_stop here bytes (Include hash) = Broken (refusal hash 104)
at_stop here bytes (Header hash) = Complete here bytes
at_stop here bytes LineStart = Complete here bytes
at_stop here bytes InLine = Complete here bytes

abbrev pub behind_piece : Piece → (ℕ → Part → Outcome) → Outcome
behind_piece (Passed n part) others = others (n - 1) part
behind_piece (Lexed kind n) others = others (n - 1) InLine
behind_piece (Bad refusal) others = Broken refusal

abbrev pub directive_from : ℕ → Place → Part → List ℕ → Outcome
directive_from taken here part [] = at_stop here [] part
directive_from (suc taken) here part (b ∷ bytes) = directive_from taken (after here b) part bytes
directive_from zero here part (b ∷ bytes) =
    cond (b == 10) (at_stop here (b ∷ bytes) part)
    (behind_piece (first_piece here part (b ∷ bytes)) (λ taken next. directive_from taken (after here b) next bytes))

-- what is read behind it
abbrev pub resumed : Outcome → Reading
resumed (Complete here bytes) = reading_from zero here InLine bytes
resumed (Broken refusal) = Refused refusal

-- a part of a `#` line
abbrev InDirective : Part → Type 0
InDirective LineStart = ⊥
InDirective InLine = ⊥
InDirective (Hash hash) = Unit {0}
InDirective (Include hash) = Unit {0}
InDirective (Header hash) = Unit {0}

abbrev StaysInDirective : Piece → Type 0
StaysInDirective (Passed n part) = InDirective part
StaysInDirective (Lexed kind n) = ⊥
StaysInDirective (Bad refusal) = Unit {0}

stays_if : (c : Bool) (p q : Piece) → StaysInDirective p → StaysInDirective q → StaysInDirective (cond c p q)
stays_if true p q h k = h
stays_if false p q h k = k

stays_bare : (here : Place) (part : Part) (bytes : List ℕ) → InDirective part → StaysInDirective (bare_piece here part bytes)
stays_bare here LineStart bytes in_directive = absurd in_directive
stays_bare here InLine bytes in_directive = absurd in_directive
stays_bare here (Hash hash) bytes in_directive =
    stays_if (bytes_eq (take (prefix_len is_name_byte bytes) bytes) (codes "include")) (Passed 7 (Include hash))
    (Bad (refusal hash 104)) tt tt
stays_bare here (Include hash) bytes in_directive =
    stays_if (begins_with_header bytes) (Passed (header_len bytes + 2) (Header hash)) (Bad (refusal hash 104)) tt tt
stays_bare here (Header hash) bytes in_directive = tt

stays_block : (here : Place) (part : Part) (end : Option ℕ) → InDirective part → StaysInDirective (block_piece here part end)
stays_block here part None in_directive = tt
stays_block here part (Some n) in_directive = in_directive

stays_first : (here : Place) (part : Part) (b : ℕ) (bytes : List ℕ) → (b == 10) ≡ false → InDirective part
    → StaysInDirective (first_piece here part (b ∷ bytes))
stays_first here part b bytes other in_directive =
    subst StaysInDirective (sym (cond_false (b == 10) (line_feed_piece part) _ other))
    (stays_if (is_blank b) (Passed 1 part) _ in_directive
    (stays_if (b == 47 && slice_index (b ∷ bytes) 1 == 47) (Passed (line_end 0 false (drop 1 bytes) + 2) part) _ in_directive
    (stays_if (b == 47 && slice_index (b ∷ bytes) 1 == 42) (block_piece here part (block_end 0 Other (drop 1 bytes))) _
    (stays_block here part (block_end 0 Other (drop 1 bytes)) in_directive)
    (stays_bare here part (b ∷ bytes) in_directive))))

resumed_feed : (here : Place) (part : Part) (bytes : List ℕ) → InDirective part
    → reading_from zero here part (10 ∷ bytes) ≡ resumed (at_stop here (10 ∷ bytes) part)
resumed_feed here LineStart bytes in_directive = absurd in_directive
resumed_feed here InLine bytes in_directive = absurd in_directive
resumed_feed here (Hash hash) bytes in_directive = refl
resumed_feed here (Include hash) bytes in_directive = refl
resumed_feed here (Header hash) bytes in_directive = refl

resumed_end : (here : Place) (part : Part) → InDirective part → at_end here part ≡ resumed (at_stop here [] part)
resumed_end here LineStart in_directive = absurd in_directive
resumed_end here InLine in_directive = absurd in_directive
resumed_end here (Hash hash) in_directive = refl
resumed_end here (Include hash) in_directive = refl
resumed_end here (Header hash) in_directive = refl

resumed_piece : (piece : Piece) (here : Place) (bytes : List ℕ) (others : ℕ → Part → Reading) (outcomes : ℕ → Part → Outcome)
    → StaysInDirective piece → ((n : ℕ) (part : Part) → InDirective part → others n part ≡ resumed (outcomes n part))
    → with_piece piece here bytes others ≡ resumed (behind_piece piece outcomes)
resumed_piece (Passed n part) here bytes others outcomes stays same = same (n - 1) part stays
resumed_piece (Lexed kind n) here bytes others outcomes stays same = absurd stays
resumed_piece (Bad refusal) here bytes others outcomes stays same = refl

-- the text is read on behind the line
pub resumes : (bytes : List ℕ) (taken : ℕ) (here : Place) (part : Part) → InDirective part
    → reading_from taken here part bytes ≡ resumed (directive_from taken here part bytes)
resumes [] taken here part in_directive = resumed_end here part in_directive
resumes (b ∷ bytes) (suc taken) here part in_directive = resumes bytes taken (after here b) part in_directive
resumes (b ∷ bytes) zero here part in_directive = by (b == 10) refl (λ n next stays. resumes bytes n (after here b) next stays)
  where
    by : (c : Bool) → (b == 10) ≡ c
        → ((n : ℕ) (next : Part) → InDirective next
        → reading_from n (after here b) next bytes ≡ resumed (directive_from n (after here b) next bytes))
        → reading_from zero here part (b ∷ bytes) ≡ resumed (directive_from zero here part (b ∷ bytes))
    by true e same =
        subst (λ x. reading_from zero here part (x ∷ bytes) ≡ resumed (directive_from zero here part (x ∷ bytes))) (sym (eqb-true b 10 e))
        (resumed_feed here part bytes in_directive)
    by false e same =
        resumed_piece (first_piece here part (b ∷ bytes)) here (b ∷ bytes) _ _ (stays_first here part b bytes e in_directive) same
        ∙ sym (ap resumed (cond_false (b == 10) (at_stop here (b ∷ bytes) part) _ e))

-- the bytes that belong to the piece before are passed over
behind_bytes : (piece behind : List ℕ) (here : Place) (part : Part)
    → directive_from (length piece) here part (piece ++ behind) ≡ directive_from zero (place_after here piece) part behind
behind_bytes [] behind here part = refl
behind_bytes (b ∷ piece) behind here part = behind_bytes piece behind (after here b) part

less_one : (n : ℕ) → suc n - 1 ≡ n
less_one n = omega arith

-- a piece of the line
pub directive-passed : (here : Place) (part next : Part) (b : ℕ) (piece behind : List ℕ) → (b == 10) ≡ false
    → first_piece here part (b ∷ (piece ++ behind)) ≡ Passed (length (b ∷ piece)) next
    → directive_from zero here part (b ∷ (piece ++ behind)) ≡ directive_from zero (place_after here (b ∷ piece)) next behind
directive-passed here part next b piece behind other first =
    cond_false (b == 10) (at_stop here (b ∷ (piece ++ behind)) part) _ other
    ∙ ap (λ p. behind_piece p (λ taken more. directive_from taken (after here b) more (piece ++ behind))) first
    ∙ ap (λ k. directive_from k (after here b) next (piece ++ behind)) (less_one (length piece))
    ∙ behind_bytes piece behind (after here b) next

pub directive-broken : (here : Place) (part : Part) (b : ℕ) (bytes : List ℕ) (why : Refusal) → (b == 10) ≡ false
    → first_piece here part (b ∷ bytes) ≡ Bad why → directive_from zero here part (b ∷ bytes) ≡ Broken why
directive-broken here part b bytes why other first =
    cond_false (b == 10) (at_stop here (b ∷ bytes) part) _ other
    ∙ ap (λ p. behind_piece p (λ taken more. directive_from taken (after here b) more bytes)) first

-- ---- what the pieces of a line are

-- a piece that is no line feed, and stands in any part of a line
pub record IsPassed (piece behind : List ℕ) (part next : Part) : Type 0 where
  pub byte : ℕ
  pub bytes : List ℕ
  pub is : piece ≡ byte ∷ bytes
  pub other : (byte == 10) ≡ false
  pub named : is_name_byte byte ≡ false
  pub first : (here : Place) → first_piece here part (piece ++ behind) ≡ Passed (length piece) next

space_other : (b : ℕ) → is_space b ≡ true → (b == 10) ≡ false
space_other b e = grind (arith, nat_tests)

space_no_name : (b : ℕ) → is_space b ≡ true → is_name_byte b ≡ false
space_no_name b e = grind (arith, nat_tests)

pub gap_passed : (gap behind : List ℕ) (part : Part) → IsGap gap → IsPassed gap behind part part
gap_passed gap behind part (IsGap.space b is same) = record {
  byte = b;
  bytes = [];
  is = same;
  other = space_other b is;
  named = space_no_name b is;
  first = λ here. ap (λ l. first_piece here part (l ++ behind)) same ∙ first_space here part b behind is
      ∙ ap (λ l. Passed (length l) part) (sym same);
}
gap_passed gap behind part (IsGap.comment is) = record {
  byte = 47;
  bytes = 42 ∷ (is.body ++ 47 ∷ []);
  is = is.is;
  other = refl;
  named = refl;
  first = λ here. first_block here part gap behind is;
}

pub line_passed : (comment behind : List ℕ) (part : Part) → IsLineComment comment behind → IsPassed comment behind part part
line_passed comment behind part is = record {
  byte = 47;
  bytes = 47 ∷ is.body;
  is = is.is;
  other = refl;
  named = refl;
  first = λ here. first_line here part comment behind is;
}

-- the line goes on behind such a piece
pub goes_behind : (here : Place) (piece behind : List ℕ) (part next : Part) → IsPassed piece behind part next
    → directive_from zero here part (piece ++ behind) ≡ directive_from zero (place_after here piece) next behind
goes_behind here piece behind part next is =
    ap (λ l. directive_from zero here part (l ++ behind)) is.is
    ∙ directive-passed here part next is.byte is.bytes behind is.other
    (ap (λ l. first_piece here part (l ++ behind)) (sym is.is) ∙ is.first here ∙ ap (λ l. Passed (length l) next) is.is)
    ∙ ap (λ l. directive_from zero (place_after here l) next behind) (sym is.is)

header_run : (name : List ℕ) (b : ℕ) (rest : List ℕ) → list_all is_header_byte name ≡ true → is_header_byte b ≡ false
    → prefix_len is_header_byte (name ++ b ∷ rest) ≡ length name
header_run [] b rest each stops = cond_false (is_header_byte b) (1 + prefix_len is_header_byte rest) 0 stops
header_run (c ∷ name) b rest each stops =
    let (first, others) = both_true (is_header_byte c) (list_all is_header_byte name) each in
    let more = header_run name b rest others stops in
    cond_true (is_header_byte c) (1 + prefix_len is_header_byte (name ++ b ∷ rest)) 0 first ∙ omega arith

at_least_one : (n : ℕ) → 0 < n → nat_le 1 n ≡ true
at_least_one n some = grind (arith, nat_tests)

pub header_passed : (hash : Place) (header behind : List ℕ) → IsHeader header → IsPassed header behind (Include hash) (Header hash)
header_passed hash header behind is = record {
  byte = 60;
  bytes = is.name ++ 62 ∷ [];
  is = is.is;
  other = refl;
  named = refl;
  first = λ here.
      ap (λ l. first_piece here (Include hash) (l ++ behind)) is.is
      ∙ ap (λ l. first_piece here (Include hash) (60 ∷ l)) (append_assoc is.name (62 ∷ []) behind)
      ∙ cond_true (begins_with_header (60 ∷ (is.name ++ 62 ∷ behind)))
      (Passed (header_len (60 ∷ (is.name ++ 62 ∷ behind)) + 2) (Header hash)) (Bad (refusal hash 104)) begins
      ∙ ap (λ n. Passed n (Header hash)) (ap (λ n. n + 2) count ∙ long ∙ sym (ap length is.is));
}
  where
    count : header_len (60 ∷ (is.name ++ 62 ∷ behind)) ≡ length is.name
    count = header_run is.name 62 behind is.each refl

    long : length is.name + 2 ≡ length (60 ∷ (is.name ++ 62 ∷ []))
    long = let more = length-append is.name (62 ∷ []) in omega arith

    close : slice_index (60 ∷ (is.name ++ 62 ∷ behind)) (length is.name + 1) ≡ 62
    close = ap (slice_index (60 ∷ (is.name ++ 62 ∷ behind))) (next (length is.name)) ∙ get_or_at is.name 62 behind 0 (length is.name) refl
      where
        next : (n : ℕ) → n + 1 ≡ suc n
        next n = omega arith

    begins : begins_with_header (60 ∷ (is.name ++ 62 ∷ behind)) ≡ true
    begins =
        true_both (nat_le 1 (header_len (60 ∷ (is.name ++ 62 ∷ behind))))
        (slice_index (60 ∷ (is.name ++ 62 ∷ behind)) (header_len (60 ∷ (is.name ++ 62 ∷ behind)) + 1) == 62)
        (ap (nat_le 1) count ∙ at_least_one (length is.name) is.some)
        (ap (λ n. slice_index (60 ∷ (is.name ++ 62 ∷ behind)) (n + 1) == 62) count ∙ ap (λ x. x == 62) close)

pub include_passed : (hash : Place) (behind : List ℕ) → Stops behind → (here : Place)
    → first_piece here (Hash hash) (codes "include" ++ behind) ≡ Passed 7 (Include hash)
include_passed hash behind stops here =
    ap (λ n. cond (bytes_eq (take n (codes "include" ++ behind)) (codes "include")) (Passed 7 (Include hash)) (Bad (refusal hash 104)))
    (run_len (codes "include") behind refl stops)

-- ---- from the grammar to what is read

abbrev pub part_at : Stage → Place → Part
part_at AtHash hash = Hash hash
part_at AtInclude hash = Include hash
part_at AtHeader hash = Header hash

-- what may follow the front
abbrev Follows : Stage → List ℕ → Type 0
Follows AtHash rest = Unit {0}
Follows AtInclude rest = Stops rest
Follows AtHeader rest = Unit {0}

follows_passed : (stage : Stage) (piece behind : List ℕ) (part next : Part) → IsPassed piece behind part next
    → Follows stage (piece ++ behind)
follows_passed AtHash piece behind part next is = tt
follows_passed AtInclude piece behind part next is = subst (λ l. Stops (l ++ behind)) (sym is.is) is.named
follows_passed AtHeader piece behind part next is = tt

pub front_read : (hash : Place) (front : List ℕ) (stage : Stage) → IsDirective front stage → (rest : List ℕ) → Follows stage rest
    → directive_from zero hash LineStart (front ++ rest) ≡ directive_from zero (place_after hash front) (part_at stage hash) rest
front_read hash _ _ IsDirective.hash rest follows = refl
front_read hash _ _ (IsDirective.include front is) rest follows =
    ap (directive_from zero hash LineStart) (append_assoc front (codes "include") rest)
    ∙ front_read hash front AtHash is (codes "include" ++ rest) tt
    ∙ directive-passed (place_after hash front) (Hash hash) (Include hash) 105 (codes "nclude") rest refl
    (include_passed hash rest follows (place_after hash front))
    ∙ ap (λ p. directive_from zero p (Include hash) rest) (sym (place_after-append front (codes "include") hash))
front_read hash _ _ (IsDirective.header front header is header_is) rest follows =
    let passed = header_passed hash header rest header_is in
    ap (directive_from zero hash LineStart) (append_assoc front header rest)
    ∙ front_read hash front AtInclude is (header ++ rest) (follows_passed AtInclude header rest (Include hash) (Header hash) passed)
    ∙ goes_behind (place_after hash front) header rest (Include hash) (Header hash) passed
    ∙ ap (λ p. directive_from zero p (Header hash) rest) (sym (place_after-append front header hash))
front_read hash _ _ (IsDirective.gap front gap stage is gap_is) rest follows =
    let passed = gap_passed gap rest (part_at stage hash) gap_is in
    ap (directive_from zero hash LineStart) (append_assoc front gap rest)
    ∙ front_read hash front stage is (gap ++ rest) (follows_passed stage gap rest (part_at stage hash) (part_at stage hash) passed)
    ∙ goes_behind (place_after hash front) gap rest (part_at stage hash) (part_at stage hash) passed
    ∙ ap (λ p. directive_from zero p (part_at stage hash) rest) (sym (place_after-append front gap hash))

line_ends : (here hash : Place) (behind : List ℕ) → IsLineEnd behind → directive_from zero here (Header hash) behind ≡ Complete here behind
line_ends here hash behind (inl none) = subst (λ l. directive_from zero here (Header hash) l ≡ Complete here l) (sym none) refl
line_ends here hash behind (inr (rest, is)) = subst (λ l. directive_from zero here (Header hash) l ≡ Complete here l) (sym is) refl

pub comment_ends : (comment behind : List ℕ) → IsLineComment comment behind → IsLineEnd behind
comment_ends comment behind is = by is.ends
  where
    by : (behind ≡ []) ⊎ ((rest : List ℕ) × (behind ≡ 10 ∷ rest) × ¬ EndsInBackslash is.body) → IsLineEnd behind
    by (inl none) = inl none
    by (inr (rest, same, free)) = inr (rest, same)

pub include_read : (hash : Place) (line behind : List ℕ) → IsInclude line behind
    → directive_from zero hash LineStart (line ++ behind) ≡ Complete (place_after hash line) behind
include_read hash line behind (IsInclude.bare is ends) =
    front_read hash line AtHeader is behind tt ∙ line_ends (place_after hash line) hash behind ends
include_read hash line behind (IsInclude.commented front comment is comment_is same) =
    ap (λ l. directive_from zero hash LineStart (l ++ behind)) same
    ∙ ap (directive_from zero hash LineStart) (append_assoc front comment behind)
    ∙ front_read hash front AtHeader is (comment ++ behind) tt
    ∙ goes_behind (place_after hash front) comment behind (Header hash) (Header hash) (line_passed comment behind (Header hash) comment_is)
    ∙ line_ends (place_after (place_after hash front) comment) hash behind (comment_ends comment behind comment_is)
    ∙ ap (λ p. Complete p behind) (sym (place_after-append front comment hash) ∙ ap (place_after hash) (sym same))

follows_open : (stage : Stage) (rest : List ℕ) → OpensComment rest → Follows stage rest
follows_open AtHash rest opens = tt
follows_open AtInclude rest (body, is, none) = subst Stops (sym is) refl
follows_open AtHeader rest opens = tt

pub open_read : (here : Place) (part : Part) (bytes : List ℕ) → OpensComment bytes
    → directive_from zero here part bytes ≡ Broken (refusal here 102)
open_read here part bytes (body, is, none) =
    subst (λ l. directive_from zero here part l ≡ Broken (refusal here 102)) (sym is)
    (directive-broken here part 47 (42 ∷ body) (refusal here 102) refl (first_open here part (47 ∷ 42 ∷ body) (body, refl, none)))

pub breaks_read : (hash : Place) (front bytes : List ℕ) → BreaksInclude front bytes
    → directive_from zero hash LineStart bytes ≡ Broken (refusal (place_after hash front) 102)
breaks_read hash front bytes (stage, rest, is, opens, same) =
    ap (directive_from zero hash LineStart) same
    ∙ front_read hash front stage is rest (follows_open stage rest opens)
    ∙ open_read (place_after hash front) (part_at stage hash) rest opens
