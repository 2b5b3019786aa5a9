-- `#` lines: what is read of one is told by the grammar.
use Rattle.std.proofs.Common.{◌≡◌, ℕ, zero, suc, ◌+◌, ◌<◌, Bool, true, false, take, List, [], ◌∷◌, ◌++◌, length, inl, inr, ◌⊎◌, refl, sym}
use Rattle.std.proofs.Common.{ap, ◌∙◌, subst, append_assoc, arith}
use Rattle.std.specs.Prelude.{◌==◌, ◌&&◌, nat_le, slice_index, codes}
use Rattle.std.specs.List.{list_all, prefix_len}
use Rattle.std.specs.Str.{bytes_eq}
use Rattle.std.proofs.lemmas.Bool.{eqb-true}
use Rattle.std.proofs.lemmas.Bool.Decides.{nat_tests}
use Rattle.std.proofs.lemmas.Slice.Eq.{bytes_eq-Decides}
use Rattle.std.proofs.lemmas.List.{length-append, take_at, get_or-append-add}
use Rattle.shape_data.specs.Names.{is_name_byte}
use Rattle.c_grammar.specs.declared.tokens.places.Place.{Place}
use Rattle.c_grammar.specs.declared.tokens.places.Refusal.{Refusal}
use Rattle.c_grammar.specs.declared.tokens.pieces.Part.TheVariants.{LineStart, Hash, Include, Header}
use Rattle.c_grammar.specs.declared.tokens.pieces.Piece.TheVariants.{Passed, Refused as Bad}
use Rattle.c_grammar.specs.Tokens.Places.{place_after, refusal}
use Rattle.c_grammar.specs.Tokens.Gaps.{is_blank, IsLineComment, IsGap, IsLineEnd}
use Rattle.c_grammar.specs.Tokens.Headers.{is_header_byte, IsHeader}
use Rattle.c_grammar.specs.Tokens.Grammar.{
  Stage,
  AtHash,
  AtInclude,
  AtHeader,
  IsDirective,
  IsInclude,
  BeginsInclude,
  BreaksInclude,
  BeginsComment,
}
use Rattle.c_grammar.specs.Tokens.Pieces.{header_len, begins_with_header}
use Rattle.c_grammar.proofs.TokensLemmas.Booleans.{both_true, true_both, cond_true, cond_false}
use Rattle.c_grammar.proofs.TokensLemmas.Fronts.{differ}
use Rattle.c_grammar.proofs.TokensLemmas.LexemeLemmas.{Stops, run_of}
use Rattle.c_grammar.proofs.TokensLemmas.PieceLemmas.{first_bare, Begin, begin}
use Rattle.c_grammar.proofs.TokensLemmas.Directives.{
  place_after-append,
  Outcome,
  Complete,
  Broken,
  directive_from,
  directive-passed,
  directive-broken,
}
use Rattle.c_grammar.proofs.TokensLemmas.Directives.{
  gap_passed,
  line_passed,
  goes_behind,
  header_passed,
  include_passed,
  part_at,
  comment_ends,
}
use Rattle.c_grammar.proofs.TokensLemmas.Directives.{open_read, include_read, breaks_read}

-- what the outcome tells of the whole line
abbrev pub Told : Place → List ℕ → Outcome → Type 0
Told hash bytes (Complete place behind) =
    (line : List ℕ) × IsInclude line behind × (bytes ≡ line ++ behind) × (place ≡ place_after hash line)
Told hash bytes (Broken why) = (why ≡ refusal hash 104)
    ⊎ ((front : List ℕ) × BreaksInclude front bytes × (why ≡ refusal (place_after hash front) 102))

-- from here on
abbrev Tells : Place → List ℕ → Stage → List ℕ → Type 0
Tells hash front stage rest = Told hash (front ++ rest) (directive_from zero (place_after hash front) (part_at stage hash) rest)

advance : (hash : Place) (front piece behind : List ℕ) (stage next : Stage)
    → directive_from zero (place_after hash front) (part_at stage hash) (piece ++ behind)
    ≡ directive_from zero (place_after (place_after hash front) piece) (part_at next hash) behind → Tells hash (front ++ piece) next behind
    → Tells hash front stage (piece ++ behind)
advance hash front piece behind stage next same told =
    subst (λ l. Told hash l (directive_from zero (place_after hash front) (part_at stage hash) (piece ++ behind)))
    (append_assoc front piece behind)
    (subst (Told hash ((front ++ piece) ++ behind))
    (ap (λ p. directive_from zero p (part_at next hash) behind) (place_after-append front piece hash) ∙ sym same) told)

at_text_end : (hash : Place) (front : List ℕ) (stage : Stage) → IsDirective front stage → Tells hash front stage []
at_text_end hash front AtHash is = inl refl
at_text_end hash front AtInclude is = inl refl
at_text_end hash front AtHeader is = (front, IsInclude.bare is (inl refl), refl, refl)

at_feed : (hash : Place) (front rest : List ℕ) (stage : Stage) → IsDirective front stage → Tells hash front stage (10 ∷ rest)
at_feed hash front rest AtHash is = inl refl
at_feed hash front rest AtInclude is = inl refl
at_feed hash front rest AtHeader is = (front, IsInclude.bare is (inr (rest, refl)), refl, refl)

at_comment : (hash : Place) (front comment behind : List ℕ) (stage : Stage) → IsDirective front stage → IsLineComment comment behind
    → Tells hash front stage (comment ++ behind)
at_comment hash front comment behind stage is comment_is =
    subst (Told hash (front ++ (comment ++ behind)))
    (sym (goes_behind (place_after hash front) comment behind (part_at stage hash) (part_at stage hash)
    (line_passed comment behind (part_at stage hash) comment_is)))
    (by stage behind comment_is is (comment_ends comment behind comment_is))
  where
    by : (stage : Stage) (behind : List ℕ) → IsLineComment comment behind → IsDirective front stage → IsLineEnd behind
        → Told hash (front ++ (comment ++ behind))
        (directive_from zero (place_after (place_after hash front) comment) (part_at stage hash) behind)
    by AtHash behind c is (inl none) =
        subst (λ l. Told hash (front ++ (comment ++ l)) (directive_from zero (place_after (place_after hash front) comment) (Hash hash) l))
        (sym none) (inl refl)
    by AtHash behind c is (inr (rest, same)) =
        subst (λ l. Told hash (front ++ (comment ++ l)) (directive_from zero (place_after (place_after hash front) comment) (Hash hash) l))
        (sym same) (inl refl)
    by AtInclude behind c is (inl none) =
        subst (λ l. Told hash (front ++ (comment ++ l))
        (directive_from zero (place_after (place_after hash front) comment) (Include hash) l))
        (sym none) (inl refl)
    by AtInclude behind c is (inr (rest, same)) =
        subst (λ l. Told hash (front ++ (comment ++ l))
        (directive_from zero (place_after (place_after hash front) comment) (Include hash) l))
        (sym same) (inl refl)
    by AtHeader behind c is (inl none) =
        let whole : IsInclude (front ++ comment) behind = IsInclude.commented front comment is c refl in
        subst (λ l. Told hash (front ++ (comment ++ l))
        (directive_from zero (place_after (place_after hash front) comment) (Header hash) l)) (sym none) (
          front ++ comment,
          subst (IsInclude (front ++ comment)) none whole,
          sym (append_assoc front comment []),
          sym
              (place_after-append front comment hash),
        )
    by AtHeader behind c is (inr (rest, same)) =
        let whole : IsInclude (front ++ comment) behind = IsInclude.commented front comment is c refl in
        subst (λ l. Told hash (front ++ (comment ++ l))
        (directive_from zero (place_after (place_after hash front) comment) (Header hash) l)) (sym same) (
          front ++ comment,
          subst (IsInclude (front ++ comment)) same whole,
          sym (append_assoc front comment (10 ∷ rest)),
          sym
              (place_after-append front comment hash),
        )

-- the name of a header
record HeaderRun (bytes : List ℕ) : Type 0 where
  word : List ℕ
  rest : List ℕ
  is : bytes ≡ word ++ rest
  count : prefix_len is_header_byte bytes ≡ length word
  each : list_all is_header_byte word ≡ true

header_run_of : (bytes : List ℕ) → HeaderRun bytes
header_run_of [] = record { word = []; rest = []; is = refl; count = refl; each = refl }
header_run_of (b ∷ bytes) = by (is_header_byte b) refl (header_run_of bytes)
  where
    by : (c : Bool) → is_header_byte b ≡ c → HeaderRun bytes → HeaderRun (b ∷ bytes)
    by true e more = record {
      word = b ∷ more.word;
      rest = more.rest;
      is = ap (λ l. b ∷ l) more.is;
      count = cond_true (is_header_byte b) (1 + prefix_len is_header_byte bytes) 0 e ∙ (let c = more.count in omega arith);
      each = true_both (is_header_byte b) (list_all is_header_byte more.word) e more.each;
    }
    by false e more =
        record {
          word = [];
          rest = b ∷ bytes;
          is = refl;
          count = cond_false (is_header_byte b) (1 + prefix_len is_header_byte bytes) 0 e;
          each = refl;
        }

one_at_least : (n : ℕ) → nat_le 1 n ≡ true → 0 < n
one_at_least n e = grind (arith, nat_tests)

header_begins : (b : ℕ) (bytes : List ℕ) → begins_with_header (b ∷ bytes) ≡ true
    → (header behind : List ℕ) × IsHeader header × (b ∷ bytes ≡ header ++ behind)
header_begins b bytes e =
    let run = header_run_of bytes in
    let (opens, others) =
    both_true (b == 60)
    (nat_le 1 (prefix_len is_header_byte bytes) && slice_index (b ∷ bytes) (prefix_len is_header_byte bytes + 1) == 62) e in
    let (some, close) =
    both_true (nat_le 1 (prefix_len is_header_byte bytes)) (slice_index (b ∷ bytes) (prefix_len is_header_byte bytes + 1) == 62) others in
    let count = run.count in
    let at : slice_index (run.word ++ run.rest) (length run.word + 0) ≡ 62 = ap (λ l. slice_index l (length run.word + 0)) (sym run.is)
    ∙ ap (slice_index (b ∷ bytes)) (place (length run.word) (prefix_len is_header_byte bytes) count)
    ∙ eqb-true (slice_index (b ∷ bytes) (prefix_len is_header_byte bytes + 1)) 62 close in
    by run (one_at_least (length run.word) (ap (nat_le 1) (sym count) ∙ some)) (eqb-true b 60 opens) run.rest run.is
    (sym (get_or-append-add run.word run.rest 0 0) ∙ at)
  where
    place : (m n : ℕ) → n ≡ m → suc (m + 0) ≡ n + 1
    place m n e = omega arith

    by : (run : HeaderRun bytes) → 0 < length run.word → b ≡ 60 → (rest : List ℕ) → bytes ≡ run.word ++ rest → slice_index rest 0 ≡ 62
        → (header behind : List ℕ) × IsHeader header × (b ∷ bytes ≡ header ++ behind)
    by run some opens [] is close = absurd (omega arith)
    by run some opens (c ∷ rest) is close = (
      60 ∷ (run.word ++ 62 ∷ []),
      rest,
      record { name = run.word; some = some; each = run.each; is = refl },
      ap (λ x. x ∷ bytes) opens ∙ ap (λ l. 60 ∷ l) (is ∙ ap (λ x. run.word ++ x ∷ rest) close ∙ sym (append_assoc run.word (62 ∷ []) rest)),
    )

-- what is read where neither a gap nor a comment nor a line feed stands
at_bare : (hash : Place) (front : List ℕ) (stage : Stage) (b : ℕ) (more : List ℕ) → IsDirective front stage → is_blank b ≡ false
    → ¬ BeginsComment (b ∷ more)
    → ((front : List ℕ) (stage : Stage) (rest : List ℕ) → length rest < length (b ∷ more) → IsDirective front stage
    → Tells hash front stage rest) → Tells hash front stage (b ∷ more)
at_bare hash front AtHash b more is blank none next =
    by (bytes_eq (take (prefix_len is_name_byte (b ∷ more)) (b ∷ more)) (codes "include")) refl
  where
    here : Place
    here = place_after hash front

    no_feed : (b == 10) ≡ false
    no_feed = grind (arith, nat_tests)

    goes_on : (word rest : List ℕ) → b ∷ more ≡ word ++ rest → Stops rest → word ≡ codes "include" → Tells hash front AtHash (b ∷ more)
    goes_on word rest same stops word_is =
        let whole : b ∷ more ≡ codes "include" ++ rest = same ∙ ap (λ l. l ++ rest) word_is in
        let shorter = ap length whole in
        subst (Tells hash front AtHash) (sym whole)
        (advance hash front (codes "include") rest AtHash AtInclude
        (directive-passed (place_after hash front) (Hash hash) (Include hash) 105 (codes "nclude") rest refl
        (include_passed hash rest stops (place_after hash front)))
        (next (front ++ codes "include") AtInclude rest (omega arith) (IsDirective.include front is)))

    by : (c : Bool) → bytes_eq (take (prefix_len is_name_byte (b ∷ more)) (b ∷ more)) (codes "include") ≡ c
        → Tells hash front AtHash (b ∷ more)
    by true e =
        let run = run_of (b ∷ more) in
        goes_on run.word run.rest run.is run.stops
        (sym (ap (λ n. take n (b ∷ more)) run.count ∙ ap (take (length run.word)) run.is ∙ take_at run.word run.rest (length run.word) refl)
        ∙ (bytes_eq-Decides (take (prefix_len is_name_byte (b ∷ more)) (b ∷ more)) (codes "include")).0 e)
    by false e =
        subst (Told hash (front ++ b ∷ more))
        (sym (directive-broken (place_after hash front) (Hash hash) b more (refusal hash 104) no_feed
        (first_bare (place_after hash front) (Hash hash) b more blank none
        ∙ cond_false (bytes_eq (take (prefix_len is_name_byte (b ∷ more)) (b ∷ more)) (codes "include")) (Passed 7 (Include hash))
        (Bad (refusal hash 104)) e)))
        (inl refl)
at_bare hash front AtInclude b more is blank none next = by (begins_with_header (b ∷ more)) refl
  where
    no_feed : (b == 10) ≡ false
    no_feed = grind (arith, nat_tests)

    header_some : (header : List ℕ) → IsHeader header → 0 < length header
    header_some header is = let whole = ap length is.is in omega arith

    goes_on : (header behind : List ℕ) → IsHeader header → b ∷ more ≡ header ++ behind → Tells hash front AtInclude (b ∷ more)
    goes_on header behind header_is same =
        let some = header_some header header_is in
        let shorter = ap length same ∙ length-append header behind in
        subst (Tells hash front AtInclude) (sym same)
        (advance hash front header behind AtInclude AtHeader
        (goes_behind (place_after hash front) header behind (Include hash) (Header hash) (header_passed hash header behind header_is))
        (next (front ++ header) AtHeader behind (omega arith) (IsDirective.header front header is header_is)))

    by : (c : Bool) → begins_with_header (b ∷ more) ≡ c → Tells hash front AtInclude (b ∷ more)
    by true e = let (header, behind, header_is, same) = header_begins b more e in goes_on header behind header_is same
    by false e =
        subst (Told hash (front ++ b ∷ more))
        (sym (directive-broken (place_after hash front) (Include hash) b more (refusal hash 104) no_feed
        (first_bare (place_after hash front) (Include hash) b more blank none
        ∙ cond_false (begins_with_header (b ∷ more)) (Passed (header_len (b ∷ more) + 2) (Header hash)) (Bad (refusal hash 104)) e)))
        (inl refl)
at_bare hash front AtHeader b more is blank none next =
    subst (Told hash (front ++ b ∷ more))
    (sym (directive-broken (place_after hash front) (Header hash) b more (refusal hash 104) no_feed
    (first_bare (place_after hash front) (Header hash) b more blank none)))
    (inl refl)
  where
    no_feed : (b == 10) ≡ false
    no_feed = grind (arith, nat_tests)

at_begin : (hash : Place) (front : List ℕ) (stage : Stage) (rest : List ℕ) → IsDirective front stage → Begin rest
    → ((front : List ℕ) (stage : Stage) (more : List ℕ) → length more < length rest → IsDirective front stage → Tells hash front stage more)
    → Tells hash front stage rest
at_begin hash front stage _ is (Begin.feed rest) next = at_feed hash front rest stage is
at_begin hash front stage _ is (Begin.space b rest space) next =
    let gap : IsGap (b ∷ []) = IsGap.space b space refl in
    advance hash front (b ∷ []) rest stage stage
    (goes_behind (place_after hash front) (b ∷ []) rest (part_at stage hash) (part_at stage hash)
    (gap_passed (b ∷ []) rest (part_at stage hash) gap))
    (next (front ++ b ∷ []) stage rest (omega arith) (IsDirective.gap front (b ∷ []) stage is gap))
at_begin hash front stage _ is (Begin.line comment behind comment_is) next = at_comment hash front comment behind stage is comment_is
at_begin hash front stage _ is (Begin.block comment behind comment_is) next =
    let gap : IsGap comment = IsGap.comment comment_is in
    let some = ap length comment_is.is in
    let shorter = length-append comment behind in
    advance hash front comment behind stage stage
    (goes_behind (place_after hash front) comment behind (part_at stage hash) (part_at stage hash)
    (gap_passed comment behind (part_at stage hash) gap))
    (next (front ++ comment) stage behind (omega arith) (IsDirective.gap front comment stage is gap))
at_begin hash front stage _ is (Begin.open_comment rest opens) next =
    subst (Told hash (front ++ rest)) (sym (open_read (place_after hash front) (part_at stage hash) rest opens))
    (inr (front, (stage, rest, is, opens, refl), refl))
at_begin hash front stage _ is (Begin.bare b more blank none) next = at_bare hash front stage b more is blank none next

tells : (bound : ℕ) (hash : Place) (front : List ℕ) (stage : Stage) (rest : List ℕ) → length rest < bound → IsDirective front stage
    → Tells hash front stage rest
tells zero hash front stage rest short is = absurd (omega arith)
tells (suc bound) hash front stage [] short is = at_text_end hash front stage is
tells (suc bound) hash front stage (b ∷ rest) short is =
    at_begin hash front stage (b ∷ rest) is (begin b rest)
    (λ front stage more shorter is. tells bound hash front stage more (omega arith) is)

told : (hash : Place) (more : List ℕ) → Told hash (35 ∷ more) (directive_from zero hash LineStart (35 ∷ more))
told hash more = tells (suc (length more)) hash (codes "#") AtHash more (omega arith) IsDirective.hash

-- a line that is no `#include` line, and why
pub data NoInclude (hash : Place) (bytes : List ℕ) : Refusal → Type 0 where
  no_line : ¬ BeginsInclude bytes → ((front : List ℕ) → ¬ BreaksInclude front bytes) → NoInclude hash bytes (refusal hash 104)
  opens_comment : (front : List ℕ) → BreaksInclude front bytes → NoInclude hash bytes (refusal (place_after hash front) 102)

abbrev pub DirectiveCut : Place → List ℕ → Outcome → Type 0
DirectiveCut hash bytes (Complete place behind) =
    (line : List ℕ) × IsInclude line behind × (bytes ≡ line ++ behind) × (place ≡ place_after hash line)
DirectiveCut hash bytes (Broken why) = NoInclude hash bytes why

abbrev code_of : Outcome → ℕ
code_of (Broken why) = why.code
code_of (Complete place behind) = 0

pub directive_cut : (hash : Place) (more : List ℕ) → DirectiveCut hash (35 ∷ more) (directive_from zero hash LineStart (35 ∷ more))
directive_cut hash more = by (directive_from zero hash LineStart (35 ∷ more)) refl (told hash more)
  where
    no_include : (why : Refusal) → directive_from zero hash LineStart (35 ∷ more) ≡ Broken why → ¬ BeginsInclude (35 ∷ more)
    no_include why e = λ (line, behind, is, same). no line behind is same
      where
        no : (line behind : List ℕ) → IsInclude line behind → 35 ∷ more ≡ line ++ behind → ⊥
        no line behind is same =
            let both : Broken why ≡ Complete (place_after hash line) behind =
            sym e ∙ ap (directive_from zero hash LineStart) same ∙ include_read hash line behind is in cc

    no_break : directive_from zero hash LineStart (35 ∷ more) ≡ Broken (refusal hash 104) → (front : List ℕ)
        → ¬ BreaksInclude front (35 ∷ more)
    no_break e front breaks =
        let both : Broken (refusal hash 104) ≡ Broken (refusal (place_after hash front) 102) =
        sym e ∙ breaks_read hash front (35 ∷ more) breaks in
        differ 104 102 refl (ap code_of both)

    by : (outcome : Outcome) → directive_from zero hash LineStart (35 ∷ more) ≡ outcome → Told hash (35 ∷ more) outcome
        → DirectiveCut hash (35 ∷ more) outcome
    by (Complete place behind) e t = t
    by (Broken why) e (inl is) =
        subst (NoInclude hash (35 ∷ more)) (sym is) (NoInclude.no_line (no_include why e) (no_break (e ∙ ap Broken is)))
    by (Broken why) e (inr (front, breaks, is)) = subst (NoInclude hash (35 ∷ more)) (sym is) (NoInclude.opens_comment front breaks)
