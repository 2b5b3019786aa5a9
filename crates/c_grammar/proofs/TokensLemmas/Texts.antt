-- What is read of a text is what the grammar says, both ways.
use Rattle.std.proofs.Common.{◌≡◌, ℕ, zero, suc, ◌<◌, Bool, true, false, drop, List, [], ◌∷◌, ◌++◌, length, inl, inr, ◌⊎◌, refl, sym, ap}
use Rattle.std.proofs.Common.{◌∙◌, subst, append_assoc, arith}
use Rattle.std.specs.Prelude.{◌==◌, codes}
use Rattle.std.proofs.lemmas.Bool.{eqb-true}
use Rattle.std.proofs.lemmas.Bool.Decides.{nat_tests}
use Rattle.std.proofs.lemmas.List.{length-append, take_at, drop_at}
use Rattle.shape_data.specs.Names.{is_name_byte}
use Rattle.c_grammar.specs.declared.tokens.places.Place.{Place}
use Rattle.c_grammar.specs.declared.tokens.places.Refusal.{Refusal}
use Rattle.c_grammar.specs.declared.tokens.pieces.Part.{Part}
use Rattle.c_grammar.specs.declared.tokens.pieces.Part.TheVariants.{LineStart, InLine, Hash}
use Rattle.c_grammar.specs.declared.tokens.pieces.Piece.{Piece}
use Rattle.c_grammar.specs.declared.tokens.pieces.Piece.TheVariants.{Passed, Lexed, Refused as Bad}
use Rattle.c_grammar.specs.declared.tokens.token.Token.{Token}
use Rattle.c_grammar.specs.declared.tokens.token.TokenKind.{TokenKind}
use Rattle.c_grammar.specs.declared.tokens.token.TokenKind.TheVariants.{End}
use Rattle.c_grammar.specs.Tokens.Places.{after, place_after, refusal}
use Rattle.c_grammar.specs.Tokens.Gaps.{is_blank, IsGap, OpensComment}
use Rattle.c_grammar.specs.Tokens.Lexemes.{IsLexeme, IsLongest, IsToken}
use Rattle.c_grammar.specs.Tokens.Grammar.{
  token_at,
  Position,
  start,
  behind_piece,
  Stage,
  AtHash,
  AtInclude,
  AtHeader,
  IsDirective,
  IsInclude,
}
use Rattle.c_grammar.specs.Tokens.Grammar.{BreaksInclude, BeginsComment, BeginsWith, IsPiece, Reads, HasTokens, Fails, Refuses}
use Rattle.c_grammar.specs.Tokens.Pieces.{first_piece, token_piece}
use Rattle.c_grammar.specs.Tokens.Reading.{Reading, Tokens, Refused, with_token, reading_from, reading}
use Rattle.c_grammar.specs.Tokens.Steps.{with_tokens}
use Rattle.c_grammar.proofs.TokensLemmas.Booleans.{cond_false}
use Rattle.c_grammar.proofs.TokensLemmas.Fronts.{heads, differ}
use Rattle.c_grammar.proofs.TokensLemmas.LexemeLemmas.{Shape, shape, short_start}
use Rattle.c_grammar.proofs.TokensLemmas.TokenLemmas.{
  TokenCut,
  NoTokenAt,
  token_cut,
  token_found,
  token_lexeme,
  no_token_found,
  bad_number_found,
}
use Rattle.c_grammar.proofs.TokensLemmas.TokenLemmas.{long_found}
use Rattle.c_grammar.proofs.TokensLemmas.PieceLemmas.{first_open, first_bare, Begin, begin}
use Rattle.c_grammar.proofs.TokensLemmas.Directives.{
  Outcome,
  Complete,
  Broken,
  directive_from,
  resumed,
  resumes,
  IsPassed,
  gap_passed,
  line_passed,
}
use Rattle.c_grammar.proofs.TokensLemmas.Directives.{include_read, breaks_read}
use Rattle.c_grammar.proofs.TokensLemmas.DirectiveCuts.{NoInclude, DirectiveCut, directive_cut}
use Rattle.c_grammar.proofs.TokensLemmas.Readings.{reads-passed, reads-lexed, reads-refused, with_tokens-all, with_tokens-refused}

-- the part of a line that a position stands in
abbrev pub part_of : Bool → Part
part_of true = LineStart
part_of false = InLine

-- what is read from a position on
abbrev pub read_at : Position → List ℕ → Reading
read_at at bytes = reading_from zero at.place (part_of at.fresh) bytes

-- ---- piece by piece

passed : (here : Place) (part next : Part) (piece behind : List ℕ) → 0 < length piece
    → first_piece here part (piece ++ behind) ≡ Passed (length piece) next
    → reading_from zero here part (piece ++ behind) ≡ reading_from zero (place_after here piece) next behind
passed here part next piece behind some first =
    let long = length-append piece behind in
    reads-passed here part next (piece ++ behind) (length piece) (omega arith) (omega arith) first
    ∙ ap (λ l. reading_from zero (place_after here l) next (drop (length piece) (piece ++ behind)))
    (take_at piece behind (length piece) refl)
    ∙ ap (reading_from zero (place_after here piece) next) (drop_at piece behind (length piece) refl)

lexed : (here : Place) (part : Part) (kind : TokenKind) (word behind : List ℕ) → 0 < length word
    → first_piece here part (word ++ behind) ≡ Lexed kind (length word)
    → reading_from zero here part (word ++ behind)
    ≡ with_token (token_at kind word here) (reading_from zero (place_after here word) InLine behind)
lexed here part kind word behind some first =
    let long = length-append word behind in
    reads-lexed here part kind (word ++ behind) (length word) (omega arith) (omega arith) first
    ∙ ap (λ l. with_token (token_at kind l here) (reading_from zero (place_after here l) InLine (drop (length word) (word ++ behind))))
    (take_at word behind (length word) refl)
    ∙ ap (λ l. with_token (token_at kind word here) (reading_from zero (place_after here word) InLine l))
    (drop_at word behind (length word) refl)

passed_by : (here : Place) (piece behind : List ℕ) (part next : Part) → IsPassed piece behind part next
    → reading_from zero here part (piece ++ behind) ≡ reading_from zero (place_after here piece) next behind
passed_by here piece behind part next is =
    let long = ap length is.is in passed here part next piece behind (omega arith) (is.first here)

-- ---- a lexeme stands where no blank, no comment and no directive does

pub record IsPlainStart (byte : ℕ) : Type 0 where
  pub blank : is_blank byte ≡ false
  pub hash : (byte == 35) ≡ false
  pub slash : (byte == 47) ≡ false

named_start : (b : ℕ) → is_name_byte b ≡ true → IsPlainStart b
named_start b e = record { blank = blank b e; hash = hash b e; slash = slash b e }
  where
    blank : (b : ℕ) → is_name_byte b ≡ true → is_blank b ≡ false
    blank b e = grind (arith, nat_tests)

    hash : (b : ℕ) → is_name_byte b ≡ true → (b == 35) ≡ false
    hash b e = grind (arith, nat_tests)

    slash : (b : ℕ) → is_name_byte b ≡ true → (b == 47) ≡ false
    slash b e = grind (arith, nat_tests)

-- a lexeme's first byte, and the others
pub record HasStart (word : List ℕ) : Type 0 where
  pub byte : ℕ
  pub others : List ℕ
  pub is : word ≡ byte ∷ others
  pub start : IsPlainStart byte

pub has_start : (word : List ℕ) → IsLexeme word → HasStart word
has_start word is = by word (shape word is)
  where
    by : (word : List ℕ) → Shape word → HasStart word
    by _ (Shape.of_run b others named each) = record { byte = b; others = others; is = refl; start = named_start b named }
    by _ (Shape.of_short b is) =
        let first = short_start b is in
        record { byte = b; others = []; is = refl; start = record { blank = first.blank; hash = first.hash; slash = first.slash } }
    by _ (Shape.of_long b c is first) =
        record { byte = b; others = c ∷ []; is = refl; start = record { blank = first.blank; hash = first.hash; slash = first.slash } }

no_comment : (b : ℕ) (rest : List ℕ) → (b == 47) ≡ false → ¬ BeginsComment (b ∷ rest)
no_comment b rest other = λ (more, is). no more is
  where
    no : (more : List ℕ) → (b ∷ rest ≡ 47 ∷ 47 ∷ more) ⊎ (b ∷ rest ≡ 47 ∷ 42 ∷ more) → ⊥
    no more (inl e) = differ b 47 other (heads e)
    no more (inr e) = differ b 47 other (heads e)

-- where no directive can begin, a token is looked for
bare_token : (here : Place) (fresh : Bool) (b : ℕ) (rest : List ℕ) → is_blank b ≡ false → ¬ BeginsComment (b ∷ rest)
    → (fresh ≡ true → (b == 35) ≡ false) → first_piece here (part_of fresh) (b ∷ rest) ≡ token_piece here (b ∷ rest)
bare_token here true b rest blank none hash = first_bare here LineStart b rest blank none ∙ cond_false (b == 35) _ _ (hash refl)
bare_token here false b rest blank none hash = first_bare here InLine b rest blank none

lexeme_token : (here : Place) (fresh : Bool) (word rest : List ℕ) → IsLexeme word
    → first_piece here (part_of fresh) (word ++ rest) ≡ token_piece here (word ++ rest)
lexeme_token here fresh word rest is =
    let first = has_start word is in
    subst (λ w. first_piece here (part_of fresh) (w ++ rest) ≡ token_piece here (w ++ rest)) (sym first.is)
    (bare_token here fresh first.byte (first.others ++ rest) first.start.blank
    (no_comment first.byte (first.others ++ rest) first.start.slash) (λ _. first.start.hash))

pub lexeme_some : (word : List ℕ) → IsLexeme word → 0 < length word
lexeme_some word is = let first = ap length (has_start word is).is in omega arith

-- ---- from the grammar to what is read

with_tokens-append : (found tokens : List Token) (read : Reading)
    → with_tokens (found ++ tokens) read ≡ with_tokens found (with_tokens tokens read)
with_tokens-append [] tokens read = refl
with_tokens-append (token ∷ found) tokens read = ap (with_token token) (with_tokens-append found tokens read)

-- an `#include` line begins with `#`
hash_first : (front : List ℕ) (stage : Stage) → IsDirective front stage → (rest : List ℕ) × (front ≡ 35 ∷ rest)
hash_first _ _ IsDirective.hash = ([], refl)
hash_first _ _ (IsDirective.include front is) =
    let (rest, same) = hash_first front AtHash is in (rest ++ codes "include", ap (λ l. l ++ codes "include") same)
hash_first _ _ (IsDirective.header front header is header_is) =
    let (rest, same) = hash_first front AtInclude is in (rest ++ header, ap (λ l. l ++ header) same)
hash_first _ _ (IsDirective.gap front gap stage is gap_is) =
    let (rest, same) = hash_first front stage is in (rest ++ gap, ap (λ l. l ++ gap) same)

pub include_hash : (line behind : List ℕ) → IsInclude line behind → (rest : List ℕ) × (line ≡ 35 ∷ rest)
include_hash line behind (IsInclude.bare is ends) = hash_first line AtHeader is
include_hash line behind (IsInclude.commented front comment is comment_is same) =
    let (rest, begins) = hash_first front AtHeader is in (rest ++ comment, same ∙ ap (λ l. l ++ comment) begins)

breaks_hash : (front bytes : List ℕ) → BreaksInclude front bytes → (rest : List ℕ) × (bytes ≡ 35 ∷ rest)
breaks_hash front bytes (stage, rest, is, opens, same) =
    let (others, begins) = hash_first front stage is in (others ++ rest, same ∙ ap (λ l. l ++ rest) begins)

read_include : (here : Place) (line behind : List ℕ) → IsInclude line behind
    → reading_from zero here LineStart (line ++ behind) ≡ reading_from zero (place_after here line) InLine behind
read_include here line behind is = begins line behind (include_hash line behind is) (include_read here line behind is)
  where
    begins : (line behind : List ℕ) → (rest : List ℕ) × (line ≡ 35 ∷ rest)
        → directive_from zero here LineStart (line ++ behind) ≡ Complete (place_after here line) behind
        → reading_from zero here LineStart (line ++ behind) ≡ reading_from zero (place_after here line) InLine behind
    begins line behind (rest, same) read =
        ap (λ l. reading_from zero here LineStart (l ++ behind)) same
        ∙ resumes (rest ++ behind) zero (after here 35) (Hash here) tt
        ∙ ap resumed (ap (λ l. directive_from zero here LineStart (l ++ behind)) (sym same) ∙ read)

feed_read : (here : Place) (fresh : Bool) (behind : List ℕ)
    → reading_from zero here (part_of fresh) (10 ∷ behind) ≡ reading_from zero (place_after here (10 ∷ [])) LineStart behind
feed_read here true behind = refl
feed_read here false behind = refl

pub piece_read : (at : Position) (piece behind : List ℕ) (found : List Token) (fresh : Bool) → IsPiece at piece behind found fresh
    → read_at at (piece ++ behind) ≡ with_tokens found (read_at (behind_piece at piece fresh) behind)
piece_read at piece behind _ _ (IsPiece.line_feed is) =
    subst (λ l. read_at at (l ++ behind) ≡ read_at (behind_piece at l true) behind) (sym is) (feed_read at.place at.fresh behind)
piece_read at piece behind _ _ (IsPiece.gap is) =
    passed_by at.place piece behind (part_of at.fresh) (part_of at.fresh) (gap_passed piece behind (part_of at.fresh) is)
piece_read at piece behind _ _ (IsPiece.line_comment is) =
    passed_by at.place piece behind (part_of at.fresh) (part_of at.fresh) (line_passed piece behind (part_of at.fresh) is)
piece_read at piece behind _ _ (IsPiece.include fresh is) =
    subst (λ f. reading_from zero at.place (part_of f) (piece ++ behind) ≡ read_at (behind_piece at piece false) behind) (sym fresh)
    (read_include at.place piece behind is)
piece_read at piece behind _ _ (IsPiece.token kind is longest) =
    let lexeme = token_lexeme kind piece is in
    lexed at.place (part_of at.fresh) kind piece behind (lexeme_some piece lexeme)
    (lexeme_token at.place at.fresh piece behind lexeme ∙ token_found at.place kind piece behind is longest)

-- pieces are read as they stand
pub reads_read : (at to : Position) (bytes rest : List ℕ) (tokens : List Token) → Reads at bytes tokens to rest
    → read_at at bytes ≡ with_tokens tokens (read_at to rest)
reads_read at _ bytes _ _ (Reads.none _ _) = refl
reads_read at to _ rest _ (Reads.piece _ _ piece behind _ found tokens fresh is reads) =
    piece_read at piece behind found fresh is
    ∙ ap (with_tokens found) (reads_read (behind_piece at piece fresh) to behind rest tokens reads)
    ∙ sym (with_tokens-append found tokens (read_at to rest))

refused : (here : Place) (part : Part) (b : ℕ) (bytes : List ℕ) (why : Refusal) → first_piece here part (b ∷ bytes) ≡ Bad why
    → reading_from zero here part (b ∷ bytes) ≡ Refused why
refused here part b bytes why first = reads-refused here part why (b ∷ bytes) (omega arith) first

lexeme_refused : (at : Position) (word behind bytes : List ℕ) (why : Refusal) → IsLexeme word → bytes ≡ word ++ behind
    → token_piece at.place (word ++ behind) ≡ Bad why → read_at at bytes ≡ Refused why
lexeme_refused at word behind bytes why is same bad =
    let long = length-append word behind in
    let some = lexeme_some word is in
    ap (read_at at) same
    ∙ reads-refused at.place (part_of at.fresh) why (word ++ behind) (omega arith) (lexeme_token at.place at.fresh word behind is ∙ bad)

directive_refused : (at : Position) (more : List ℕ) (why : Refusal) → at.fresh ≡ true
    → directive_from zero at.place LineStart (35 ∷ more) ≡ Broken why → read_at at (35 ∷ more) ≡ Refused why
directive_refused at more why fresh broken =
    ap (λ f. reading_from zero at.place (part_of f) (35 ∷ more)) fresh
    ∙ resumes more zero (after at.place 35) (Hash at.place) tt
    ∙ ap resumed broken

-- a failure is read as it stands
pub fails_read : (at : Position) (bytes : List ℕ) (why : Refusal) → Fails at bytes why → read_at at bytes ≡ Refused why
fails_read at bytes _ (Fails.no_token b rest same blank none hash lexeme) =
    ap (read_at at) same
    ∙ refused at.place (part_of at.fresh) b rest (refusal at.place 101)
    (bare_token at.place at.fresh b rest blank (λ comment. none (subst BeginsComment (sym same) comment)) no_hash
    ∙ no_token_found at.place b rest (λ word behind is e. lexeme word behind is (same ∙ e)))
  where
    no_hash : at.fresh ≡ true → (b == 35) ≡ false
    no_hash fresh = by (b == 35) refl
      where
        by : (c : Bool) → (b == 35) ≡ c → (b == 35) ≡ false
        by true e = absurd (hash (fresh, eqb-true b 35 e))
        by false e = e
fails_read at bytes _ (Fails.open_comment opens) = by opens
  where
    by : OpensComment bytes → read_at at bytes ≡ Refused (refusal at.place 102)
    by (body, same, none) =
        ap (read_at at) same
        ∙ refused at.place (part_of at.fresh) 47 (42 ∷ body) (refusal at.place 102)
        (first_open at.place (part_of at.fresh) (47 ∷ 42 ∷ body) (body, refl, none))
fails_read at bytes _ (Fails.open_comment_in_include front fresh breaks) = by (breaks_hash front bytes breaks)
  where
    by : (rest : List ℕ) × (bytes ≡ 35 ∷ rest) → read_at at bytes ≡ Refused (refusal (place_after at.place front) 102)
    by (rest, same) =
        ap (read_at at) same
        ∙ directive_refused at rest (refusal (place_after at.place front) 102) fresh
        (ap (directive_from zero at.place LineStart) (sym same) ∙ breaks_read at.place front bytes breaks)
fails_read at bytes _ (Fails.no_number word is begins bad) = by begins
  where
    by : BeginsWith word bytes → read_at at bytes ≡ Refused (refusal at.place 103)
    by (behind, longest, same) =
        lexeme_refused at word behind bytes (refusal at.place 103) (IsLexeme.numeral is) same
        (bad_number_found at.place word behind is longest bad)
fails_read at bytes _ (Fails.no_include rest fresh same none unbroken) =
    by (directive_from zero at.place LineStart (35 ∷ rest)) refl (directive_cut at.place rest)
  where
    by : (outcome : Outcome) → directive_from zero at.place LineStart (35 ∷ rest) ≡ outcome → DirectiveCut at.place (35 ∷ rest) outcome
        → read_at at bytes ≡ Refused (refusal at.place 104)
    by (Complete place behind) e (line, is, whole, there) = absurd (none (line, behind, is, same ∙ whole))
    by (Broken _) e (NoInclude.no_line one two) = ap (read_at at) same ∙ directive_refused at rest (refusal at.place 104) fresh e
    by (Broken _) e (NoInclude.opens_comment front breaks) = absurd (unbroken front (subst (BreaksInclude front) (sym same) breaks))
fails_read at bytes _ (Fails.long_name word is begins high) = by begins
  where
    by : BeginsWith word bytes → read_at at bytes ≡ Refused (refusal at.place 105)
    by (behind, longest, same) =
        lexeme_refused at word behind bytes (refusal at.place 105) (IsLexeme.name is) same (long_found at.place word behind is longest high)

-- ---- from what is read to the grammar

-- what is read from a position on, by the grammar
abbrev pub Told : Position → List ℕ → Reading → Type 0
Told at bytes (Tokens tokens) =
    (found : List Token) × (end : Position) × Reads at bytes found end [] × (tokens ≡ found ++ token_at End (codes "#") end.place ∷ [])
Told at bytes (Refused why) = (found : List Token) × (to : Position) × (rest : List ℕ) × Reads at bytes found to rest × Fails to rest why

told_piece : (at : Position) (piece behind : List ℕ) (found : List Token) (fresh : Bool) (read : Reading)
    → IsPiece at piece behind found fresh → Told (behind_piece at piece fresh) behind read
    → Told at (piece ++ behind) (with_tokens found read)
told_piece at piece behind found fresh (Tokens tokens) is (more, end, reads, same) =
    subst (Told at (piece ++ behind)) (sym (with_tokens-all found tokens)) (
      found ++ more,
      end,
      Reads.piece at end piece behind [] found more fresh is reads,
      ap (λ l. found ++ l) same
          ∙ sym (append_assoc found more (token_at End (codes "#") end.place ∷ [])),
    )
told_piece at piece behind found fresh (Refused why) is (more, to, rest, reads, fails) =
    subst (Told at (piece ++ behind)) (sym (with_tokens-refused found why))
    (found ++ more, to, rest, Reads.piece at to piece behind rest found more fresh is reads, fails)

told_fails : (at : Position) (bytes : List ℕ) (why : Refusal) → Fails at bytes why → Told at bytes (Refused why)
told_fails at bytes why fails = ([], at, bytes, Reads.none at bytes, fails)

-- a piece that stands, and what is read behind it
piece_told : (at : Position) (piece behind : List ℕ) (found : List Token) (fresh : Bool) → IsPiece at piece behind found fresh
    → Told (behind_piece at piece fresh) behind (read_at (behind_piece at piece fresh) behind)
    → Told at (piece ++ behind) (read_at at (piece ++ behind))
piece_told at piece behind found fresh is told =
    subst (Told at (piece ++ behind)) (sym (piece_read at piece behind found fresh is)) (told_piece at piece behind found fresh _ is told)

fails_told : (at : Position) (bytes : List ℕ) (why : Refusal) → Fails at bytes why → Told at bytes (read_at at bytes)
fails_told at bytes why fails = subst (Told at bytes) (sym (fails_read at bytes why fails)) (told_fails at bytes why fails)

abbrev pub ToldBelow : ℕ → Type 0
ToldBelow bound = (at : Position) (bytes : List ℕ) → length bytes < bound → Told at bytes (read_at at bytes)

told_include : (at : Position) (rest : List ℕ) → at.fresh ≡ true → ToldBelow (length (35 ∷ rest))
    → Told at (35 ∷ rest) (read_at at (35 ∷ rest))
told_include at rest fresh below = by (directive_from zero at.place LineStart (35 ∷ rest)) refl (directive_cut at.place rest)
  where
    complete : (line behind : List ℕ) → IsInclude line behind → 35 ∷ rest ≡ line ++ behind → Told at (35 ∷ rest) (read_at at (35 ∷ rest))
    complete line behind is same =
        let (others, begins) = include_hash line behind is in
        let some = ap length begins in
        let shorter = ap length same ∙ length-append line behind in
        subst (λ l. Told at l (read_at at l)) (sym same)
        (piece_told at line behind [] false (IsPiece.include fresh is) (below (behind_piece at line false) behind (omega arith)))

    by : (outcome : Outcome) → directive_from zero at.place LineStart (35 ∷ rest) ≡ outcome → DirectiveCut at.place (35 ∷ rest) outcome
        → Told at (35 ∷ rest) (read_at at (35 ∷ rest))
    by (Complete place behind) e (line, is, whole, there) = complete line behind is whole
    by (Broken why) e (NoInclude.no_line none unbroken) = fails_told at (35 ∷ rest) _ (Fails.no_include rest fresh refl none unbroken)
    by (Broken why) e (NoInclude.opens_comment front breaks) =
        fails_told at (35 ∷ rest) _ (Fails.open_comment_in_include front fresh breaks)

told_bare : (at : Position) (b : ℕ) (rest : List ℕ) → is_blank b ≡ false → ¬ BeginsComment (b ∷ rest) → ¬ ((at.fresh ≡ true) × (b ≡ 35))
    → ToldBelow (length (b ∷ rest)) → Told at (b ∷ rest) (read_at at (b ∷ rest))
told_bare at b rest blank none hash below = by (token_piece at.place (b ∷ rest)) (token_cut at.place b rest)
  where
    found : (kind : TokenKind) (word behind : List ℕ) → b ∷ rest ≡ word ++ behind → IsToken kind word → IsLongest word behind
        → Told at (b ∷ rest) (read_at at (b ∷ rest))
    found kind word behind same is longest =
        let some = lexeme_some word (token_lexeme kind word is) in
        let shorter = ap length same ∙ length-append word behind in
        subst (λ l. Told at l (read_at at l)) (sym same)
        (piece_told at word behind (token_at kind word at.place ∷ []) false (IsPiece.token kind is longest)
        (below (behind_piece at word false) behind (omega arith)))

    by : (piece : Piece) → TokenCut at.place (b ∷ rest) piece → Told at (b ∷ rest) (read_at at (b ∷ rest))
    by (Passed n part) never = absurd never
    by (Lexed kind n) (word, behind, same, count, is, longest) = found kind word behind same is longest
    by (Bad _) (NoTokenAt.no_lexeme lexeme) = fails_told at (b ∷ rest) _ (Fails.no_token b rest refl blank none hash lexeme)
    by (Bad _) (NoTokenAt.bad_number word is begins bad) = fails_told at (b ∷ rest) _ (Fails.no_number word is begins bad)
    by (Bad _) (NoTokenAt.long word is begins high) = fails_told at (b ∷ rest) _ (Fails.long_name word is begins high)

told_begin : (at : Position) (bytes : List ℕ) → Begin bytes → ToldBelow (length bytes) → Told at bytes (read_at at bytes)
told_begin at _ (Begin.feed rest) below =
    piece_told at (10 ∷ []) rest [] true (IsPiece.line_feed refl) (below (behind_piece at (10 ∷ []) true) rest (omega arith))
told_begin at _ (Begin.space b rest space) below =
    piece_told at (b ∷ []) rest [] at.fresh (IsPiece.gap (IsGap.space b space refl))
    (below (behind_piece at (b ∷ []) at.fresh) rest (omega arith))
told_begin at _ (Begin.line comment behind is) below =
    let some = ap length is.is in
    let shorter = length-append comment behind in
    piece_told at comment behind [] at.fresh (IsPiece.line_comment is) (below (behind_piece at comment at.fresh) behind (omega arith))
told_begin at _ (Begin.block comment behind is) below =
    let some = ap length is.is in
    let shorter = length-append comment behind in
    piece_told at comment behind [] at.fresh (IsPiece.gap (IsGap.comment is))
    (below (behind_piece at comment at.fresh) behind (omega arith))
told_begin at bytes (Begin.open_comment _ opens) below = fails_told at bytes _ (Fails.open_comment opens)
told_begin at _ (Begin.bare b rest blank none) below = by at.fresh (b == 35) refl refl
  where
    by : (fresh c : Bool) → at.fresh ≡ fresh → (b == 35) ≡ c → Told at (b ∷ rest) (read_at at (b ∷ rest))
    by true true f e = subst (λ x. Told at (x ∷ rest) (read_at at (x ∷ rest))) (sym (eqb-true b 35 e)) (told_include at rest f below)
    by false c f e = told_bare at b rest blank none (λ (fresh, is). let never : true ≡ false = sym fresh ∙ f in absurd cc) below
    by true false f e = told_bare at b rest blank none (λ (fresh, is). differ b 35 e is) below

told_end : (place : Place) (fresh : Bool) → Told (record { place = place; fresh = fresh }) [] (reading_from zero place (part_of fresh) [])
told_end place true = ([], record { place = place; fresh = true }, Reads.none _ _, refl)
told_end place false = ([], record { place = place; fresh = false }, Reads.none _ _, refl)

pub told : (bound : ℕ) → ToldBelow bound
told zero at bytes short = absurd (omega arith)
told (suc bound) at [] short = told_end at.place at.fresh
told (suc bound) at (b ∷ rest) short = told_begin at (b ∷ rest) (begin b rest) (λ to more shorter. told bound to more (omega arith))

-- ---- whole texts

abbrev pub Answers : List ℕ → Reading → Type 0
Answers text (Tokens tokens) = HasTokens text tokens
Answers text (Refused why) = Refuses text why

-- what is read of a text is what the grammar says of it
pub reading_answers : (text : List ℕ) → Answers text (reading text)
reading_answers text = by (reading text) (told (suc (length text)) start text (omega arith))
  where
    by : (read : Reading) → Told start text read → Answers text read
    by (Tokens tokens) (found, end, reads, same) = record { found = found; end = end; reads = reads; is = same }
    by (Refused why) (found, to, rest, reads, fails) = record { found = found; at = to; rest = rest; reads = reads; fails = fails }

end_read : (at : Position) → read_at at [] ≡ Tokens (token_at End (codes "#") at.place ∷ [])
end_read at = by at.fresh
  where
    by : (fresh : Bool) → reading_from zero at.place (part_of fresh) [] ≡ Tokens (token_at End (codes "#") at.place ∷ [])
    by true = refl
    by false = refl

pub tokens_read : (text : List ℕ) (tokens : List Token) → HasTokens text tokens → reading text ≡ Tokens tokens
tokens_read text tokens has =
    reads_read start has.end text [] has.found has.reads
    ∙ ap (with_tokens has.found) (end_read has.end)
    ∙ with_tokens-all has.found (token_at End (codes "#") has.end.place ∷ [])
    ∙ ap Tokens (sym has.is)

pub refusal_read : (text : List ℕ) (why : Refusal) → Refuses text why → reading text ≡ Refused why
refusal_read text why refuses =
    reads_read start refuses.at text refuses.rest refuses.found refuses.reads
    ∙ ap (with_tokens refuses.found) (fails_read refuses.at refuses.rest why refuses.fails)
    ∙ with_tokens-refused refuses.found why
