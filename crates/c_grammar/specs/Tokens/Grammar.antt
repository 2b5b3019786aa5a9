-- Which tokens a text has, or else why it has none, and where. A text is pieces, one after the other: blanks,
-- comments, `#include` lines and tokens, each the longest at its place (C11 6.4 and 6.10.2). This is what the
-- tokenizer answers; how it finds the answer stands in `Reading`, which no public contract cites.
use Rattle.std.specs.Prelude.{◌≡◌, ◌≢◌, ℕ, ◌<◌, ◌⊎◌, Bool, true, false, List, [], ◌∷◌, ◌++◌, length, codes}
use Rattle.shape_data.specs.Names.{IsCName}
use Rattle.c_grammar.specs.declared.tokens.places.Place.{Place}
use Rattle.c_grammar.specs.declared.tokens.places.Refusal.{Refusal}
use Rattle.c_grammar.specs.declared.tokens.token.Token.{Token}
use Rattle.c_grammar.specs.declared.tokens.token.TokenKind.{TokenKind}
use Rattle.c_grammar.specs.declared.tokens.token.TokenKind.TheVariants.{Number, End}
use Rattle.c_grammar.specs.Tokens.Places.{first_place, place_after, refusal}
use Rattle.c_grammar.specs.Tokens.Gaps.{is_blank, IsLineComment, IsGap, IsLineEnd, OpensComment}
use Rattle.c_grammar.specs.Tokens.Lexemes.{IsNumeral, IsLexeme, IsLongest, IsToken}
use Rattle.c_grammar.specs.Tokens.Headers.{IsHeader}
use Rattle.c_grammar.specs.declared.tokens.fault.ReadFault.{ReadFault}
use Rattle.c_grammar.specs.declared.tokens.fault.ReadFault.TheVariants as fault

-- how far an `#include` line has come, gaps aside
pub data Stage : Type 0 where
  AtHash : Stage
  AtInclude : Stage
  AtHeader : Stage

-- what an `#include` line begins with: `#`, `include` and the header, with gaps behind each
pub data IsDirective : List ℕ → Stage → Type 0 where
  hash : IsDirective (codes "#") AtHash
  include : (front : List ℕ) → IsDirective front AtHash → IsDirective (front ++ codes "include") AtInclude
  header : (front header : List ℕ) → IsDirective front AtInclude → IsHeader header → IsDirective (front ++ header) AtHeader
  gap : (front gap : List ℕ) (stage : Stage) → IsDirective front stage → IsGap gap → IsDirective (front ++ gap) stage

-- an `#include` line, up to its line feed or the end of the text; a `//` comment may stand behind all of it
pub data IsInclude (line behind : List ℕ) : Type 0 where
  bare : IsDirective line AtHeader → IsLineEnd behind → IsInclude line behind
  commented : (front comment : List ℕ) → IsDirective front AtHeader → IsLineComment comment behind → line ≡ front ++ comment
      → IsInclude line behind

-- the bytes begin with an `#include` line
abbrev pub BeginsInclude : List ℕ → Type 0
BeginsInclude bytes = (line behind : List ℕ) × IsInclude line behind × (bytes ≡ line ++ behind)

-- the bytes begin with this front of an `#include` line, and behind it a comment opens that does not end
abbrev pub BreaksInclude : List ℕ → List ℕ → Type 0
BreaksInclude front bytes =
    (stage : Stage) × (rest : List ℕ) × IsDirective front stage × OpensComment rest × (bytes ≡ front ++ rest)

-- How far a text is read: the place of the next byte, and whether its line is fresh. It is where only blanks and
-- comments stand before that byte, back to the last line feed outside a comment or the start of the text.
pub record Position : Type 0 where
  pub place : Place
  pub fresh : Bool

-- the start of a text
abbrev pub start : Position
start = record { place = first_place; fresh = true }

-- the position behind a piece
abbrev pub behind_piece : Position → List ℕ → Bool → Position
behind_piece at piece fresh = record { place = place_after at.place piece; fresh = fresh }

-- the token of this kind and word, at the place
abbrev pub token_at : TokenKind → List ℕ → Place → Token
token_at kind word place = record { kind = kind; text = word; line = place.line; column = place.column }

-- These bytes are one piece at this position, where those other bytes stand behind it. What follows is its tokens, one
-- or none, and whether the line is fresh behind it.
pub data IsPiece (at : Position) (piece behind : List ℕ) : List Token → Bool → Type 0 where
  line_feed : piece ≡ 10 ∷ [] → IsPiece at piece behind [] true
  gap : IsGap piece → IsPiece at piece behind [] at.fresh
  line_comment : IsLineComment piece behind → IsPiece at piece behind [] at.fresh
  include : at.fresh ≡ true → IsInclude piece behind → IsPiece at piece behind [] false
  token : (kind : TokenKind) → IsToken kind piece → IsLongest piece behind
      → IsPiece at piece behind (token_at kind piece at.place ∷ []) false

-- from one position up to a later one the bytes are pieces, one after the other, with these tokens; the rest stands behind
pub data Reads : Position → List ℕ → List Token → Position → List ℕ → Type 0 where
  none : (at : Position) (bytes : List ℕ) → Reads at bytes [] at bytes
  piece : (at to : Position) (piece behind rest : List ℕ) (found tokens : List Token) (fresh : Bool)
      → IsPiece at piece behind found fresh → Reads (behind_piece at piece fresh) behind tokens to rest
      → Reads at (piece ++ behind) (found ++ tokens) to rest

-- the text is pieces to its end, and these are their tokens and the end
pub record HasTokens (text : List ℕ) (tokens : List Token) : Type 0 where
  pub found : List Token
  pub end : Position
  pub reads : Reads start text found end []
  pub is : tokens ≡ found ++ token_at End (codes "#") end.place ∷ []

-- the bytes begin with the word, and with no lexeme that is longer
abbrev pub BeginsWith : List ℕ → List ℕ → Type 0
BeginsWith word bytes = (behind : List ℕ) × IsLongest word behind × (bytes ≡ word ++ behind)

-- a comment begins the bytes
abbrev pub BeginsComment : List ℕ → Type 0
BeginsComment bytes = (rest : List ℕ) × ((bytes ≡ codes "//" ++ rest) ⊎ (bytes ≡ codes "/*" ++ rest))

-- Why these bytes begin with no piece at this position: no lexeme stands there (101), a comment does not end (102), a
-- numeral is no number (103), a `#` line is no `#include` line (104), or a name has more than 64 bytes (105). A `#` line
-- with a comment that does not end is refused for the comment, if up to there it may become an `#include` line.
pub data Fails (at : Position) (bytes : List ℕ) : Refusal → Type 0 where
  no_token : (b : ℕ) (rest : List ℕ) → bytes ≡ b ∷ rest → is_blank b ≡ false → ¬ BeginsComment bytes
      → ¬ ((at.fresh ≡ true) × (b ≡ 35)) → ((word behind : List ℕ) → IsLexeme word → bytes ≢ word ++ behind)
      → Fails at bytes (refusal at.place 101)
  open_comment : OpensComment bytes → Fails at bytes (refusal at.place 102)
  open_comment_in_include : (front : List ℕ) → at.fresh ≡ true → BreaksInclude front bytes
      → Fails at bytes (refusal (place_after at.place front) 102)
  no_number : (word : List ℕ) → IsNumeral word → BeginsWith word bytes → ¬ IsToken Number word
      → Fails at bytes (refusal at.place 103)
  no_include : (rest : List ℕ) → at.fresh ≡ true → bytes ≡ 35 ∷ rest → ¬ BeginsInclude bytes
      → ((front : List ℕ) → ¬ BreaksInclude front bytes) → Fails at bytes (refusal at.place 104)
  long_name : (word : List ℕ) → IsCName word → BeginsWith word bytes → 64 < length word
      → Fails at bytes (refusal at.place 105)

-- the text is pieces up to a position where no piece stands, for this reason
pub record Refuses (text : List ℕ) (refusal : Refusal) : Type 0 where
  pub found : List Token
  pub at : Position
  pub rest : List ℕ
  pub reads : Reads start text found at rest
  pub fails : Fails at rest refusal

-- the fault is the text's first refusal, or memory is wanting
abbrev pub IsTokenFault : List ℕ → ReadFault → Type 0
IsTokenFault text (fault.Refused refusal) = Refuses text refusal
IsTokenFault text fault.OutOfMemory = Unit {0}
