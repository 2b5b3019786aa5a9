-- Which tokens the tokenizer finds, or else the first refusal, piece by piece. No public contract cites it: `Grammar`
-- says which tokens a text has, and proofs/ that these are the same.
use Rattle.std.specs.Prelude.{ℕ, zero, suc, ◌-◌, List, [], ◌∷◌, take, codes, ◌≡◌}
use Rattle.c_grammar.specs.declared.tokens.places.Place.{Place}
use Rattle.c_grammar.specs.declared.tokens.places.Refusal.{Refusal}
use Rattle.c_grammar.specs.declared.tokens.pieces.Part.{Part}
use Rattle.c_grammar.specs.declared.tokens.pieces.Part.TheVariants.{LineStart, InLine, Hash, Include, Header}
use Rattle.c_grammar.specs.declared.tokens.pieces.Piece.{Piece}
use Rattle.c_grammar.specs.declared.tokens.pieces.Piece.TheVariants.{Passed, Lexed, Refused as Bad}
use Rattle.c_grammar.specs.declared.tokens.token.Token.{Token}
use Rattle.c_grammar.specs.declared.tokens.token.TokenKind.TheVariants.{End}
use Rattle.c_grammar.specs.Tokens.Places.{first_place, after, refusal}
use Rattle.c_grammar.specs.Tokens.Grammar.{token_at}
use Rattle.c_grammar.specs.Tokens.Pieces.{first_piece}
use Rattle.c_grammar.specs.declared.tokens.fault.ReadFault.{ReadFault}
use Rattle.c_grammar.specs.declared.tokens.fault.ReadFault.TheVariants as fault

-- what a text is: a list of tokens, or no such list
pub data Reading : Type 0 where
  Tokens : List Token → Reading
  Refused : Refusal → Reading

-- a token before what is read behind it
abbrev pub with_token : Token → Reading → Reading
with_token token (Tokens tokens) = Tokens (token ∷ tokens)
with_token token (Refused refusal) = Refused refusal

-- the end of the text: a directive that began is complete
abbrev pub at_end : Place → Part → Reading
at_end here LineStart = Tokens (token_at End (codes "#") here ∷ [])
at_end here InLine = Tokens (token_at End (codes "#") here ∷ [])
at_end here (Hash hash) = Refused (refusal hash 104)
at_end here (Include hash) = Refused (refusal hash 104)
at_end here (Header hash) = Tokens (token_at End (codes "#") here ∷ [])

-- a piece that the bytes begin with, and what is read behind its first byte: first the other bytes of the piece
abbrev pub with_piece : Piece → Place → List ℕ → (ℕ → Part → Reading) → Reading
with_piece (Passed n part) here bytes others = others (n - 1) part
with_piece (Lexed kind n) here bytes others = with_token (token_at kind (take n bytes) here) (others (n - 1) InLine)
with_piece (Bad refusal) here bytes others = Refused refusal

-- a text is pieces, one after the other; the first bytes of these, so many, belong to the piece before
abbrev pub reading_from : ℕ → Place → Part → List ℕ → Reading
reading_from taken here part [] = at_end here part
reading_from (suc taken) here part (b ∷ bytes) = reading_from taken (after here b) part bytes
reading_from zero here part (b ∷ bytes) =
    with_piece (first_piece here part (b ∷ bytes)) here (b ∷ bytes) (λ taken behind. reading_from taken (after here b) behind bytes)

-- what the bytes of a text are
abbrev pub reading : List ℕ → Reading
reading bytes = reading_from zero first_place LineStart bytes

-- the fault is this refusal, or memory is wanting
abbrev pub IsFault : ReadFault → Reading → Type 0
IsFault (fault.Refused refusal) read = read ≡ Refused refusal
IsFault fault.OutOfMemory read = Unit {0}
