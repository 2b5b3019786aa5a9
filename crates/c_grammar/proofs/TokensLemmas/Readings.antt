-- Readings of a text, piece by piece.
use Rattle.std.proofs.Common.{◌≡◌, ℕ, zero, suc, ◌-◌, ◌<◌, ◌≤◌, take, drop, List, [], ◌∷◌, ◌++◌, length, refl, sym, ap, ◌∙◌, arith}
use Rattle.c_grammar.specs.declared.tokens.places.Place.{Place}
use Rattle.c_grammar.specs.declared.tokens.places.Refusal.{Refusal}
use Rattle.c_grammar.specs.declared.tokens.pieces.Part.{Part}
use Rattle.c_grammar.specs.declared.tokens.pieces.Part.TheVariants.{InLine}
use Rattle.c_grammar.specs.declared.tokens.pieces.Piece.TheVariants.{Passed, Lexed, Refused as Bad}
use Rattle.c_grammar.specs.declared.tokens.token.Token.{Token}
use Rattle.c_grammar.specs.declared.tokens.token.TokenKind.{TokenKind}
use Rattle.c_grammar.specs.Tokens.Places.{after, place_after}
use Rattle.c_grammar.specs.Tokens.Grammar.{token_at}
use Rattle.c_grammar.specs.Tokens.Pieces.{first_piece}
use Rattle.std.proofs.lemmas.List.{nil_from_length}
use Rattle.c_grammar.specs.Tokens.Reading.{Reading, Tokens, Refused, with_token, with_piece, reading_from, at_end, IsFault}
use Rattle.c_grammar.specs.Tokens.Steps.{with_tokens}
use Rattle.c_grammar.specs.declared.tokens.fault.ReadFault.{ReadFault}
use Rattle.c_grammar.specs.declared.tokens.fault.ReadFault.TheVariants as fault

-- the bytes that belong to the piece before are passed over
pub behind_piece : (n : ℕ) (here : Place) (part : Part) (bytes : List ℕ)
    → reading_from n here part bytes ≡ reading_from zero (place_after here (take n bytes)) part (drop n bytes)
behind_piece zero here part bytes = refl
behind_piece (suc n) here part [] = refl
behind_piece (suc n) here part (b ∷ bytes) = behind_piece n (after here b) part bytes

-- one more than what is left of a positive number
one_less : (n : ℕ) → suc n - 1 ≡ n
one_less n = omega arith

-- a piece that is no token
pub reads-passed : (here : Place) (part next : Part) (bytes : List ℕ) (n : ℕ) → 0 < length bytes → 1 ≤ n
    → first_piece here part bytes ≡ Passed n next
    → reading_from zero here part bytes ≡ reading_from zero (place_after here (take n bytes)) next (drop n bytes)
reads-passed here part next [] n some positive piece = absurd (omega arith)
reads-passed here part next (b ∷ bytes) zero some positive piece = absurd (omega arith)
reads-passed here part next (b ∷ bytes) (suc n) some positive piece =
    ap (λ p. with_piece p here (b ∷ bytes) (λ taken behind. reading_from taken (after here b) behind bytes)) piece
    ∙ ap (λ k. reading_from k (after here b) next bytes) (one_less n)
    ∙ behind_piece n (after here b) next bytes

-- a token
pub reads-lexed : (here : Place) (part : Part) (kind : TokenKind) (bytes : List ℕ) (n : ℕ) → 0 < length bytes → 1 ≤ n
    → first_piece here part bytes ≡ Lexed kind n
    → reading_from zero here part bytes
    ≡ with_token (token_at kind (take n bytes) here) (reading_from zero (place_after here (take n bytes)) InLine (drop n bytes))
reads-lexed here part kind [] n some positive piece = absurd (omega arith)
reads-lexed here part kind (b ∷ bytes) zero some positive piece = absurd (omega arith)
reads-lexed here part kind (b ∷ bytes) (suc n) some positive piece =
    ap (λ p. with_piece p here (b ∷ bytes) (λ taken behind. reading_from taken (after here b) behind bytes)) piece
    ∙ ap (λ k. with_token (token_at kind (b ∷ take n bytes) here) (reading_from k (after here b) InLine bytes)) (one_less n)
    ∙ ap (with_token (token_at kind (b ∷ take n bytes) here)) (behind_piece n (after here b) InLine bytes)

-- a refusal
pub reads-refused : (here : Place) (part : Part) (refusal : Refusal) (bytes : List ℕ) → 0 < length bytes
    → first_piece here part bytes ≡ Bad refusal → reading_from zero here part bytes ≡ Refused refusal
reads-refused here part refusal [] some piece = absurd (omega arith)
reads-refused here part refusal (b ∷ bytes) some piece =
    ap (λ p. with_piece p here (b ∷ bytes) (λ taken behind. reading_from taken (after here b) behind bytes)) piece

-- one more token was found
pub with_tokens-more : (found : List Token) (token : Token) (read : Reading)
    → with_tokens (found ++ token ∷ []) read ≡ with_tokens found (with_token token read)
with_tokens-more [] token read = refl
with_tokens-more (first ∷ found) token read = ap (with_token first) (with_tokens-more found token read)

-- a refusal behind tokens is the answer
pub with_tokens-refused : (found : List Token) (refusal : Refusal) → with_tokens found (Refused refusal) ≡ Refused refusal
with_tokens-refused [] refusal = refl
with_tokens-refused (first ∷ found) refusal = ap (with_token first) (with_tokens-refused found refusal)

-- tokens behind tokens
pub with_tokens-all : (found tokens : List Token) → with_tokens found (Tokens tokens) ≡ Tokens (found ++ tokens)
with_tokens-all [] tokens = refl
with_tokens-all (first ∷ found) tokens = ap (with_token first) (with_tokens-all found tokens)

-- the same of what is left behind the piece, by what is known of it
pub steps-passed : (here here_next : Place) (part next part_next : Part) (bytes rest : List ℕ) (n : ℕ) → 0 < length bytes → 1 ≤ n
    → Passed n next ≡ first_piece here part bytes → here_next ≡ place_after here (take n bytes) → part_next ≡ next → rest ≡ drop n bytes
    → reading_from zero here part bytes ≡ reading_from zero here_next part_next rest
steps-passed here here_next part next part_next bytes rest n some positive piece here_is part_is rest_is =
    rw (here_is, part_is, rest_is) (reads-passed here part next bytes n some positive (sym piece))

pub steps-lexed : (here here_next : Place) (part part_next : Part) (kind : TokenKind) (bytes word rest : List ℕ) (n : ℕ) → 0 < length bytes
    → 1 ≤ n → Lexed kind n ≡ first_piece here part bytes → here_next ≡ place_after here (take n bytes) → part_next ≡ InLine
    → word ≡ take n bytes → rest ≡ drop n bytes
    → reading_from zero here part bytes ≡ with_token (token_at kind word here) (reading_from zero here_next part_next rest)
steps-lexed here here_next part part_next kind bytes word rest n some positive piece here_is part_is word_is rest_is =
    rw (here_is, part_is, word_is, rest_is) (reads-lexed here part kind bytes n some positive (sym piece))

-- a token was found
pub found_more : (found more : List Token) (token same : Token) (read next whole : Reading) → more ≡ found ++ token ∷ [] → token ≡ same
    → read ≡ with_token same next → with_tokens found read ≡ whole → with_tokens more next ≡ whole
found_more found more token same read next whole more_is token_is read_is so_far =
    ap (λ ts. with_tokens ts next) more_is
    ∙ with_tokens-more found token next
    ∙ ap (λ t. with_tokens found (with_token t next)) token_is
    ∙ ap (with_tokens found) (sym read_is)
    ∙ so_far

-- a refusal was found
pub found_refusal : (found : List Token) (read whole : Reading) (refusal : Refusal) → read ≡ Refused refusal
    → with_tokens found read ≡ whole → whole ≡ Refused refusal
found_refusal found read whole refusal read_is so_far =
    sym so_far ∙ ap (with_tokens found) read_is ∙ with_tokens-refused found refusal

-- where nothing is left, the end is read
at_last : (here : Place) (part : Part) (rest : List ℕ) → length rest ≡ 0 → reading_from zero here part rest ≡ at_end here part
at_last here part rest none = ap (reading_from zero here part) (nil_from_length rest none)

-- the end was found
pub found_end : (found all : List Token) (token : Token) (here : Place) (part : Part) (rest : List ℕ) (whole : Reading) → length rest ≡ 0
    → at_end here part ≡ Tokens (token ∷ []) → all ≡ found ++ token ∷ [] → with_tokens found (reading_from zero here part rest) ≡ whole
    → whole ≡ Tokens all
found_end found all token here part rest whole none end_is all_is so_far =
    sym so_far
    ∙ ap (with_tokens found) (at_last here part rest none ∙ end_is)
    ∙ with_tokens-all found (token ∷ [])
    ∙ ap Tokens (sym all_is)

-- a fault at the end is one of the text
pub end_fault : (fault : ReadFault) (found : List Token) (here : Place) (part : Part) (rest : List ℕ) (whole : Reading) → length rest ≡ 0
    → with_tokens found (reading_from zero here part rest) ≡ whole → IsFault fault (at_end here part) → IsFault fault whole
end_fault (fault.Refused refusal) found here part rest whole none so_far is =
    found_refusal found _ whole refusal (at_last here part rest none ∙ is) so_far
end_fault fault.OutOfMemory found here part rest whole none so_far is = tt
