-- Lines of the tokens of a text, and how many tokens it has.
use Rattle.std.proofs.Common.{◌≡◌, ℕ, ◌+◌, ◌<◌, ◌≤◌, Bool, true, false, cond, List, [], ◌∷◌, ◌++◌, length, sym, subst, append_assoc, arith}
use Rattle.std.specs.Prelude.{◌==◌, codes}
use Rattle.std.specs.List.{AllByRecursion}
use Rattle.std.proofs.lemmas.List.{length-append}
use Rattle.c_grammar.specs.declared.tokens.places.Place.{Place}
use Rattle.c_grammar.specs.declared.tokens.token.Token.{Token}
use Rattle.c_grammar.specs.declared.tokens.token.TokenKind.TheVariants.{End}
use Rattle.c_grammar.specs.Tokens.Places.{after, place_after}
use Rattle.c_grammar.specs.Tokens.Grammar.{token_at, Position, start, behind_piece, IsPiece, Reads, HasTokens}
use Rattle.c_grammar.proofs.TokensLemmas.TokenLemmas.{token_lexeme}
use Rattle.c_grammar.proofs.TokensLemmas.Texts.{lexeme_some}
use Rattle.c_types_rules.proofs.KnownTables.{all_append}

-- a token's line is no later than this one
abbrev pub EndsBy : ℕ → Token → Type 0
EndsBy last token = token.line ≤ last

-- a byte ends one line at most
line_after : (place : Place) (b : ℕ) → (after place b).line ≤ place.line + 1
line_after place b = by (b == 10)
  where
    by : (c : Bool)
        → (cond {A = Place} c (record { line = place.line + 1; column = 1 }) (record { line = place.line; column = place.column + 1 })).line
        ≤ place.line + 1
    by true = omega arith
    by false = omega arith

lines_after : (bytes : List ℕ) (place : Place) → (place_after place bytes).line ≤ place.line + length bytes
lines_after [] place = omega arith
lines_after (b ∷ bytes) place = omega (arith, line_after place b, lines_after bytes (after place b))

-- tokens on lines up to the last one, and no more of them than so many
pub record AreWithin (last most : ℕ) (tokens : List Token) : Type 0 where
  pub lines : AllByRecursion (EndsBy last) tokens
  pub few : length tokens ≤ most

no_tokens : (last most : ℕ) → AreWithin last most []
no_tokens last most = record { lines = tt; few = omega arith }

-- a piece has no more tokens than bytes
piece_within : (last : ℕ) (at : Position) (piece behind : List ℕ) (found : List Token) (fresh : Bool) → IsPiece at piece behind found fresh
    → at.place.line ≤ last → AreWithin last (length piece) found
piece_within last at piece behind _ _ (IsPiece.line_feed is) within = no_tokens last (length piece)
piece_within last at piece behind _ _ (IsPiece.gap is) within = no_tokens last (length piece)
piece_within last at piece behind _ _ (IsPiece.line_comment is) within = no_tokens last (length piece)
piece_within last at piece behind _ _ (IsPiece.include fresh is) within = no_tokens last (length piece)
piece_within last at piece behind _ _ (IsPiece.token kind is longest) within =
    let some : 0 < length piece = lexeme_some piece (token_lexeme kind piece is) in
    record { lines = (within, tt); few = omega arith }

end_within : (last : ℕ) (place : Place) → place.line ≤ last → AreWithin last 1 (token_at End (codes "#") place ∷ [])
end_within last place within = record { lines = (within, tt); few = omega arith }

both_within : (last one other most : ℕ) (front back : List Token) → AreWithin last one front → AreWithin last other back
    → one + other ≤ most
    → AreWithin last most (front ++ back)
both_within last one other most front back f b fit = record {
  lines = all_append (EndsBy last) front back f.lines b.lines;
  few = omega (arith, length-append front back, f.few, b.few);
}

-- what is read, and the end
reads_within : (last : ℕ) (at to : Position) (bytes rest : List ℕ) (found : List Token) → Reads at bytes found to rest
    → at.place.line + length bytes ≤ last
    → AreWithin last (length bytes + 1) (found ++ token_at End (codes "#") to.place ∷ [])
reads_within last at _ bytes _ _ (Reads.none _ _) fit =
    both_within last 0 1 (length bytes + 1) [] (token_at End (codes "#") at.place ∷ [])
    (no_tokens last 0) (end_within last at.place (omega arith)) (omega arith)
reads_within last at to _ rest _ (Reads.piece _ _ piece behind _ found tokens fresh is reads) fit =
    let whole : length (piece ++ behind) ≡ length piece + length behind = length-append piece behind in
    let line : (place_after at.place piece).line ≤ at.place.line + length piece = lines_after piece at.place in
    subst (AreWithin last (length (piece ++ behind) + 1)) (sym (append_assoc found tokens (token_at End (codes "#") to.place ∷ [])))
    (both_within last (length piece) (length behind + 1) (length (piece ++ behind) + 1) found
    (tokens ++ token_at End (codes "#") to.place ∷ [])
    (piece_within last at piece behind found fresh is (omega arith))
    (reads_within last (behind_piece at piece fresh) to behind rest tokens reads (omega arith)) (omega arith))

pub tokens_within : (text : List ℕ) (tokens : List Token) → HasTokens text tokens → AreWithin (length text + 1) (length text + 1) tokens
tokens_within text tokens has =
    subst (AreWithin (length text + 1) (length text + 1)) (sym has.is)
    (reads_within (length text + 1) start has.end text [] has.found has.reads (omega arith))
