-- What one step of the tokenizer does. No public contract cites it.
use Rattle.std.specs.Prelude.{◌≡◌, ◌+◌, ◌<◌, ◌≤◌, ◌^◌, zero, List, [], ◌∷◌, length}
use Rattle.c_grammar.specs.declared.tokens.reading.Cursor.{Cursor}
use Rattle.c_grammar.specs.declared.tokens.reading.Step.{Step}
use Rattle.c_grammar.specs.declared.tokens.reading.Step.TheVariants.{Passed, Found, Refused}
use Rattle.c_grammar.specs.declared.tokens.token.Token.{Token}
use Rattle.c_grammar.specs.Tokens.Grammar.{token_at}
use Rattle.c_grammar.specs.Tokens.Reading.{Reading, Refused as NoTokens, reading_from, with_token}

-- what is read from here on
abbrev pub read : Cursor → Reading
read cursor = reading_from zero cursor.here cursor.part cursor.rest.now

-- lines and columns fit their types to the end
abbrev pub HasRoom : Cursor → Type 0
HasRoom cursor =
    (cursor.here.line + length cursor.rest.now < 2 ^ 32) × (cursor.here.column + length cursor.rest.now < 2 ^ 32)

-- less is left
abbrev pub Advances : Cursor → Cursor → Type 0
Advances from to = (length to.rest.now < length from.rest.now) × HasRoom to

-- the step from the cursor
abbrev pub Steps : Cursor → Step → Type 0
Steps from (Passed to) = (read from ≡ read to) × Advances from to
Steps from (Found kind word to) =
    (read from ≡ with_token (token_at kind word.now from.here) (read to))
    × Advances from to
    × (1 ≤ length word.now)
    × (length word.now ≤ 64)
Steps from (Refused refusal) = read from ≡ NoTokens refusal

-- tokens before what is read behind them
abbrev pub with_tokens : List Token → Reading → Reading
with_tokens [] read = read
with_tokens (token ∷ tokens) read = with_token token (with_tokens tokens read)
