-- What every list of tokens is like.
use Rattle.std.specs.Prelude.{◌≡◌, ◌<◌, ◌⊎◌, List, [], ◌∷◌, codes}
use Rattle.c_grammar.specs.declared.tokens.token.Token.{Token}
use Rattle.c_grammar.specs.declared.tokens.token.TokenKind.TheVariants.{End}
use Rattle.c_grammar.specs.Tokens.Lexemes.{IsToken}

-- the one token stands on an earlier line, or further left on the same line
abbrev pub StandsBefore : Token → Token → Type 0
StandsBefore one other = (one.line < other.line) ⊎ ((one.line ≡ other.line) × (one.column < other.column))

-- the end of a text
pub record IsEnd (token : Token) : Type 0 where
  pub kind : token.kind ≡ End
  pub text : token.text ≡ codes "#"

-- tokens, each before the next one, and then the end
abbrev pub IsTokenList : List Token → Type 0
IsTokenList [] = ⊥
IsTokenList (token ∷ []) = IsEnd token
IsTokenList (token ∷ next ∷ tokens) =
    IsToken token.kind token.text × StandsBefore token next × IsTokenList (next ∷ tokens)
