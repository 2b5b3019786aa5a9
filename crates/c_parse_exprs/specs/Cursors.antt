-- The words that are left of a list of tokens, as the tokens and their classes.
use Rattle.std.specs.Prelude.{◌≡◌, ℕ, List, [], ◌∷◌}
use Rattle.c_grammar.specs.declared.tokens.token.Token.{Token}
use Rattle.c_grammar.specs.declared.tokens.token.TokenKind.TheVariants.{Number}
use Rattle.c_grammar.specs.Tokens.Lexemes.{IsToken}
use Rattle.c_grammar.specs.declared.class.Class.{Class}
use Rattle.c_grammar.specs.declared.class.Class.TheVariants as class
use Rattle.c_grammar.specs.Words.{class_of}

-- the classes of the tokens
abbrev pub classes_of : List Token → List Class
classes_of [] = []
classes_of (token ∷ tokens) = class_of token.kind token.text tokens ∷ classes_of tokens

-- each word of the class of numbers is a plain decimal that fits an `int`
abbrev pub HaveNumbers : List Token → Type 0
HaveNumbers [] = Unit {0}
HaveNumbers (token ∷ tokens) = (class_of token.kind token.text tokens ≡ class.Number → IsToken Number token.text) × HaveNumbers tokens

-- the classes are those of the tokens, whose numbers are fit
pub record AreWords (tokens : List Token) (found : List Class) : Type 0 where
  pub classes : found ≡ classes_of tokens
  pub numbers : HaveNumbers tokens

-- how many words are passed at a word of this class, where there may be none: a word that is missing has the class of no
-- rule
abbrev pub weight : Class → ℕ
weight class.OtherKey = 0
weight _ = 1
