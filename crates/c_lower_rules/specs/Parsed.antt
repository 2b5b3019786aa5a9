-- What every file that was parsed has.
use Rattle.std.specs.Prelude.{ℕ, ◌<◌, List, length}
use Rattle.c_grammar.specs.declared.tokens.token.Token.{Token}
use Rattle.c_grammar.specs.Tokens.Grammar.{HasTokens}
use Rattle.c_grammar.specs.Words.{words_of}
use Rattle.c_grammar.specs.Spelling.{Spells}
use Rattle.c_grammar.specs.Trees.{File}
use Rattle.c_lower_rules.specs.Texts.{IsText}
use Rattle.c_lower_rules.specs.Numbers.{FileHasIntNumbers}
use Rattle.c_lower_rules.specs.Fields.{HasCountableFields}

-- what lowering asks of a file
pub record IsParsed (file : File) : Type 0 where
  pub text : IsText file
  pub numbers : FileHasIntNumbers file
  pub fields : HasCountableFields file

-- a file that the words of a text spell has all of it, where lines and columns of the text are 32-bit numbers
abbrev pub HaveTexts : Type 0
HaveTexts =
    (text : List ℕ) (tokens : List Token) (file : File) → length text < 4294967295 → HasTokens text tokens → Spells file (words_of tokens)
    → IsParsed file
