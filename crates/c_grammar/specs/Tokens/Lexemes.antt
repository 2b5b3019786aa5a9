-- Words and signs (C11 6.4).
use Rattle.std.specs.Prelude.{◌≡◌, ℕ, ◌<◌, ◌≤◌, ◌⊎◌, List, [], ◌∷◌, ◌++◌, length, slice_index, IsTrue, IsFalse}
use Rattle.std.specs.List.{list_all}
use Rattle.std.specs.Char.{is_ascii_digit}
use Rattle.std.specs.Fmt.{decimal}
use Rattle.shape_data.specs.Names.{is_name_byte, IsCName}
use Rattle.c_grammar.specs.declared.tokens.token.TokenKind.{TokenKind}
use Rattle.c_grammar.specs.declared.tokens.token.TokenKind.TheVariants.{Word, Key, Number, Sign, End}
use Rattle.c_grammar.specs.Tokens.Words.{is_reserved, is_long_sign, is_short_sign}

-- a digit, and then letters, digits and underscores (C11 6.4.8)
pub record IsNumeral (word : List ℕ) : Type 0 where
  pub some : 0 < length word
  pub first : IsTrue (is_ascii_digit (slice_index word 0))
  pub each : IsTrue (list_all is_name_byte word)

-- a sign of one byte or of two (C11 6.4.6)
abbrev pub IsSign : List ℕ → Type 0
IsSign word = ((byte : ℕ) × IsTrue (is_short_sign byte) × (word ≡ byte ∷ [])) ⊎ IsTrue (is_long_sign word)

-- what the bytes of a text are cut into where no blank, comment or directive stands, whether or not it is a token
pub data IsLexeme (word : List ℕ) : Type 0 where
  name : IsCName word → IsLexeme word
  numeral : IsNumeral word → IsLexeme word
  sign : IsSign word → IsLexeme word

-- no longer lexeme begins where the word does (C11 6.4, paragraph 4)
abbrev pub IsLongest : List ℕ → List ℕ → Type 0
IsLongest word behind =
    (other rest : List ℕ) → IsLexeme other → word ++ behind ≡ other ++ rest → length other ≤ length word

-- the word is a token of this kind: a name, a reserved word, a plain decimal that fits an `int`, or a sign
abbrev pub IsToken : TokenKind → List ℕ → Type 0
IsToken Word word = IsCName word × (length word ≤ 64) × IsFalse (is_reserved word)
IsToken Key word = IsTrue (is_reserved word)
IsToken Number word = (n : ℕ) × (n ≤ 2147483647) × (word ≡ decimal n)
IsToken Sign word = IsSign word
IsToken End word = ⊥
