-- What the laws of tokens say.
use Rattle.std.specs.Prelude.{◌≡◌, ℕ, ◌<◌, ◌⊎◌, List, [], ◌∷◌, ◌++◌, length, drop, map, codes}
use Rattle.std.specs.List.{AllByRecursion}
use Rattle.c_grammar.specs.declared.tokens.places.Refusal.{Refusal}
use Rattle.c_grammar.specs.declared.tokens.token.Token.{Token}
use Rattle.c_grammar.specs.declared.tokens.token.TokenKind.{TokenKind}
use Rattle.c_grammar.specs.declared.tokens.token.TokenKind.TheVariants.{End}
use Rattle.c_grammar.specs.Tokens.Gaps.{IsGap}
use Rattle.c_grammar.specs.Tokens.Lexemes.{IsToken, IsLongest}
use Rattle.c_grammar.specs.Tokens.Grammar.{Position, start, Reads, HasTokens, Refuses}
use Rattle.c_grammar.specs.Tokens.TokenLists.{IsTokenList}

-- no text has two lists of tokens
abbrev pub HaveOneReading : Type 0
HaveOneReading = (text : List ℕ) (one other : List Token) → HasTokens text one → HasTokens text other → one ≡ other

-- no text has two first refusals
abbrev pub HaveOneRefusal : Type 0
HaveOneRefusal = (text : List ℕ) (one other : Refusal) → Refuses text one → Refuses text other → one ≡ other

-- no text has tokens and a refusal
abbrev pub HaveNotBoth : Type 0
HaveNotBoth = (text : List ℕ) (tokens : List Token) (refusal : Refusal) → HasTokens text tokens → ¬ Refuses text refusal

-- each text has tokens or a refusal
abbrev pub HaveEither : Type 0
HaveEither = (text : List ℕ) → ((tokens : List Token) × HasTokens text tokens) ⊎ ((refusal : Refusal) × Refuses text refusal)

-- the tokens of a text are a list of tokens with one end, in the order of their places
abbrev pub AreListed : Type 0
AreListed = (text : List ℕ) (tokens : List Token) → HasTokens text tokens → IsTokenList tokens

-- what stands from a token on is a list of tokens too
abbrev pub RestsAreListed : Type 0
RestsAreListed = (tokens : List Token) (n : ℕ) → IsTokenList tokens → n < length tokens → IsTokenList (drop n tokens)

-- a token without its place
pub record Spelling : Type 0 where
  pub kind : TokenKind
  pub text : List ℕ

abbrev pub spelling : Token → Spelling
spelling token = record { kind = token.kind; text = token.text }

-- the end without its place
abbrev pub end_spelling : Spelling
end_spelling = record { kind = End; text = codes "#" }

-- in this text a token ends where the front does
pub record TokenEnds (front back : List ℕ) : Type 0 where
  pub found : List Token
  pub at : Position
  pub kind : TokenKind
  pub word : List ℕ
  pub reads : Reads start (front ++ back) found at (word ++ back)
  pub token : IsToken kind word
  pub longest : IsLongest word back

-- a blank or a `/*` comment right behind a token, in a text that has tokens, changes nothing but places
abbrev pub KeepTokens : Type 0
KeepTokens =
    (front gap back : List ℕ) (tokens : List Token)
    → TokenEnds front back → (IsGap gap ⊎ (gap ≡ 10 ∷ [])) → HasTokens (front ++ back) tokens
    → (others : List Token) × HasTokens (front ++ (gap ++ back)) others × (map spelling others ≡ map spelling tokens)

-- the words, each with a space behind it
abbrev pub spaced : List Spelling → List ℕ
spaced [] = []
spaced (word ∷ words) = word.text ++ 32 ∷ spaced words

-- words that are tokens, written with a space behind each, are read as themselves
abbrev pub WordsReadBack : Type 0
WordsReadBack =
    (words : List Spelling) → AllByRecursion (λ (word : Spelling). IsToken word.kind word.text) words
    → (tokens : List Token) × HasTokens (spaced words) tokens × (map spelling tokens ≡ words ++ end_spelling ∷ [])
