-- What the grammar says of small texts.
use Rattle.std.specs.Prelude.{ℕ, [], ◌∷◌, codes}
use Rattle.c_grammar.specs.declared.tokens.places.Place.{Place}
use Rattle.c_grammar.specs.declared.tokens.token.TokenKind.TheVariants.{Word, Sign, End}
use Rattle.c_grammar.specs.Tokens.Places.{refusal}
use Rattle.c_grammar.specs.Tokens.Grammar.{token_at, HasTokens, Refuses}
use Rattle.c_grammar.specs.Tokens.Laws.{TokenEnds}

-- a place of the first line
abbrev pub column : ℕ → Place
column n = record { line = 1; column = n }

-- `x+++++y` is `x ++ ++ + y` (C11 6.4, paragraph 6)
abbrev pub TakesLongestSigns : Type 0
TakesLongestSigns = HasTokens (codes "x+++++y")
    (token_at Word (codes "x") (column 1)
    ∷ token_at Sign (codes "++") (column 2)
    ∷ token_at Sign (codes "++") (column 4)
    ∷ token_at Sign (codes "+") (column 6)
    ∷ token_at Word (codes "y") (column 7)
    ∷ token_at End (codes "#") (column 8)
    ∷ [])

-- in `x+++++y` a token ends behind `x++`
abbrev pub EndsToken : Type 0
EndsToken = TokenEnds (codes "x++") (codes "+++y")

-- a comment may end with the text
abbrev pub EndsInComment : Type 0
EndsInComment = HasTokens (codes "a//b") (token_at Word (codes "a") (column 1) ∷ token_at End (codes "#") (column 5) ∷ [])

-- a comment may stand behind a header
abbrev pub IncludesWithComment : Type 0
IncludesWithComment = HasTokens (codes "#include <a> /* x */") (token_at End (codes "#") (column 21) ∷ [])

-- the star of `/*` is no star of `*/`
abbrev pub NeedsTwoStars : Type 0
NeedsTwoStars = Refuses (codes "/*/") (refusal (column 1) 102)

abbrev pub RefusesOpenComment : Type 0
RefusesOpenComment = Refuses (codes "a /* x") (refusal (column 3) 102)

-- such a comment is the first thing that fails of a line that could still be an `#include` line
abbrev pub RefusesOpenCommentFirst : Type 0
RefusesOpenCommentFirst = Refuses (codes "#include <a> /* x") (refusal (column 14) 102)

-- a suffix is part of its number
abbrev pub RefusesSuffix : Type 0
RefusesSuffix = Refuses (codes "1u") (refusal (column 1) 103)

abbrev pub RefusesQuote : Type 0
RefusesQuote = Refuses (codes "'a'") (refusal (column 1) 101)

abbrev pub RefusesDefine : Type 0
RefusesDefine = Refuses (codes "#define A 1") (refusal (column 1) 104)
