-- Blanks and comments (C11 6.4 and 6.4.9). Comments are read where lines have been joined (C11 5.1.1.2, phase 2).
use Rattle.std.specs.Prelude.{◌≡◌, ℕ, Bool, true, ◌||◌, ◌==◌, ◌⊎◌, List, [], ◌∷◌, ◌++◌, replicate, codes}

-- space, tab, carriage return and form feed
abbrev pub is_space : ℕ → Bool
is_space b = b == 32 || b == 9 || b == 13 || b == 12

-- one of these, or a line feed
abbrev pub is_blank : ℕ → Bool
is_blank b = is_space b || b == 10

-- Splices, one after the other: a backslash, so many carriage returns, and a line feed. A splice joins two lines.
abbrev pub splices : List ℕ → List ℕ
splices [] = []
splices (returns ∷ others) = 92 ∷ replicate returns 13 ++ 10 ∷ splices others

-- the end of a `/*` comment: a star and a slash, with nothing but splices between them
abbrev pub IsCommentEnd : List ℕ → Type 0
IsCommentEnd bytes = (returns : List ℕ) × (bytes ≡ 42 ∷ splices returns ++ 47 ∷ [])

-- such an end stands somewhere in the bytes
abbrev pub HasCommentEnd : List ℕ → Type 0
HasCommentEnd bytes = (front end back : List ℕ) × IsCommentEnd end × (bytes ≡ front ++ (end ++ back))

-- `/*`, and all up to the first end of a comment behind it
pub record IsBlockComment (comment : List ℕ) : Type 0 where
  pub body : List ℕ
  pub is : comment ≡ codes "/*" ++ (body ++ codes "/")
  pub ends : HasCommentEnd (body ++ codes "/")
  pub first : ¬ HasCommentEnd body

-- the bytes begin with a `/*` that no end of a comment follows
abbrev pub OpensComment : List ℕ → Type 0
OpensComment bytes = (body : List ℕ) × (bytes ≡ codes "/*" ++ body) × ¬ HasCommentEnd body

-- a backslash stands at the end of the bytes, or before carriage returns there: a line feed behind them is part of a splice
abbrev pub EndsInBackslash : List ℕ → Type 0
EndsInBackslash bytes = (front : List ℕ) × (returns : ℕ) × (bytes ≡ front ++ 92 ∷ replicate returns 13)

-- a line ends before these bytes, or the text
abbrev pub IsLineEnd : List ℕ → Type 0
IsLineEnd bytes = (bytes ≡ []) ⊎ ((rest : List ℕ) × (bytes ≡ 10 ∷ rest))

-- `//`, and all up to the first line feed that is no part of a splice, or to the end of the text
pub record IsLineComment (comment behind : List ℕ) : Type 0 where
  pub body : List ℕ
  pub is : comment ≡ codes "//" ++ body
  pub spliced : (front back : List ℕ) → body ≡ front ++ 10 ∷ back → EndsInBackslash front
  pub ends : (behind ≡ []) ⊎ ((rest : List ℕ) × (behind ≡ 10 ∷ rest) × ¬ EndsInBackslash body)

-- what may stand between two words of one line: a blank other than a line feed, or a `/*` comment, even over several lines
pub data IsGap (gap : List ℕ) : Type 0 where
  space : (b : ℕ) → is_space b ≡ true → gap ≡ b ∷ [] → IsGap gap
  comment : IsBlockComment gap → IsGap gap
