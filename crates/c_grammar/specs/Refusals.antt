-- Where words are refused that no file spells.
use Rattle.std.specs.Prelude.{◌≡◌, ℕ, ◌≤◌, ◌⊎◌, List, [], ◌∷◌, ◌++◌}
use Rattle.c_grammar.specs.declared.tokens.places.Refusal.{Refusal}
use Rattle.c_grammar.specs.Nesting.{file_nesting}
use Rattle.c_grammar.specs.Spelling.{Spells}
use Rattle.c_grammar.specs.Trees.{File}
use Rattle.c_grammar.specs.Words.{Word}

-- how many levels of nesting a file may have
abbrev pub MOST_LEVELS : ℕ
MOST_LEVELS = 64

-- the words begin what some file spells
abbrev pub Begin : List Word → Type 0
Begin words = (file : File) × (more : List Word) × Spells file (words ++ more)

-- the words begin what some file within the levels spells
abbrev pub BeginWithin : ℕ → List Word → Type 0
BeginWithin levels words = (file : File) × (more : List Word) × Spells file (words ++ more) × (file_nesting file ≤ levels)

-- the words before this one begin some file within the levels, and with this one they begin none: since they begin no
-- file at all (111), or since it opens a level too many (112)
pub record IsRefused (words front : List Word) (first : Word) (code : ℕ) : Type 0 where
  pub others : List Word
  pub splits : words ≡ front ++ first ∷ others
  pub begins : BeginWithin MOST_LEVELS front
  pub stops : BeginWithin MOST_LEVELS (front ++ first ∷ []) → ⊥
  pub cause : ((code ≡ 111) × (Begin (front ++ first ∷ []) → ⊥)) ⊎ ((code ≡ 112) × Begin (front ++ first ∷ []))

-- the refusal stands at the word where the words are refused, with the code
abbrev pub RefusedAt : List Word → Refusal → Type 0
RefusedAt words refusal =
    (front : List Word) × (first : Word) × (code : ℕ) × IsRefused words front first code
    × (refusal ≡ record { line = first.place.line; column = first.place.column; code = code })
