-- C names, and lists of things whose names differ.
use Rattle.std.specs.Prelude.{◌≢◌, ℕ, ◌<◌, Bool, ◌||◌, ◌==◌, List, length, IsTrue, slice_index}
use Rattle.std.specs.List.{list_all, AllPairs}
use Rattle.std.specs.Char.{is_ascii_alphabetic, is_ascii_digit}

-- a letter or an underscore
abbrev pub is_name_start : ℕ → Bool
is_name_start byte = is_ascii_alphabetic byte || byte == 95

-- a letter, an underscore or a digit
abbrev pub is_name_byte : ℕ → Bool
is_name_byte byte = is_name_start byte || is_ascii_digit byte

-- an identifier of letters, digits and underscores (C11 6.4.2.1); whether it is a keyword is not asked
pub record IsCName (name : List ℕ) : Type 0 where
  pub some : 0 < length name
  pub first : IsTrue (is_name_start (slice_index name 0))
  pub each : IsTrue (list_all is_name_byte name)

-- no two of the things have the same name
abbrev pub HaveDifferentNames : {A : Type 0} → (A → List ℕ) → List A → Type 0
HaveDifferentNames name_of things = AllPairs (λ one other. name_of one ≢ name_of other) things
