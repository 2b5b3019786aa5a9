-- New variables: names that occur nowhere in what is there, and may be given any values.
use Rattle.std.specs.Prelude.{◌≡◌, ℕ, ℤ, Bool, true, false, not, ◌==◌, ◌&&◌, List, [], ◌∷◌}
use Rattle.std.specs.List.{list_any}
use Rattle.shape_data.specs.declared.symbolic.Atom.{Atom}
pub use Rattle.sym_parts.specs.Shapes.Symbolic.{is_variable, occurs_in, occurs_in_atom, occurs_in_fact}

-- the variable is one of the names
abbrev pub is_one_of : List ℕ → ℕ → Bool
is_one_of names x = list_any (λ name. x == name) names

-- no two of the names are the same
abbrev pub are_different : List ℕ → Bool
are_different [] = true
are_different (name ∷ names) = not (is_one_of names name) && are_different names

-- the second assignment gives each variable but the names the value that the first gives it
abbrev pub AgreeButFor : List ℕ → (ℕ → ℤ) → (ℕ → ℤ) → Type 0
AgreeButFor names t u = (x : ℕ) → is_one_of names x ≡ false → u x ≡ t x

-- none of the names occurs in the atoms
abbrev pub AreNewIn : List Atom → List ℕ → Type 0
AreNewIn atoms names = (x : ℕ) → is_one_of names x ≡ true → list_any (occurs_in_atom x) atoms ≡ false
