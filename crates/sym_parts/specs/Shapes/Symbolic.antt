-- Symbolic heaps side by side, and the variables that occur in one.
use Rattle.std.specs.Prelude.{◌≡◌, ℕ, ◌≤◌, Bool, false, IsTrue, ◌==◌, ◌||◌, [], ◌++◌}
use Rattle.std.specs.List.{list_any}
use Rattle.shape_data.specs.declared.symbolic.Atom.{Atom}
use Rattle.shape_data.specs.declared.symbolic.Atom.TheVariants.{Points, Seg, Junk}
use Rattle.shape_data.specs.declared.symbolic.Exp.{Exp}
use Rattle.shape_data.specs.declared.symbolic.Exp.TheVariants.{Var, Const}
use Rattle.shape_data.specs.declared.symbolic.Fact.{Fact}
use Rattle.shape_data.specs.declared.symbolic.Fact.TheVariants.{Eq, Ne}
use Rattle.shape_data.specs.declared.symbolic.SymHeap.{SymHeap}

-- the empty symbolic heap
abbrev pub emp : SymHeap
emp = record { pure = []; spatial = [] }

-- one symbolic heap beside another: the facts and the atoms of both
abbrev pub beside : SymHeap → SymHeap → SymHeap
beside a b = record { pure = a.pure ++ b.pure; spatial = a.spatial ++ b.spatial }

-- the expression is the variable
abbrev pub is_variable : ℕ → Exp → Bool
is_variable x (Var y) = x == y
is_variable x (Const n) = false

-- the variable occurs in an atom
abbrev pub occurs_in_atom : ℕ → Atom → Bool
occurs_in_atom x (Points at kind fields) = is_variable x at || list_any (is_variable x) fields
occurs_in_atom x (Seg kind link from to) = is_variable x from || is_variable x to
occurs_in_atom x Junk = false

-- the variable occurs in a fact
abbrev pub occurs_in_fact : ℕ → Fact → Bool
occurs_in_fact x (Eq left right) = is_variable x left || is_variable x right
occurs_in_fact x (Ne left right) = is_variable x left || is_variable x right

-- the variable occurs in a symbolic heap
abbrev pub occurs_in : ℕ → SymHeap → Bool
occurs_in x heap = list_any (occurs_in_fact x) heap.pure || list_any (occurs_in_atom x) heap.spatial

-- no existential variable, which are those from 65,536 on, occurs in both
abbrev pub ShareNoExistential : SymHeap → SymHeap → Type 0
ShareNoExistential a b = (x : ℕ) → 65536 ≤ x → IsTrue (occurs_in x a) → occurs_in x b ≡ false
