-- Small heaps and states, to compute with.
use Rattle.std.specs.Prelude.{ℕ, ◌+◌, ℤ, pos, List, [], ◌∷◌}
use Rattle.shape_data.specs.declared.symbolic.Atom.{Atom}
use Rattle.shape_data.specs.declared.symbolic.Atom.TheVariants.{Points, Seg}
use Rattle.shape_data.specs.declared.symbolic.Exp.{Exp}
use Rattle.shape_data.specs.declared.symbolic.Exp.TheVariants.{Var, Const}
use Rattle.shape_data.specs.declared.symbolic.Fact.{Fact}
use Rattle.shape_data.specs.declared.symbolic.SymHeap.{SymHeap}
use Rattle.shape_data.specs.declared.symbolic.SymState.{SymState}
use Rattle.sym_parts.specs.Shapes.Examples.{node_name}

-- the first parameter
abbrev pub a : Exp
a = Var 0

-- the second parameter
abbrev pub b : Exp
b = Var 1

-- the third parameter
abbrev pub c : Exp
c = Var 2

-- null
abbrev pub null : Exp
null = Const (pos 0)

-- a constant
abbrev pub number : ℤ → Exp
number n = Const n

-- the existential variable ?n
abbrev pub any : ℕ → Exp
any n = Var (65535 + n)

-- F, a flexible variable, which occurs in the wanted heap alone
abbrev pub first : ℕ
first = 70000

-- G, another
abbrev pub second : ℕ
second = 70001

-- H, a third
abbrev pub third : ℕ
third = 70002

-- the three
abbrev pub flexible : List ℕ
flexible = first ∷ second ∷ third ∷ []

-- `e|->node(data:d,next:n)`
abbrev pub cell : Exp → Exp → Exp → Atom
cell e d n = Points e node_name (d ∷ n ∷ [])

-- `ls[node.next](e,f)`
abbrev pub list : Exp → Exp → Atom
list e f = Seg node_name 1 e f

-- a heap of facts and atoms
abbrev pub heap : List Fact → List Atom → SymHeap
heap facts atoms = record { pure = facts; spatial = atoms }

-- a state of locals, facts and atoms
abbrev pub state : List Exp → List Fact → List Atom → SymState
state locals facts atoms = record { locals = locals; heap = heap facts atoms }
