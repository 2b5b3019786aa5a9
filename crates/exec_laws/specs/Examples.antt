-- Small procedures of one node, states, pairs and tables, to compute with.
use Rattle.std.specs.Prelude.{ℕ, Bool, false, List, [], ◌∷◌, replicate}
use Rattle.shape_data.specs.declared.answer.Callee.{Callee}
use Rattle.shape_data.specs.declared.program.Cmd.{Cmd}
use Rattle.shape_data.specs.declared.program.Flow.{Flow}
use Rattle.shape_data.specs.declared.program.StructDef.{StructDef}
use Rattle.shape_data.specs.declared.program.Ty.TheVariants.{Int, Ptr}
use Rattle.shape_data.specs.declared.symbolic.Atom.{Atom}
use Rattle.shape_data.specs.declared.symbolic.Atom.TheVariants.{Points, Seg}
use Rattle.shape_data.specs.declared.symbolic.Exp.{Exp}
use Rattle.shape_data.specs.declared.symbolic.Post.{Post}
use Rattle.shape_data.specs.declared.symbolic.Spec.{Spec}
use Rattle.shape_data.specs.declared.symbolic.SymHeap.{SymHeap}
use Rattle.shape_data.specs.declared.symbolic.SymState.{SymState}
use Rattle.sym_parts.specs.Shapes.Examples.{node_name, node_struct, on_line}
use Rattle.sym_canon.specs.declared.parts.Pair.{Pair}
use Rattle.exec_laws.specs.declared.parts.Table.{Table}

-- the name `q`
abbrev pub q_name : List ℕ
q_name = 113 ∷ []

-- `struct q { struct node *head; struct q *tail; int size; };`
abbrev pub q_struct : StructDef
q_struct = record {
  name = q_name;
  fields =
      record { name = 104 ∷ []; ty = Ptr node_name } ∷ record { name = 116 ∷ []; ty = Ptr q_name } ∷ record { name = 115 ∷ []; ty = Int }
      ∷ [];
}

-- both structures
abbrev pub structs : List StructDef
structs = node_struct ∷ q_struct ∷ []

-- `e|->q(head:h,tail:t,size:s)`
abbrev pub quad : Exp → Exp → Exp → Exp → Atom
quad e h t s = Points e q_name (h ∷ t ∷ s ∷ [])

-- `ls[q.tail](e,f)`
abbrev pub tails : Exp → Exp → Atom
tails e f = Seg q_name 1 e f

-- a procedure with two parameters, four slots, and one node, on its line 5
abbrev pub flow_of : Cmd → Flow
flow_of cmd = record {
  name = 112 ∷ [];
  params = (120 ∷ []) ∷ (121 ∷ []) ∷ [];
  slots = Ptr node_name ∷ Ptr node_name ∷ Ptr node_name ∷ Int ∷ [];
  ret = Int;
  nodes = on_line 5 cmd ∷ [];
}

-- a structure of a name of one byte, with so many int fields
abbrev pub plain : ℕ → ℕ → StructDef
plain name count = record { name = name ∷ []; fields = replicate count (record { name = 120 ∷ []; ty = Int }) }

-- a procedure with so many parameters and slots, and one node, on a line of it
abbrev pub small : ℕ → ℕ → ℕ → Cmd → Flow
small params slots line cmd = record {
  name = 112 ∷ [];
  params = replicate params (120 ∷ []);
  slots = replicate slots Int;
  ret = Int;
  nodes = on_line line cmd ∷ [];
}

-- a pair
abbrev pub pair : SymHeap → SymState → Pair
pair missing state = record { missing = missing; state = state }

-- a post
abbrev pub post : Exp → SymHeap → Post
post ret heap = record { ret = ret; heap = heap }

-- a spec
abbrev pub spec : SymHeap → List Post → Spec
spec pre posts = record { pre = pre; posts = posts }

-- the procedure `f`, `g` or `h` with so many of its parameters
abbrev pub f_name : List ℕ
f_name = 102 ∷ []

abbrev pub g_name : List ℕ
g_name = 103 ∷ []

abbrev pub h_name : List ℕ
h_name = 104 ∷ []

abbrev pub callee : List ℕ → List (List ℕ) → List Spec → Callee
callee name params specs = record { name = name; params = params; specs = specs }

abbrev pub table : List Callee → List Callee → Bool → Table
table own outer cut = record { own = own; outer = outer; cut = cut }

-- no specs
abbrev pub no_table : Table
no_table = table [] [] false

-- one parameter
abbrev pub one : List (List ℕ)
one = (97 ∷ []) ∷ []

-- two parameters
abbrev pub two : List (List ℕ)
two = (97 ∷ []) ∷ (98 ∷ []) ∷ []
