-- Specs that are wrong, and what no heap meets.
use Rattle.std.specs.Prelude.{◌≡◌, ℕ, ℤ, pos, List, [], ◌∷◌}
use Rattle.shape_data.specs.declared.machine.Cell.{Cell}
use Rattle.shape_data.specs.declared.program.Cmd.TheVariants as cmd
use Rattle.shape_data.specs.declared.program.Flow.{Flow}
use Rattle.shape_data.specs.declared.program.Operand.TheVariants.{Num}
use Rattle.shape_data.specs.declared.program.StructDef.{StructDef}
use Rattle.shape_data.specs.declared.program.Ty.TheVariants.{Ptr, Void}
use Rattle.shape_data.specs.declared.symbolic.Atom.{Atom}
use Rattle.shape_data.specs.declared.symbolic.Atom.TheVariants.{Points, Seg}
use Rattle.shape_data.specs.declared.symbolic.Exp.{Exp}
use Rattle.shape_data.specs.declared.symbolic.Exp.TheVariants.{Var, Const}
use Rattle.shape_data.specs.declared.symbolic.Post.{Post}
use Rattle.shape_data.specs.declared.symbolic.SymHeap.{SymHeap}
use Rattle.shape_data.specs.Meaning.{Meets}
use Rattle.shape_data.specs.Valid.{Valid}
use Rattle.sym_parts.specs.Shapes.Examples.{file_of, node_cell, node_name, node_struct, on_line}

-- the symbolic heap of these atoms
abbrev pub only : List Atom → SymHeap
only atoms = record { pure = []; spatial = atoms }

-- `x|->node(data:$1,next:$2)`, the parameter being x
abbrev pub cell_at_x : SymHeap
cell_at_x = only (Points (Var 0) node_name (Var 1 ∷ Var 2 ∷ []) ∷ [])

-- `ls[node.next](from,to)`
abbrev pub list_between : Exp → Exp → SymHeap
list_between from to = only (Seg node_name 1 from to ∷ [])

-- line 2: `void f(struct node *x) { free(x); }`
abbrev pub drop_flow : Flow
drop_flow = record {
  name = 102 ∷ [];
  params = (120 ∷ []) ∷ [];
  slots = Ptr node_name ∷ [];
  ret = Void;
  nodes = on_line 0 (cmd.Free 0 node_name 1) ∷ on_line 0 (cmd.Return (Num (pos 0))) ∷ [];
}

-- line 2: `void f(struct node *x) { x->data = 1; }`
abbrev pub set_flow : Flow
set_flow = record {
  name = 102 ∷ [];
  params = (120 ∷ []) ∷ [];
  slots = Ptr node_name ∷ [];
  ret = Void;
  nodes = on_line 0 (cmd.Store 0 node_name 0 (Num (pos 1)) 1) ∷ on_line 0 (cmd.Return (Num (pos 0))) ∷ [];
}

-- from the precondition no posts make a valid spec of the file's procedure
abbrev pub IsNeverValid : Flow → SymHeap → Type 0
IsNeverValid flow pre = (posts : List Post) → Valid (file_of flow) 0 (record { pre = pre; posts = posts }) → ⊥

-- a cell that links to itself meets the segment from its address to its address
abbrev pub CycleMeets : Type 0
CycleMeets = (s : ℕ → ℤ) (number : ℤ) → s 0 ≡ pos 1 →
    Meets (node_struct ∷ []) s (node_cell (pos 1) number (pos 1) ∷ []) (list_between (Var 0) (Var 0))

-- the empty heap does not meet a segment between different constants
abbrev pub NoEmptySegment : Type 0
NoEmptySegment = (structs : List StructDef) (s : ℕ → ℤ) → Meets structs s [] (list_between (Const (pos 1)) (Const (pos 0))) → ⊥

-- no heap meets two cells at one address
abbrev pub TwoCellsAreApart : Type 0
TwoCellsAreApart =
    (structs : List StructDef) (s : ℕ → ℤ) (heap : List Cell) (at : Exp) (kind other : List ℕ) (fields others : List Exp) →
    Meets structs s heap (only (Points at kind fields ∷ Points at other others ∷ [])) → ⊥
