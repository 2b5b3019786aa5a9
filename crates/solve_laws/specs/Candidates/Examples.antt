-- Searches by hand: of a procedure that reads a field, one that walks along a list, one that calls another, and one that calls itself.
use Rattle.std.specs.Prelude.{ℕ, pos, true, false, List, [], ◌∷◌, replicate}
use Rattle.std.specs.declared.option.Option.{Option}
use Rattle.std.specs.declared.option.Option.TheVariants.{None, Some}
use Rattle.shape_data.specs.declared.answer.Callee.{Callee}
use Rattle.shape_data.specs.declared.answer.Fault.{Fault}
use Rattle.shape_data.specs.declared.program.Cmd.TheVariants as cmd
use Rattle.shape_data.specs.declared.program.Flow.{Flow}
use Rattle.shape_data.specs.declared.program.Operand.TheVariants.{Slot, Num}
use Rattle.shape_data.specs.declared.program.TestOp.TheVariants as test
use Rattle.shape_data.specs.declared.program.Ty.TheVariants.{Ptr, Void}
use Rattle.shape_data.specs.declared.symbolic.Exp.TheVariants.{Var}
use Rattle.shape_data.specs.declared.symbolic.Fact.TheVariants.{Eq, Ne}
use Rattle.shape_data.specs.declared.symbolic.Spec.{Spec}
use Rattle.shape_data.specs.declared.symbolic.SymHeap.{SymHeap}
use Rattle.sym_parts.specs.Shapes.Examples.{node_name, node_struct, on_line}
use Rattle.sym_canon.specs.declared.parts.Pair.{Pair}
use Rattle.sym_matching.specs.Examples.{any, cell, heap, list, null, state}
use Rattle.exec_laws.specs.Examples.{callee, pair, post, spec}
use Rattle.solve_laws.specs.Certificates.Coming.{Task}
use Rattle.solve_laws.specs.Certificates.Examples.{get_flow, get_spec, length_flow, length_spec, read_flow, whole_list}
use Rattle.solve_laws.specs.declared.candidates.parts.Dropped.{Dropped}
use Rattle.solve_laws.specs.declared.candidates.parts.Found.{Found}
use Rattle.solve_laws.specs.Candidates.Searching.{Search}

-- the analysis of a procedure whose callees are these
abbrev pub calling : Flow → List Callee → Task
calling flow callees =
    record { flow = flow; structs = node_struct ∷ []; table = record { own = []; outer = callees; cut = false }; recursive = false }

-- the analysis of a procedure that calls itself, while it is known by these specs
abbrev pub known_by : Flow → List Spec → Task
known_by flow specs =
    record {
      flow = flow;
      structs = node_struct ∷ [];
      table = record { own = callee flow.name flow.params specs ∷ []; outer = []; cut = true };
      recursive = true;
    }

-- these candidates, and no drop
abbrev pub found : List SymHeap → Found
found pres = record { pres = pres; first_drop = None }

-- these candidates, and the first drop with its line
abbrev pub found_but : List SymHeap → Fault → ℕ → Found
found_but pres cause line = record { pres = pres; first_drop = Some (record { fault = cause; line = line }) }

-- `x=0`
abbrev pub null_heap : SymHeap
null_heap = heap (Eq (Var 0) null ∷ []) []

-- `x|->node(data:$1,next:0)`
abbrev pub last_node : SymHeap
last_node = heap [] (cell (Var 0) (Var 1) null ∷ [])

-- `x|->node(data:$1,next:$2) * ls[node.next]($2,0)`
abbrev pub node_and_list : SymHeap
node_and_list = heap [] (cell (Var 0) (Var 1) (Var 2) ∷ list (Var 2) null ∷ [])

-- the procedure that reads, where the one that it calls has its spec
abbrev pub read_task : Task
read_task = calling read_flow (callee get_flow.name get_flow.params (get_spec ∷ []) ∷ [])

-- of the empty list the length is 0
abbrev pub no_length : Spec
no_length = spec null_heap (post null null_heap ∷ [])

-- the procedure for the length of a list, as if it called another
abbrev pub length_calling : Task
length_calling = calling length_flow (callee length_flow.name length_flow.params (length_spec ∷ []) ∷ [])

-- SPIN
-- `void spin(void) {`
-- `while (1);`
-- `}`
abbrev pub spin_flow : Flow
spin_flow = record {
  name = 115 ∷ 112 ∷ 105 ∷ 110 ∷ [];
  params = [];
  slots = [];
  ret = Void;
  nodes =
      record { line = 1; cmd = cmd.Branch test.Ne false (Num (pos 1)) (Num (pos 0)) 0 1; head = Some (record { ints = []; dead = [] }) } ∷
      on_line 2 (cmd.Return (Num (pos 0))) ∷ [];
}

-- TWICE
-- `void twice(struct node *x) {`
-- `drop(x);`
-- `drop(x);`
-- `}`
-- where `drop` frees a whole list
abbrev pub twice_flow : Flow
twice_flow = record {
  name = 116 ∷ 119 ∷ 105 ∷ 99 ∷ 101 ∷ [];
  params = (120 ∷ []) ∷ [];
  slots = Ptr node_name ∷ [];
  ret = Void;
  nodes =
      on_line 1 (cmd.Call None (100 ∷ 114 ∷ 111 ∷ 112 ∷ []) (Slot 0 ∷ []) 1)
      ∷ on_line 2 (cmd.Call None (100 ∷ 114 ∷ 111 ∷ 112 ∷ []) (Slot 0 ∷ []) 2) ∷
      on_line 3 (cmd.Return (Num (pos 0))) ∷ [];
}

abbrev pub twice_task : Task
twice_task =
    calling twice_flow (callee (100 ∷ 114 ∷ 111 ∷ 112 ∷ []) ((120 ∷ []) ∷ []) (spec whole_list (post null (heap [] []) ∷ []) ∷ []) ∷ [])

-- THE LIMITS

-- a drop at a line
abbrev pub drop_at : Fault → ℕ → Option Dropped
drop_at cause line = Some (record { fault = cause; line = line })

-- a search of one node, where these are listed, these wait, and these were found
abbrev pub searching : List Pair → List (ℕ × Pair) → List SymHeap → Option Dropped → Search
searching listed queue pres first_drop = record { nodes = listed ∷ []; queue = queue; pres = pres; first_drop = first_drop }

-- nothing is missing; the local is x, or 0
abbrev pub x_pair : Pair
x_pair = pair (heap [] []) (state (Var 0 ∷ []) [] [])

abbrev pub null_pair : Pair
null_pair = pair (heap [] []) (state (null ∷ []) [] [])

-- so many facts are missing
abbrev pub large_pair : ℕ → Pair
large_pair count = pair (heap (replicate count (Ne (Var 0) null)) []) (state (Var 0 ∷ []) [] [])

-- so many times the same is listed, or was found
abbrev pub listed : ℕ → List Pair
listed count = replicate count null_pair

abbrev pub found_before : ℕ → List SymHeap
found_before count = replicate count last_node

-- the local that reads is `?1`, of which an equation says that it is 0
abbrev pub null_by_equation : Pair
null_by_equation = pair (heap [] []) (state (any 1 ∷ null ∷ []) (Eq (any 1) null ∷ []) [])

-- x is not itself, which no heap meets
abbrev pub never_pair : Pair
never_pair = pair (heap [] []) (state (Var 0 ∷ null ∷ []) (Ne (Var 0) (Var 0) ∷ []) [])

-- the list that is missing is there
abbrev pub list_pair : Pair
list_pair = pair whole_list (state (Var 0 ∷ []) [] (list (Var 0) null ∷ []))

-- a search of a procedure of three nodes, where so many are listed at the second, and nothing else
abbrev pub at_second : ℕ → Option Dropped → Search
at_second count first_drop = record { nodes = [] ∷ listed count ∷ [] ∷ []; queue = []; pres = []; first_drop = first_drop }
