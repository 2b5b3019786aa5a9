-- Certificates by hand, for a procedure that reads a field, one that walks along a list, one that calls itself, and a caller.
use Rattle.std.specs.Prelude.{ℕ, pos, Bool, true, false, List, [], ◌∷◌}
use Rattle.std.specs.declared.option.Option.TheVariants.{None, Some}
use Rattle.shape_data.specs.declared.answer.Answer.{Answer}
use Rattle.shape_data.specs.declared.answer.Callee.{Callee}
use Rattle.shape_data.specs.declared.answer.Key.{Key}
use Rattle.shape_data.specs.declared.program.ArithOp.TheVariants.{Add}
use Rattle.shape_data.specs.declared.program.Cmd.TheVariants as cmd
use Rattle.shape_data.specs.declared.program.Flow.{Flow}
use Rattle.shape_data.specs.declared.program.Operand.TheVariants.{Slot, Num}
use Rattle.shape_data.specs.declared.program.TestOp.TheVariants as test
use Rattle.shape_data.specs.declared.program.Ty.TheVariants.{Int, Ptr, Void}
use Rattle.shape_data.specs.declared.symbolic.Cert.{Cert}
use Rattle.shape_data.specs.declared.symbolic.Exp.TheVariants.{Var}
use Rattle.shape_data.specs.declared.symbolic.Fact.TheVariants.{Ne}
use Rattle.shape_data.specs.declared.symbolic.Post.{Post}
use Rattle.shape_data.specs.declared.symbolic.Spec.{Spec}
use Rattle.shape_data.specs.declared.symbolic.SymHeap.{SymHeap}
use Rattle.shape_data.specs.declared.symbolic.SymState.{SymState}
use Rattle.sym_parts.specs.Shapes.Examples.{node_name, node_struct, on_line}
use Rattle.sym_matching.specs.Examples.{any, cell, heap, list, null, state}
use Rattle.exec_laws.specs.Examples.{callee, post, spec}
use Rattle.solve_laws.specs.declared.certificates.parts.Gap.{Gap}
use Rattle.shape_data.specs.declared.answer.Fault.{Fault}

-- a certificate of states for each node, and of exits
abbrev pub cert : List (List SymState) → List Post → Cert
cert nodes exits = record { nodes = nodes; exits = exits }

-- the key of a procedure, which calls itself or doesn't, with callees
abbrev pub key_of : Bool → Flow → List Callee → Key
key_of recursive flow callees = record { recursive = recursive; procs = flow ∷ []; structs = node_struct ∷ []; callees = callees }

-- an answer for it: one spec with its certificate
abbrev pub answer_of : Flow → Spec → Cert → Answer
answer_of flow spec cert = record {
  stored = false;
  procs = record { name = flow.name; specs = spec ∷ []; certs = cert ∷ []; reason = None } ∷ [];
}

-- a gap of that spec at a line
abbrev pub gap_at : ℕ → Fault → Gap
gap_at line fault = record { proc = 0; spec = 0; line = line; fault = fault }

-- GET
-- `int get(struct node *x) {`
-- `return x->data;`
-- `}`
abbrev pub get_flow : Flow
get_flow = record {
  name = 103 ∷ 101 ∷ 116 ∷ [];
  params = (120 ∷ []) ∷ [];
  slots = Ptr node_name ∷ Int ∷ [];
  ret = Int;
  nodes =
      on_line 1 (cmd.Load 1 0 node_name 0 1) ∷ on_line 1 (cmd.Return (Slot 1)) ∷
      on_line 2 (cmd.Any 1 Int 3) ∷ on_line 2 (cmd.Return (Slot 1)) ∷ [];
}

abbrev pub get_key : Key
get_key = key_of false get_flow []

-- `x|->node(data:$1,next:$2)`
abbrev pub one_node : SymHeap
one_node = heap [] (cell (Var 0) (Var 1) (Var 2) ∷ [])

-- it answers $1, and leaves the cell as it is
abbrev pub get_spec : Spec
get_spec = spec one_node (post (Var 1) one_node ∷ [])

abbrev pub get_start : SymState
get_start = record { locals = Var 0 ∷ null ∷ []; heap = one_node }

abbrev pub get_read : SymState
get_read = record { locals = Var 0 ∷ Var 1 ∷ []; heap = one_node }

-- nothing comes to the nodes behind the return
abbrev pub get_cert : Cert
get_cert = cert ((get_start ∷ []) ∷ (get_read ∷ []) ∷ [] ∷ [] ∷ []) (post (Var 1) one_node ∷ [])

-- WALK
-- `void walk(struct node *x) {`
-- `while (x != NULL)`
-- `x = x->next;`
-- `}`
abbrev pub walk_flow : Flow
walk_flow = record {
  name = 119 ∷ 97 ∷ 108 ∷ 107 ∷ [];
  params = (120 ∷ []) ∷ [];
  slots = Ptr node_name ∷ [];
  ret = Void;
  nodes =
      record { line = 1; cmd = cmd.Branch test.Ne true (Slot 0) (Num (pos 0)) 1 2; head = Some (record { ints = []; dead = [] }) } ∷
      on_line 2 (cmd.Load 0 0 node_name 1 0) ∷ on_line 3 (cmd.Return (Num (pos 0))) ∷ [];
}

abbrev pub walk_key : Key
walk_key = key_of false walk_flow []

-- `ls[node.next](x,0)`
abbrev pub whole_list : SymHeap
whole_list = heap [] (list (Var 0) null ∷ [])

-- the list stays
abbrev pub walk_spec : Spec
walk_spec = spec whole_list (post null whole_list ∷ [])

-- at the head: what is behind, and what is ahead of x, either of which may be empty
abbrev pub walk_head : SymState
walk_head = state (any 1 ∷ []) [] (list (Var 0) (any 1) ∷ list (any 1) null ∷ [])

-- in the loop x is not null
abbrev pub walk_body : SymState
walk_body = state (any 1 ∷ []) (Ne (any 1) null ∷ []) (list (Var 0) (any 1) ∷ list (any 1) null ∷ [])

-- behind it x is null
abbrev pub walk_end : SymState
walk_end = record { locals = null ∷ []; heap = whole_list }

abbrev pub walk_cert : Cert
walk_cert = cert ((walk_head ∷ []) ∷ (walk_body ∷ []) ∷ (walk_end ∷ []) ∷ []) (post null whole_list ∷ [])

-- LENGTH
-- `int length(struct node *n) {`
-- `if (n == NULL)`
-- `return 0;`
-- `int rest = length(n->next);`
-- `return rest + 1;`
-- `}`
abbrev pub length_flow : Flow
length_flow = record {
  name = 108 ∷ 101 ∷ 110 ∷ 103 ∷ 116 ∷ 104 ∷ [];
  params = (110 ∷ []) ∷ [];
  slots = Ptr node_name ∷ Int ∷ Ptr node_name ∷ Int ∷ [];
  ret = Int;
  nodes =
      on_line 1 (cmd.Branch test.Eq true (Slot 0) (Num (pos 0)) 1 2) ∷ on_line 2 (cmd.Return (Num (pos 0))) ∷
      on_line 3 (cmd.Load 2 0 node_name 1 3) ∷ on_line 3 (cmd.Call (Some 1) (108 ∷ 101 ∷ 110 ∷ 103 ∷ 116 ∷ 104 ∷ []) (Slot 2 ∷ []) 4) ∷
      on_line 4 (cmd.Arith 3 Add (Slot 1) (Num (pos 1)) 5) ∷ on_line 4 (cmd.Return (Slot 3)) ∷
      on_line 5 (cmd.Any 3 Int 7) ∷ on_line 5 (cmd.Return (Slot 3)) ∷ [];
}

abbrev pub length_key : Key
length_key = key_of true length_flow []

-- it answers some number, and leaves the list as it is
abbrev pub length_spec : Spec
length_spec = spec whole_list (post (any 1) whole_list ∷ [])

abbrev pub length_start : SymState
length_start = record { locals = Var 0 ∷ null ∷ null ∷ null ∷ []; heap = whole_list }

-- `n|->node(data:?2,next:?1)` and the rest from ?1
abbrev pub length_loaded : SymState
length_loaded = state (Var 0 ∷ null ∷ any 1 ∷ null ∷ []) [] (cell (Var 0) (any 2) (any 1) ∷ list (any 1) null ∷ [])

-- the call's result is ?1
abbrev pub length_called : SymState
length_called = state (Var 0 ∷ any 1 ∷ any 2 ∷ null ∷ []) [] (cell (Var 0) (any 3) (any 2) ∷ list (any 2) null ∷ [])

abbrev pub length_added : SymState
length_added = state (Var 0 ∷ any 1 ∷ any 2 ∷ any 3 ∷ []) [] (cell (Var 0) (any 4) (any 2) ∷ list (any 2) null ∷ [])

-- the state of node 1, which returns for the empty list, says no more than the precondition
abbrev pub length_nodes : List (List SymState)
length_nodes =
    (length_start ∷ []) ∷ (length_start ∷ [])
    ∷ (state (Var 0 ∷ null ∷ null ∷ null ∷ []) (Ne (Var 0) null ∷ []) (list (Var 0) null ∷ []) ∷ []) ∷
    (length_loaded ∷ []) ∷ (length_called ∷ []) ∷ (length_added ∷ []) ∷ [] ∷ [] ∷ []

abbrev pub length_cert : Cert
length_cert = cert length_nodes (post (any 1) whole_list ∷ [])

-- A CALLER
-- `int read(struct node *x) {`
-- `int a = get(x);`
-- `return a;`
-- `}`
abbrev pub read_flow : Flow
read_flow = record {
  name = 114 ∷ 101 ∷ 97 ∷ 100 ∷ [];
  params = (120 ∷ []) ∷ [];
  slots = Ptr node_name ∷ Int ∷ Int ∷ [];
  ret = Int;
  nodes =
      on_line 1 (cmd.Call (Some 1) get_flow.name (Slot 0 ∷ []) 1) ∷ on_line 2 (cmd.Return (Slot 1)) ∷
      on_line 3 (cmd.Any 2 Int 3) ∷ on_line 3 (cmd.Return (Slot 2)) ∷ [];
}

-- its key, where the callee of this name has this spec
abbrev pub read_key : List ℕ → Spec → Key
read_key name known = key_of false read_flow (callee name get_flow.params (known ∷ []) ∷ [])

abbrev pub read_start : SymState
read_start = record { locals = Var 0 ∷ null ∷ null ∷ []; heap = one_node }

abbrev pub read_called : SymState
read_called = record { locals = Var 0 ∷ Var 1 ∷ null ∷ []; heap = one_node }

abbrev pub read_cert : Cert
read_cert = cert ((read_start ∷ []) ∷ (read_called ∷ []) ∷ [] ∷ [] ∷ []) (post (Var 1) one_node ∷ [])
