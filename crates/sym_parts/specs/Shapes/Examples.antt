-- Three procedures in flow form: one that reads a field, one that makes a cell, one that reads what it freed.
use Rattle.std.specs.Prelude.{ℕ, ℤ, List, [], ◌∷◌}
use Rattle.std.specs.declared.option.Option.TheVariants.{None}
use Rattle.shape_data.specs.declared.machine.Cell.{Cell}
use Rattle.shape_data.specs.declared.machine.Choice.{Choice}
use Rattle.shape_data.specs.declared.machine.Outcome.{Outcome}
use Rattle.shape_data.specs.declared.program.Cmd.{Cmd}
use Rattle.shape_data.specs.declared.program.Cmd.TheVariants as cmd
use Rattle.shape_data.specs.declared.program.Flow.{Flow}
use Rattle.shape_data.specs.declared.program.Node.{Node}
use Rattle.shape_data.specs.declared.program.Operand.TheVariants.{Slot}
use Rattle.shape_data.specs.declared.program.Program.{Program}
use Rattle.shape_data.specs.declared.program.StructDef.{StructDef}
use Rattle.shape_data.specs.declared.program.Ty.TheVariants.{Int, Ptr}
use Rattle.shape_data.specs.Machine.{run, start}

-- the name `node`
abbrev pub node_name : List ℕ
node_name = 110 ∷ 111 ∷ 100 ∷ 101 ∷ []

-- line 1 of each file: `struct node { int data; struct node *next; };`
abbrev pub node_struct : StructDef
node_struct = record {
  name = node_name;
  fields = record { name = 100 ∷ 97 ∷ 116 ∷ 97 ∷ []; ty = Int } ∷ record { name = 110 ∷ 101 ∷ 120 ∷ 116 ∷ []; ty = Ptr node_name } ∷ [];
}

-- a cell of that structure at an address, with its two numbers
abbrev pub node_cell : ℤ → ℤ → ℤ → Cell
node_cell at data_field next_field = record { at = at; kind = node_name; fields = data_field ∷ next_field ∷ [] }

-- a node on a line of the procedure, its first line being 0
abbrev pub on_line : ℕ → Cmd → Node
on_line line cmd = record { line = line; cmd = cmd; head = None }

-- line 2: `int get(struct node *x) { return x->data; }`
abbrev pub get_flow : Flow
get_flow = record {
  name = 103 ∷ 101 ∷ 116 ∷ [];
  params = (120 ∷ []) ∷ [];
  slots = Ptr node_name ∷ Int ∷ [];
  ret = Int;
  nodes =
      on_line 0 (cmd.Load 1 0 node_name 0 1) ∷ on_line 0 (cmd.Return (Slot 1)) ∷
      on_line 0 (cmd.Any 1 Int 3) ∷ on_line 0 (cmd.Return (Slot 1)) ∷ [];
}

-- lines 2 to 5:
-- `struct node *mk(int a) {`
-- `struct node *n = malloc(sizeof(struct node));`
-- `n->data = a;`
-- `return n; }`
abbrev pub make_flow : Flow
make_flow = record {
  name = 109 ∷ 107 ∷ [];
  params = (97 ∷ []) ∷ [];
  slots = Int ∷ Ptr node_name ∷ Ptr node_name ∷ [];
  ret = Ptr node_name;
  nodes =
      on_line 1 (cmd.New 1 node_name 1) ∷ on_line 2 (cmd.Store 1 node_name 0 (Slot 0) 2) ∷ on_line 3 (cmd.Return (Slot 1)) ∷
      on_line 3 (cmd.Any 2 (Ptr node_name) 4) ∷ on_line 3 (cmd.Return (Slot 2)) ∷ [];
}

-- line 2: `int bad(struct node *x) { free(x); return x->data; }`
abbrev pub bad_flow : Flow
bad_flow = record {
  name = 98 ∷ 97 ∷ 100 ∷ [];
  params = (120 ∷ []) ∷ [];
  slots = Ptr node_name ∷ Int ∷ [];
  ret = Int;
  nodes =
      on_line 0 (cmd.Free 0 node_name 1) ∷ on_line 0 (cmd.Load 1 0 node_name 0 2) ∷ on_line 0 (cmd.Return (Slot 1)) ∷
      on_line 0 (cmd.Any 1 Int 4) ∷ on_line 0 (cmd.Return (Slot 1)) ∷ [];
}

-- the structure, and one procedure on line 2 of the file `a.c`
abbrev pub file_of : Flow → Program
file_of flow = record { structs = node_struct ∷ []; procs = record { flow = flow; file = 97 ∷ 46 ∷ 99 ∷ []; line = 2 } ∷ [] }

-- the run of that procedure with one argument, over a heap
abbrev pub run_of : Flow → ℤ → List Cell → List Choice → Outcome
run_of flow argument heap choices = run (file_of flow) (start flow 0 (argument ∷ []) heap) choices
