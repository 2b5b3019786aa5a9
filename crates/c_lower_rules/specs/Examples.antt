-- Small bodies of a procedure `int f(struct node *p)`, as trees, where `struct node` has the fields `int v` and `struct node *n`.
-- All stands on line 1, but for the closing brace, on line 5.
use Rattle.std.specs.Prelude.{ℕ, Option, Some, None, List, [], ◌∷◌, codes}
use Rattle.shape_data.specs.declared.program.Cmd.{Cmd}
use Rattle.shape_data.specs.declared.program.Node.{Node}
use Rattle.c_grammar.specs.declared.tokens.places.Place.{Place}
use Rattle.c_grammar.specs.Trees.{Specifier, Params, Expr, AssignOp, Simple, Local, Stmt, Stmts, Head}
use Rattle.c_types_rules.specs.Examples.{at, named, variable, node, plain_name, pointer_name}
use Rattle.c_types_rules.specs.Tables.{declared_by}
use Rattle.c_lower_rules.specs.Programs.{flow_of}

-- `int f(struct node *p)`
abbrev pub head : Head
head = record {
  specifier = Specifier.Int (at 1);
  declarator = plain_name (codes "f") 5;
  params =
      Params.Listed
      (record { specifier = Specifier.Struct (at 7) (named (codes "node") 14); stars = 1; name = Some (named (codes "p") 20) }) [];
}

-- statements as a body
abbrev pub body : List Stmt → Stmts
body [] = Stmts.NoStmts
body (first ∷ others) = Stmts.Next first (body others)

-- the place of the closing brace
abbrev pub end : Place
end = record { line = 5; column = 1 }

-- the nodes of a body
abbrev pub nodes : List Stmt → List Node
nodes statements = (flow_of (declared_by (node ∷ [])) head (body statements) end).nodes

-- `p`
abbrev pub p : Expr
p = variable (codes "p") 1

-- `p->v` and `p->n`
abbrev pub p_v : Expr
p_v = Expr.Members p (named (codes "v") 4) []

-- `p->n`
abbrev pub p_n : Expr
p_n = Expr.Members p (named (codes "n") 4) []

-- `LEFT = RIGHT;`
abbrev pub assign : Expr → Expr → Stmt
assign left right = Stmt.Do (Simple.Assign left AssignOp.Set right)

-- `int NAME = VALUE`
abbrev pub int_local : List ℕ → Option Expr → Local
int_local name value =
    record { specifier = Specifier.Int (at 1); first = record { declarator = plain_name name 5; value = value }; others = [] }

-- `struct node *NAME = VALUE`
abbrev pub node_local : List ℕ → Option Expr → Local
node_local name value = record {
  specifier = Specifier.Struct (at 1) (named (codes "node") 8);
  first = record { declarator = pointer_name name 14; value = value };
  others = [];
}

-- `malloc(sizeof(struct node))`
abbrev pub new_node : Expr
new_node = Expr.Malloc (at 1) None (Specifier.Struct (at 15) (named (codes "node") 22))

-- `return VALUE;`
abbrev pub returns : Expr → Stmt
returns value = Stmt.Return (at 1) (Some value)

-- a node on line 1, on the brace's line, and one that is a loop's head
abbrev pub step : Cmd → Node
step command = record { line = 0; cmd = command; head = None }

-- a node on the brace's line
abbrev pub closing : Cmd → Node
closing command = record { line = 4; cmd = command; head = None }

-- a node on line 1 that is a loop's head
abbrev pub loop : List ℕ → List ℕ → Cmd → Node
loop ints dead command = record { line = 0; cmd = command; head = Some (record { ints = ints; dead = dead }) }
