-- What the laws of sizes say: of any body, state and tables, whatever the types are.
use Rattle.std.specs.Prelude.{◌≡◌, ℕ, ◌+◌, ◌≤◌, Some, [], ◌∷◌, length, codes}
use Rattle.c_grammar.specs.declared.tokens.places.Place.{Place}
use Rattle.c_grammar.specs.Trees.{BinaryOp, Expr, Links, AssignOp, StepOp, Simple, ForInit, Stmt, Stmts, Head}
use Rattle.c_types_rules.specs.Examples.{at, named, variable, number, two}
use Rattle.c_types_rules.specs.Tables.{Tables}
use Rattle.c_lower_rules.specs.Examples.{body, p, p_v, assign, int_local, node_local, new_node, returns}
use Rattle.c_lower_rules.specs.Code.{Exits, onto}
use Rattle.c_lower_rules.specs.Statements.{State, stmts, stmts_kinds}
use Rattle.c_lower_rules.specs.Programs.{lowered_body}
use Rattle.c_lower_sizes.specs.Sizes.{stmts_size, stmts_locals}

-- the code of statements has as many nodes as their syntax says
abbrev pub HaveSizes : Type 0
HaveSizes = (body : Stmts) (before : State) → (stmts body before).code.size ≡ stmts_size body

-- wherever code is laid, it has as many nodes as it says
abbrev pub HaveAsManyNodes : Type 0
HaveAsManyNodes = (body : Stmts) (before : State) (at : ℕ) (exits : Exits) →
    length ((stmts body before).code.nodes at exits) ≡ (stmts body before).code.size

-- each local that is declared has a type
abbrev pub HaveLocalKinds : Type 0
HaveLocalKinds = (tables : Tables) (body : Stmts) → length (stmts_kinds tables body) ≡ stmts_locals body

-- behind statements, the locals that are declared in them are counted
abbrev pub CountLocals : Type 0
CountLocals = (body : Stmts) (before : State) → (stmts body before).behind.locals ≡ before.locals + stmts_locals body

-- the declaration of a local has one node at least
abbrev pub HaveANodeForEachLocal : Type 0
HaveANodeForEachLocal = (body : Stmts) → stmts_locals body ≤ stmts_size body

-- a procedure has no fewer nodes than its body
abbrev pub AreBodiesNoLarger : Type 0
AreBodiesNoLarger = (tables : Tables) (head : Head) (body : Stmts) (place : Place) →
    stmts_size body ≤ length ((lowered_body tables head body place).code.nodes 0 (onto 0))

-- `for (int i = 0; i < 3; i++) { int j = i; continue; }`
abbrev pub for_loop : Stmts
for_loop = body (Stmt.For (at 1) (ForInit.Locals (int_local (codes "i") (Some (number 0 9))))
    (Some (two BinaryOp.Less (variable (codes "i") 1) (number 3 5))) (Some (Simple.Step (variable (codes "i") 1) StepOp.Increment))
    (Stmt.Block (at 1) (body (Stmt.Declare (int_local (codes "j") (Some (variable (codes "i") 9))) ∷ Stmt.Continue (at 1) ∷ [])) (at 9))
    ∷ [])

-- the sizes and locals of small bodies
pub record HaveExamples : Type 0 where
  -- `return p && p->v || 0;`
  pub short_circuit : stmts_size
      (body (returns (Expr.Chain (two BinaryOp.And p p_v) (Links.Link BinaryOp.Or (number 0 9) Links.NoLinks)) ∷ [])) ≡ 7
  -- `p->v += p->v;`
  pub updates : stmts_size (body (Stmt.Do (Simple.Assign p_v AssignOp.AddTo p_v) ∷ [])) ≡ 4
  -- `p->n->v = p->v;`
  pub stores : stmts_size (body (assign (Expr.Members p (named (codes "n") 4) (named (codes "v") 7 ∷ [])) p_v ∷ [])) ≡ 3
  pub loops : stmts_size for_loop ≡ 4
  pub two_locals : stmts_locals for_loop ≡ 2
  -- `struct node *q = malloc(sizeof(struct node)); q->n = malloc(sizeof(struct node)); free(0); free(q);`
  pub memory : stmts_size (body (Stmt.Declare (node_local (codes "q") (Some new_node))
      ∷ assign (Expr.Members (variable (codes "q") 1) (named (codes "n") 4) []) new_node
      ∷ Stmt.Do (Simple.Free (at 1) (number 0 6)) ∷ Stmt.Do (Simple.Free (at 1) (variable (codes "q") 6)) ∷ [])) ≡ 5
