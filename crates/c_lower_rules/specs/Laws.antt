-- What the laws of lowering say.
use Rattle.std.specs.Prelude.{◌≡◌, ℕ, true, false, Some, None, List, [], ◌∷◌, length, codes, pos, All}
use Rattle.shape_data.specs.declared.program.ArithOp.TheVariants as arith
use Rattle.shape_data.specs.declared.program.Cmd.TheVariants as cmd
use Rattle.shape_data.specs.declared.program.Operand.TheVariants.{Slot, Num}
use Rattle.shape_data.specs.declared.program.TestOp.TheVariants as test
use Rattle.shape_data.specs.declared.program.Ty.TheVariants.{Int}
use Rattle.shape_data.specs.WellFormed.{IsCountable, IsProgram}
use Rattle.c_grammar.specs.Trees.{BinaryOp, PrefixOp, Expr, Links, Args, AssignOp, StepOp, Simple, ForInit, Stmt, File}
use Rattle.c_types_rules.specs.Examples.{at, named, variable, number, two}
use Rattle.c_types_rules.specs.Programs.{IsWellTyped}
use Rattle.c_lower_rules.specs.Texts.{IsText}
use Rattle.c_lower_rules.specs.Programs.{first_too_large, program_of}
use Rattle.c_lower_rules.specs.Examples.{body, nodes, p, p_v, p_n, assign, int_local, node_local, new_node, returns, step, closing, loop}

-- the program that files are is well formed, where nothing is refused in them, they have what every file that was parsed has
-- (`Texts`), one name is given for each, and structures and procedures can be counted
abbrev pub HaveWellFormed : Type 0
HaveWellFormed =
    (names : List (List ℕ)) (files : List File) → IsWellTyped files → first_too_large files ≡ None → All IsText files
    → length names ≡ length files
    → IsCountable (program_of names files).structs → IsCountable (program_of names files).procs → IsProgram (program_of names files)

-- the nodes of small bodies; what closes them is `Any` and `Return`
pub record HaveExamples : Type 0 where
  -- `return p->v;`
  pub member : nodes (returns p_v ∷ []) ≡
      step (cmd.Load 1 0 (codes "node") 0 1) ∷ step (cmd.Return (Slot 1))
      ∷ closing (cmd.Any 1 Int 3) ∷ closing (cmd.Return (Slot 1)) ∷ []
  -- `return p && p->v || 0;`
  pub short_circuit : nodes (returns (Expr.Chain (two BinaryOp.And p p_v) (Links.Link BinaryOp.Or (number 0 9) Links.NoLinks)) ∷ []) ≡
      step (cmd.Branch test.Ne true (Slot 0) (Num (pos 0)) 1 3) ∷ step (cmd.Load 2 0 (codes "node") 0 2)
      ∷ step (cmd.Branch test.Ne false (Slot 2) (Num (pos 0)) 4 3) ∷ step (cmd.Branch test.Ne false (Num (pos 0)) (Num (pos 0)) 4 5)
      ∷ step (cmd.Copy 1 (Num (pos 1)) 6) ∷ step (cmd.Copy 1 (Num (pos 0)) 6) ∷ step (cmd.Return (Slot 1))
      ∷ closing (cmd.Any 1 Int 8) ∷ closing (cmd.Return (Slot 1)) ∷ []
  -- `if (!(p == NULL)) return - p->v; else ;`
  pub branches : nodes (Stmt.IfElse (at 1) (Expr.Prefix (at 1) PrefixOp.Not (Expr.Paren (at 1) (two BinaryOp.Equal p (Expr.Null (at 1)))))
      (returns (Expr.Prefix (at 1) PrefixOp.Negate p_v)) (Stmt.Empty (at 1)) ∷ []) ≡
      step (cmd.Branch test.Eq true (Slot 0) (Num (pos 0)) 4 1) ∷ step (cmd.Load 1 0 (codes "node") 0 2)
      ∷ step (cmd.Arith 2 arith.Sub (Num (pos 0)) (Slot 1) 3) ∷ step (cmd.Return (Slot 2))
      ∷ closing (cmd.Any 1 Int 5) ∷ closing (cmd.Return (Slot 1)) ∷ []
  -- `p->v += p->v;`
  pub updates : nodes (Stmt.Do (Simple.Assign p_v AssignOp.AddTo p_v) ∷ []) ≡
      step (cmd.Load 1 0 (codes "node") 0 1) ∷ step (cmd.Load 2 0 (codes "node") 0 2) ∷ step (cmd.Arith 3 arith.Add (Slot 1) (Slot 2) 3)
      ∷ step (cmd.Store 0 (codes "node") 0 (Slot 3) 4)
      ∷ closing (cmd.Any 1 Int 5) ∷ closing (cmd.Return (Slot 1)) ∷ []
  -- `p->v += f(p);`: the call, then the load
  pub updates_by_call : nodes (Stmt.Do (Simple.Assign p_v AssignOp.AddTo (Expr.Call (named (codes "f") 9) (Args.Arg p Args.NoArgs))) ∷ []) ≡
      step (cmd.Call (Some 1) (codes "f") (Slot 0 ∷ []) 1) ∷ step (cmd.Load 2 0 (codes "node") 0 2)
      ∷ step (cmd.Arith 3 arith.Add (Slot 2) (Slot 1) 3)
      ∷ step (cmd.Store 0 (codes "node") 0 (Slot 3) 4)
      ∷ closing (cmd.Any 1 Int 5) ∷ closing (cmd.Return (Slot 1)) ∷ []
  -- `p->n->v = p->v;`: the value, then the pointer, then the store
  pub stores : nodes (assign (Expr.Members p (named (codes "n") 4) (named (codes "v") 7 ∷ [])) p_v ∷ []) ≡
      step (cmd.Load 1 0 (codes "node") 0 1) ∷ step (cmd.Load 2 0 (codes "node") 1 2) ∷ step (cmd.Store 2 (codes "node") 0 (Slot 1) 3)
      ∷ closing (cmd.Any 1 Int 4) ∷ closing (cmd.Return (Slot 1)) ∷ []
  -- `while (p) p = p->n;`
  pub walk : nodes (Stmt.While (at 1) p (assign p p_n) ∷ []) ≡
      loop [] (1 ∷ []) (cmd.Branch test.Ne true (Slot 0) (Num (pos 0)) 1 2) ∷ step (cmd.Load 0 0 (codes "node") 1 0)
      ∷ closing (cmd.Any 1 Int 3) ∷ closing (cmd.Return (Slot 1)) ∷ []
  -- `for (int i = 0; i < 3; i++) { int j = i; continue; }`: `continue` goes to the step; `j` is out of scope at the head
  pub for_loop : nodes (Stmt.For (at 1) (ForInit.Locals (int_local (codes "i") (Some (number 0 9))))
      (Some (two BinaryOp.Less (variable (codes "i") 1) (number 3 5))) (Some (Simple.Step (variable (codes "i") 1) StepOp.Increment))
      (Stmt.Block (at 1) (body (Stmt.Declare (int_local (codes "j") (Some (variable (codes "i") 9))) ∷ Stmt.Continue (at 1) ∷ [])) (at 9))
      ∷ []) ≡
      step (cmd.Copy 1 (Num (pos 0)) 1) ∷ loop (1 ∷ 2 ∷ []) (2 ∷ 3 ∷ []) (cmd.Branch test.Lt false (Slot 1) (Num (pos 3)) 2 4)
      ∷ step (cmd.Copy 2 (Slot 1) 3) ∷ step (cmd.Arith 1 arith.Add (Slot 1) (Num (pos 1)) 1)
      ∷ closing (cmd.Any 3 Int 5) ∷ closing (cmd.Return (Slot 3)) ∷ []
  -- `do { while (p) p = p->n; } while (p->v);`: one head of two loops
  pub one_head : nodes (Stmt.DoWhile (at 1) (Stmt.Block (at 1) (body (Stmt.While (at 1) p (assign p p_n) ∷ [])) (at 9)) p_v ∷ []) ≡
      loop (1 ∷ []) (1 ∷ []) (cmd.Branch test.Ne true (Slot 0) (Num (pos 0)) 1 2) ∷ step (cmd.Load 0 0 (codes "node") 1 0)
      ∷ step (cmd.Load 1 0 (codes "node") 0 3) ∷ step (cmd.Branch test.Ne false (Slot 1) (Num (pos 0)) 0 4)
      ∷ closing (cmd.Any 1 Int 5) ∷ closing (cmd.Return (Slot 1)) ∷ []
  -- `do continue; while (0);`: the test goes on at itself
  pub empty_body : nodes (Stmt.DoWhile (at 1) (Stmt.Continue (at 1)) (number 0 1) ∷ []) ≡
      loop [] (1 ∷ []) (cmd.Branch test.Ne false (Num (pos 0)) (Num (pos 0)) 0 1)
      ∷ closing (cmd.Any 1 Int 2) ∷ closing (cmd.Return (Slot 1)) ∷ []
  -- `do { break; return 1; } while (1); return 2;`: a run begins behind the loop
  pub begins_later : nodes
      (Stmt.DoWhile (at 1) (Stmt.Block (at 1) (body (Stmt.Break (at 1) ∷ returns (number 1 8) ∷ [])) (at 9)) (number 1 1)
      ∷ returns (number 2 8) ∷ []) ≡
      step (cmd.Branch test.Ne false (Num (pos 1)) (Num (pos 0)) 3 3)
      ∷ loop [] (1 ∷ []) (cmd.Return (Num (pos 1))) ∷ step (cmd.Branch test.Ne false (Num (pos 1)) (Num (pos 0)) 3 3)
      ∷ step (cmd.Return (Num (pos 2)))
      ∷ closing (cmd.Any 1 Int 5) ∷ closing (cmd.Return (Slot 1)) ∷ []
  -- `for (;;) if (p) break;`
  pub forever : nodes (Stmt.For (at 1) ForInit.NoInit None None (Stmt.If (at 1) p (Stmt.Break (at 1))) ∷ []) ≡
      loop [] (1 ∷ []) (cmd.Branch test.Ne false (Num (pos 1)) (Num (pos 0)) 1 2)
      ∷ step (cmd.Branch test.Ne true (Slot 0) (Num (pos 0)) 2 0)
      ∷ closing (cmd.Any 1 Int 3) ∷ closing (cmd.Return (Slot 1)) ∷ []
  -- `struct node *q = malloc(sizeof(struct node)); q->n = malloc(sizeof(struct node)); free(0); free(q);`
  pub memory : nodes (Stmt.Declare (node_local (codes "q") (Some new_node))
      ∷ assign (Expr.Members (variable (codes "q") 1) (named (codes "n") 4) []) new_node
      ∷ Stmt.Do (Simple.Free (at 1) (number 0 6)) ∷ Stmt.Do (Simple.Free (at 1) (variable (codes "q") 6)) ∷ []) ≡
      step (cmd.New 1 (codes "node") 1) ∷ step (cmd.New 2 (codes "node") 2) ∷ step (cmd.Store 1 (codes "node") 1 (Slot 2) 3)
      ∷ step (cmd.Copy 3 (Num (pos 0)) 4) ∷ step (cmd.Free 1 (codes "node") 5)
      ∷ closing (cmd.Any 3 Int 6) ∷ closing (cmd.Return (Slot 3)) ∷ []
