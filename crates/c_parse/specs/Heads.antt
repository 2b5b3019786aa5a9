-- Statements that have a statement within them, by what stands before that statement and what stands behind it.
use Rattle.std.specs.Prelude.{ℕ, List, Ok}
use Rattle.c_grammar.specs.declared.tokens.places.Place.{Place}
use Rattle.c_grammar.specs.declared.class.Class.{Class}
use Rattle.c_grammar.specs.declared.class.Class.TheVariants as class
use Rattle.c_grammar.specs.Words.{Word}
use Rattle.c_grammar.specs.Trees as tree
use Rattle.c_grammar.specs.Readers.{Got, ◌>>=◌, wrong, class_at, place_at, behind, take, read_test}
use Rattle.c_tree.specs.Syntax.{BlockTree, expr_tree, stmt_tree}
use Rattle.c_parse.specs.Clauses.{ForHeadTree, for_head_tree, read_for_head, read_if_end, read_do_end}
use Rattle.c_parse.specs.declared.heads.Tested.{Tested}
use Rattle.c_parse.specs.declared.heads.Branch.{Branch}
use Rattle.c_parse.specs.declared.heads.Iteration.{Iteration}
use Rattle.c_parse.specs.declared.heads.Iteration.TheVariants as iteration

-- `if` or `while` by its place, and its test
pub record TestedTree : Type 0 where
  pub place : Place
  pub test : tree.Expr

abbrev pub tested_tree : Tested → TestedTree
tested_tree one = record { place = one.place; test = expr_tree one.test }

abbrev pub read_tested : ℕ → List Word → Got TestedTree
read_tested n words = read_test n (behind words) >>= (λ test. Ok (record { place = place_at words; test = test.0 }, test.1))

-- an `if` up to the end of its first statement
pub record BranchTree : Type 0 where
  pub place : Place
  pub test : tree.Expr
  pub body : tree.Stmt

abbrev pub branch_tree : Branch → BranchTree
branch_tree one = record { place = one.place; test = expr_tree one.test; body = stmt_tree one.body.value }

abbrev pub read_other : (List Word → Got tree.Stmt) → BranchTree → List Word → Got tree.Stmt
read_other read one words = read_if_end read one.place one.test one.body words

-- an `if` by its parts
abbrev pub read_whole_if : ℕ → (List Word → Got tree.Stmt) → List Word → Got tree.Stmt
read_whole_if n read words =
    read_tested n words
    >>= (λ one. read one.1 >>= (λ body. read_other read (record { place = one.0.place; test = one.0.test; body = body.0 }) body.1))

-- what stands before the statement of an iteration statement
pub data IterationTree : Type 0 where
  While : TestedTree → IterationTree
  Do : Place → IterationTree
  For : Place → ForHeadTree → IterationTree

abbrev pub iteration_tree : Iteration → IterationTree
iteration_tree (iteration.While one) = While (tested_tree one)
iteration_tree (iteration.Do place) = Do place
iteration_tree (iteration.For place head) = For place (for_head_tree head)

abbrev pub iteration_by : Class → ℕ → List Word → Got IterationTree
iteration_by class.While n words = read_tested n words >>= (λ one. Ok (While one.0, one.1))
iteration_by class.Do n words = Ok (Do (place_at words), behind words)
iteration_by class.For n words = read_for_head n (behind words) >>= (λ head. Ok (For (place_at words) head.0, head.1))
iteration_by _ n words = wrong words

-- what stands behind the statement of an iteration statement
abbrev pub iteration_end : IterationTree → ℕ → tree.Stmt → List Word → Got tree.Stmt
iteration_end (While one) n body words = Ok (tree.Stmt.While one.place one.test body, words)
iteration_end (Do place) n body words = read_do_end n place body words
iteration_end (For place head) n body words = Ok (tree.Stmt.For place head.init head.test head.step body, words)

-- an iteration statement by its parts
abbrev pub read_iteration : ℕ → (List Word → Got tree.Stmt) → List Word → Got tree.Stmt
read_iteration n read words =
    iteration_by (class_at words) n words >>= (λ head. read head.1 >>= (λ body. iteration_end head.0 n body.0 body.1))

-- a block behind its statements
abbrev pub read_block_end : Place → tree.Stmts → List Word → Got BlockTree
read_block_end place body words =
    take class.CloseBrace words >>= (λ rest. Ok (record { place = place; body = body; end = place_at words }, rest))
