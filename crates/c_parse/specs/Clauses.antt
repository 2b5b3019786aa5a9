-- Which clause of the readers each value stands for.
use Rattle.std.specs.Prelude.{ℕ, Bool, true, false, Option, option_map, List, length, Ok}
use Rattle.c_grammar.specs.declared.tokens.places.Place.{Place}
use Rattle.c_grammar.specs.declared.class.Class.{Class}
use Rattle.c_grammar.specs.declared.class.Class.TheVariants as class
use Rattle.c_grammar.specs.Words.{Word}
use Rattle.c_grammar.specs.Readers as readers
use Rattle.c_grammar.specs.Trees as tree
use Rattle.c_grammar.specs.Readers.{Got, ◌>>=◌, class_at, place_at, behind, take, take_open, is_class, if_of, read_else, read_maybe}
use Rattle.c_grammar.specs.Readers.{begins_expr, read_expr, begins_simple, read_simple, begins_clause, read_clause, other_by, stmt_of}
use Rattle.c_grammar.specs.Readers.{init_of, flat_by, read_test, read_stmts}
use Rattle.c_tree.specs.Syntax.{BlockTree, expr_tree, simple_tree, for_step_tree, local_tree, init_tree}
use Rattle.c_parse.specs.declared.locals.Clause.{Clause}
use Rattle.c_parse.specs.declared.locals.Clause.TheVariants as clause
use Rattle.c_parse.specs.declared.flat_stmts.ForHead.{ForHead}

abbrev pub clause_tree : Clause → readers.Clause
clause_tree (clause.Local local) = readers.Clause.Declares (local_tree local)
clause_tree (clause.Simple simple) = readers.Clause.Does (simple_tree simple)

-- a type that has no name begins with a word of the class
abbrev pub is_type : Class → Bool
is_type class.Int = true
is_type class.Void = true
is_type class.Struct = true
is_type _ = false

-- a clause that is a simple statement and begins with no name
abbrev pub read_unnamed : ℕ → List Word → Got readers.Clause
read_unnamed n words = other_by (class_at words) n words >>= (λ s. Ok (readers.Clause.Does s.0, s.1))

-- a clause and its semicolon
abbrev pub read_plain : ℕ → List Word → Got tree.Stmt
read_plain n words = read_clause n words >>= (λ c. take class.Semicolon c.1 >>= (λ rest. Ok (stmt_of c.0, rest)))

-- `return`, with its value, if any
abbrev pub read_return : ℕ → List Word → Got tree.Stmt
read_return n words = flat_by class.Return n words

-- how a `for` begins, its test and its step
pub record ForHeadTree : Type 0 where
  pub init : tree.ForInit
  pub test : Option tree.Expr
  pub step : Option tree.Simple

abbrev pub for_head_tree : ForHead → ForHeadTree
for_head_tree head = record { init = init_tree head.init; test = option_map expr_tree head.test; step = option_map for_step_tree head.step }

-- what stands behind `for`, from its `(` to its `)`
abbrev pub read_for_head : ℕ → List Word → Got ForHeadTree
read_for_head n words =
    take_open words >>= (λ a. read_maybe begins_clause (read_clause n) a >>= (λ init. take class.Semicolon init.1 >>= (λ b.
    read_maybe begins_expr (read_expr n) b >>= (λ test. take class.Semicolon test.1 >>= (λ c.
    read_maybe begins_simple (read_simple n) c
    >>= (λ step. take class.Close step.1 >>= (λ rest. Ok (record { init = init_of init.0; test = test.0; step = step.0 }, rest))))))))

-- a block, by the reader of its statements
abbrev pub read_block : (List Word → Got tree.Stmt) → List Word → Got BlockTree
read_block read words =
    read_stmts (length (behind words)) read (behind words) >>= (λ body. take class.CloseBrace body.1 >>= (λ rest.
    Ok (record { place = place_at words; body = body.0; end = place_at body.1 }, rest)))

-- an `if` behind its first statement
abbrev pub read_if_end : (List Word → Got tree.Stmt) → Place → tree.Expr → tree.Stmt → List Word → Got tree.Stmt
read_if_end read place test body words =
    read_maybe (is_class class.Else) (read_else read) words >>= (λ other. Ok (if_of place test body other.0, other.1))

-- what stands behind the statement of a `do`
abbrev pub read_do_test : ℕ → List Word → Got tree.Expr
read_do_test n words =
    take class.While words >>= (λ a. read_test n a >>= (λ test. take class.Semicolon test.1 >>= (λ rest. Ok (test.0, rest))))

-- a `do` behind its statement
abbrev pub read_do_end : ℕ → Place → tree.Stmt → List Word → Got tree.Stmt
read_do_end n place body words = read_do_test n words >>= (λ test. Ok (tree.Stmt.DoWhile place body test.0, test.1))
