-- Pieces of code. A piece is laid from a place on: its nodes stand at the places from there on, in the order in which they
-- are emitted. Where a run goes on behind a piece is known only where the piece is laid.
use Rattle.std.specs.Prelude.{ℕ, zero, ◌+◌, Bool, false, None, List, [], ◌∷◌, ◌++◌, pos}
use Rattle.shape_data.specs.declared.program.Cmd.{Cmd}
use Rattle.shape_data.specs.declared.program.Cmd.TheVariants as cmd
use Rattle.shape_data.specs.declared.program.Node.{Node}
use Rattle.shape_data.specs.declared.program.Operand.{Operand}
use Rattle.shape_data.specs.declared.program.Operand.TheVariants.{Num}
use Rattle.shape_data.specs.declared.program.TestOp.{TestOp}
use Rattle.shape_data.specs.declared.program.TestOp.TheVariants as op

-- where a run goes on behind a piece, and where the piece's `break` and `continue` lead, those in loops of its own left aside
pub record Exits : Type 0 where
  pub next : ℕ
  pub breaks : ℕ
  pub continues : ℕ

-- the exits of a piece without `break` and `continue`
abbrev pub onto : ℕ → Exits
onto next = record { next = next; breaks = next; continues = next }

-- a loop: the place of its head, which is the first of its nodes, the place behind the last of them, and the slots of the
-- variables in scope at its head
pub record Loop : Type 0 where
  pub head : ℕ
  pub past : ℕ
  pub visible : List ℕ

-- code that may be left by its exits, laid from a place on
pub record Code : Type 0 where
  -- how many nodes it has
  pub size : ℕ
  -- where a run of it begins: at one of its nodes, mostly the first, or at one of its exits
  pub entry : ℕ → Exits → ℕ
  pub nodes : ℕ → Exits → List Node
  pub loops : ℕ → List Loop

-- a test: a piece with two ways on, the first where it holds. It has at least one node, and a run begins at the first
pub record Test : Type 0 where
  pub size : ℕ
  pub nodes : ℕ → ℕ → ℕ → List Node

-- code that a run goes through, from its first place to the place behind it, laid from a place on
pub record Straight : Type 0 where
  pub size : ℕ
  pub nodes : ℕ → List Node

-- a node without a mark
abbrev pub node : ℕ → Cmd → Node
node line command = record { line = line; cmd = command; head = None }

-- no node: a run goes on at one of the exits
abbrev pub jump : (Exits → ℕ) → Code
jump exit = record { size = 0; entry = λ at exits. exit exits; nodes = λ at exits. []; loops = λ at. [] }

-- no node: a run goes on behind it
abbrev pub nothing : Code
nothing = jump (λ exits. exits.next)

-- one command, which is given where it goes on
abbrev pub command : ℕ → (ℕ → Cmd) → Code
command line make = record {
  size = 1;
  entry = λ at exits. at;
  nodes = λ at exits. node line (make exits.next) ∷ [];
  loops = λ at. [];
}

infixr 30 ◌⨾◌
-- one piece behind another
abbrev pub ◌⨾◌ : Code → Code → Code
one ⨾ other = record {
  size = one.size + other.size;
  entry = λ at exits. one.entry at (record exits { next = other.entry (at + one.size) exits });
  nodes = λ at exits. one.nodes at (record exits { next = other.entry (at + one.size) exits }) ++ other.nodes (at + one.size) exits;
  loops = λ at. one.loops at ++ other.loops (at + one.size);
}

-- STRAIGHT CODE

-- no node
abbrev pub no_nodes : Straight
no_nodes = record { size = 0; nodes = λ at. [] }

infixr 30 ◌⊹◌
-- one behind another
abbrev pub ◌⊹◌ : Straight → Straight → Straight
one ⊹ other = record { size = one.size + other.size; nodes = λ at. one.nodes at ++ other.nodes (at + one.size) }

-- a piece that goes on at the place behind it
abbrev pub straight : Code → Straight
straight code = record { size = code.size; nodes = λ at. code.nodes at (onto (at + code.size)) }

infixr 30 ◌⊳◌
-- a piece that begins at its first node, behind straight code
abbrev pub ◌⊳◌ : Straight → Code → Code
before ⊳ code = record {
  size = before.size + code.size;
  entry = λ at exits. at;
  nodes = λ at exits. before.nodes at ++ code.nodes (at + before.size) exits;
  loops = λ at. code.loops (at + before.size);
}

-- TESTS

-- one node that compares two operands; `pointers` says whether one of them is a pointer
abbrev pub branch : ℕ → TestOp → Bool → Operand → Operand → Test
branch line compare pointers left right = record {
  size = 1;
  nodes = λ at on_true on_false. node line (cmd.Branch compare pointers left right on_true on_false) ∷ [];
}

-- a test behind the code of what it compares
abbrev pub test_behind : Straight → Test → Test
test_behind before test = record {
  size = before.size + test.size;
  nodes = λ at on_true on_false. before.nodes at ++ test.nodes (at + before.size) on_true on_false;
}

-- `!` (C11 6.5.3.3)
abbrev pub opposite : Test → Test
opposite test = record { size = test.size; nodes = λ at on_true on_false. test.nodes at on_false on_true }

-- `&&`: the second only where the first holds (C11 6.5.13)
abbrev pub both : Test → Test → Test
both one other = record {
  size = one.size + other.size;
  nodes = λ at on_true on_false. one.nodes at (at + one.size) on_false ++ other.nodes (at + one.size) on_true on_false;
}

-- `||`: the second only where the first doesn't hold (C11 6.5.14)
abbrev pub either : Test → Test → Test
either one other = record {
  size = one.size + other.size;
  nodes = λ at on_true on_false. one.nodes at on_true (at + one.size) ++ other.nodes (at + one.size) on_true on_false;
}

-- the one piece where the test holds, the other where it doesn't (C11 6.8.4.1)
abbrev pub choose : Test → Code → Code → Code
choose test one other = record {
  size = test.size + one.size + other.size;
  entry = λ at exits. at;
  nodes = λ at exits.
      test.nodes at (one.entry (at + test.size) exits) (other.entry (at + test.size + one.size) exits)
      ++ one.nodes (at + test.size) exits ++ other.nodes (at + test.size + one.size) exits;
  loops = λ at. one.loops (at + test.size) ++ other.loops (at + test.size + one.size);
}

-- LOOPS

-- within a loop's body: behind it a run goes on at a place of the loop, and `continue` leads there too; `break` leads behind
-- the loop (C11 6.8.6.2, 6.8.6.3)
abbrev pub within : ℕ → Exits → Exits
within again exits = record { next = again; breaks = exits.next; continues = again }

-- where the step of a loop begins, or without a step the test, the loop being laid from a place on
abbrev pub step_entry : Test → Code → Code → ℕ → ℕ
step_entry test body step at = step.entry (at + test.size + body.size) (onto at)

-- the test, then the body, then the step, then the test again (C11 6.8.5.1, 6.8.5.3)
abbrev pub repeat : List ℕ → Test → Code → Code → Code
repeat visible test body step = record {
  size = test.size + body.size + step.size;
  entry = λ at exits. at;
  nodes = λ at exits.
      test.nodes at (body.entry (at + test.size) (within (step_entry test body step at) exits)) exits.next
      ++ body.nodes (at + test.size) (within (step_entry test body step at) exits)
      ++ step.nodes (at + test.size + body.size) (onto at);
  loops = λ at.
      record { head = at; past = at + test.size + body.size + step.size; visible = visible }
      ∷ body.loops (at + test.size) ++ step.loops (at + test.size + body.size);
}

-- the body, then the test, then the body again (C11 6.8.5.2)
abbrev pub repeat_first : List ℕ → Code → Test → Code
repeat_first visible body test = record {
  size = body.size + test.size;
  entry = λ at exits. body.entry at (within (at + body.size) exits);
  nodes = λ at exits.
      body.nodes at (within (at + body.size) exits)
      ++ test.nodes (at + body.size) (body.entry at (within (at + body.size) exits)) exits.next;
  loops = λ at. record { head = at; past = at + body.size + test.size; visible = visible } ∷ body.loops at;
}

-- PROCEDURES

-- a run of a procedure begins at node 0. Code that begins with a `do` may begin at another node than its first, since `break` leaves the
-- `do` before any node of it, or `continue` goes past nodes to its test; then a test that always holds stands before the code
abbrev pub begun_at : ℕ → Code → Code
begun_at zero code = code
begun_at entry code = choose (branch 0 op.Ne false (Num (pos 1)) (Num (pos 0))) nothing nothing ⨾ code

-- a procedure's code, its run beginning at node 0
abbrev pub begun : Code → Code
begun code = begun_at (code.entry 0 (onto 0)) code
