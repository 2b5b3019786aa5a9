-- Pieces of code have so many nodes, wherever they are laid.
use Rattle.std.proofs.Common.{◌≡◌, ℕ, ◌+◌, Bool, List, ◌++◌, length, refl, arith, subst}
use Rattle.std.proofs.lemmas.List.{length-append}
use Rattle.shape_data.specs.declared.program.Cmd.{Cmd}
use Rattle.shape_data.specs.declared.program.Operand.{Operand}
use Rattle.shape_data.specs.declared.program.TestOp.{TestOp}
use Rattle.c_lower_rules.specs.Code.{Exits, onto, Code, Test, Straight, jump, command, ◌⨾◌, no_nodes, ◌⊹◌, straight, ◌⊳◌, branch}
use Rattle.c_lower_rules.specs.Code.{test_behind, opposite, both, either, choose, within, step_entry, repeat, repeat_first}

pub sums : {a b n m : ℕ} → a ≡ n → b ≡ m → a + b ≡ n + m
sums e f = omega arith

-- STRAIGHT CODE

pub record HasStraight (n : ℕ) (code : Straight) : Type 0 where
  pub size : code.size ≡ n
  pub nodes : (at : ℕ) → length (code.nodes at) ≡ n

pub straight_is : (n m : ℕ) → n ≡ m → (code : Straight) → HasStraight n code → HasStraight m code
straight_is n m e code h = subst (λ k. HasStraight k code) e h

pub straight_none : HasStraight 0 no_nodes
straight_none = record { size = refl; nodes = λ at. refl }

pub straight_append : (n m : ℕ) (one other : Straight) → HasStraight n one → HasStraight m other → HasStraight (n + m) (one ⊹ other)
straight_append n m one other h k = record {
  size = sums h.size k.size;
  nodes = λ at. rw (length-append (one.nodes at) (other.nodes (at + one.size)), h.nodes at, k.nodes (at + one.size)) refl;
}

-- PIECES

pub record HasSize (n : ℕ) (code : Code) : Type 0 where
  pub size : code.size ≡ n
  pub nodes : (at : ℕ) (exits : Exits) → length (code.nodes at exits) ≡ n

pub code_is : (n m : ℕ) → n ≡ m → (code : Code) → HasSize n code → HasSize m code
code_is n m e code h = subst (λ k. HasSize k code) e h

pub code_jump : (exit : Exits → ℕ) → HasSize 0 (jump exit)
code_jump exit = record { size = refl; nodes = λ at exits. refl }

pub code_command : (line : ℕ) (make : ℕ → Cmd) → HasSize 1 (command line make)
code_command line make = record { size = refl; nodes = λ at exits. refl }

pub code_behind : (n m : ℕ) (one other : Code) → HasSize n one → HasSize m other → HasSize (n + m) (one ⨾ other)
code_behind n m one other h k = record {
  size = sums h.size k.size;
  nodes = λ at exits.
      rw (
        length-append (one.nodes at (record exits { next = other.entry (at + one.size) exits })) (other.nodes (at + one.size) exits),
        h.nodes at _,
        k.nodes (at + one.size) exits,
      ) refl;
}

pub code_before : (n m : ℕ) (one : Straight) (other : Code) → HasStraight n one → HasSize m other → HasSize (n + m) (one ⊳ other)
code_before n m one other h k = record {
  size = sums h.size k.size;
  nodes = λ at exits. rw (length-append (one.nodes at) (other.nodes (at + one.size) exits), h.nodes at, k.nodes (at + one.size) exits) refl;
}

pub straight_of : (n : ℕ) (code : Code) → HasSize n code → HasStraight n (straight code)
straight_of n code h = record { size = h.size; nodes = λ at. h.nodes at _ }

-- TESTS

pub record HasTest (n : ℕ) (test : Test) : Type 0 where
  pub size : test.size ≡ n
  pub nodes : (at on_true on_false : ℕ) → length (test.nodes at on_true on_false) ≡ n

pub test_is : (n m : ℕ) → n ≡ m → (test : Test) → HasTest n test → HasTest m test
test_is n m e test h = subst (λ k. HasTest k test) e h

pub test_branch : (line : ℕ) (op : TestOp) (pointers : Bool) (left right : Operand) → HasTest 1 (branch line op pointers left right)
test_branch line op pointers left right = record { size = refl; nodes = λ at y n. refl }

pub test_after : (n m : ℕ) (code : Straight) (test : Test) → HasStraight n code → HasTest m test → HasTest (n + m) (test_behind code test)
test_after n m code test h k = record {
  size = sums h.size k.size;
  nodes = λ at y no. rw (length-append (code.nodes at) (test.nodes (at + code.size) y no), h.nodes at, k.nodes (at + code.size) y no) refl;
}

pub test_opposite : (n : ℕ) (test : Test) → HasTest n test → HasTest n (opposite test)
test_opposite n test h = record { size = h.size; nodes = λ at y no. h.nodes at no y }

pub test_both : (n m : ℕ) (one other : Test) → HasTest n one → HasTest m other → HasTest (n + m) (both one other)
test_both n m one other h k = record {
  size = sums h.size k.size;
  nodes = λ at y no.
      rw (
        length-append (one.nodes at (at + one.size) no) (other.nodes (at + one.size) y no),
        h.nodes at _ no,
        k.nodes
            (at + one.size) y no,
      ) refl;
}

pub test_either : (n m : ℕ) (one other : Test) → HasTest n one → HasTest m other → HasTest (n + m) (either one other)
test_either n m one other h k = record {
  size = sums h.size k.size;
  nodes =
      λ at y no. rw (
        length-append (one.nodes at y (at + one.size)) (other.nodes (at + one.size) y no),
        h.nodes at y _,
        k.nodes
            (at + one.size) y no,
      ) refl;
}

-- BRANCHES AND LOOPS

pub code_choose : (t n m : ℕ) (test : Test) (one other : Code) → HasTest t test → HasSize n one → HasSize m other
    → HasSize (t + n + m) (choose test one other)
code_choose t n m test one other g h k = record {
  size = sums (sums g.size h.size) k.size;
  nodes = λ at exits.
      rw (
        length-append
            (test.nodes at (one.entry (at + test.size) exits) (other.entry (at + test.size + one.size) exits)
            ++ one.nodes (at + test.size) exits)
            (other.nodes (at + test.size + one.size) exits),
        length-append (test.nodes at (one.entry (at + test.size) exits) (other.entry (at + test.size + one.size) exits))
            (one.nodes (at + test.size) exits),
        g.nodes at (one.entry (at + test.size) exits) (other.entry (at + test.size + one.size) exits),
        h.nodes (at + test.size) exits,
        k.nodes (at + test.size + one.size) exits,
      ) refl;
}

pub code_repeat : (t n m : ℕ) (visible : List ℕ) (test : Test) (body step : Code) → HasTest t test → HasSize n body → HasSize m step
    → HasSize (t + n + m) (repeat visible test body step)
code_repeat t n m visible test body step g h k = record {
  size = sums (sums g.size h.size) k.size;
  nodes = λ at exits.
      rw (
        length-append (test.nodes at (body.entry (at + test.size) (within (step_entry test body step at) exits)) exits.next
            ++ body.nodes (at + test.size) (within (step_entry test body step at) exits))
            (step.nodes (at + test.size + body.size) (onto at)),
        length-append (test.nodes at (body.entry (at + test.size) (within (step_entry test body step at) exits)) exits.next)
            (body.nodes (at + test.size) (within (step_entry test body step at) exits)),
        g.nodes at (body.entry (at + test.size) (within (step_entry test body step at) exits)) exits.next,
        h.nodes (at + test.size) (within (step_entry test body step at) exits),
        k.nodes (at + test.size + body.size) (onto at),
      ) refl;
}

pub code_repeat_first : (n t : ℕ) (visible : List ℕ) (body : Code) (test : Test) → HasSize n body → HasTest t test
    → HasSize (n + t) (repeat_first visible body test)
code_repeat_first n t visible body test h g = record {
  size = sums h.size g.size;
  nodes = λ at exits.
      rw (
        length-append (body.nodes at (within (at + body.size) exits))
            (test.nodes (at + body.size) (body.entry at (within (at + body.size) exits)) exits.next),
        h.nodes at (within (at + body.size) exits),
        g.nodes (at + body.size) (body.entry at (within (at + body.size) exits)) exits.next,
      ) refl;
}
