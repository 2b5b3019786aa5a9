-- Pieces of code are good: they have as many nodes as they say, and each names only slots, places, structures and fields that
-- are there, calls with as many arguments as there are parameters, and stands on one of the lines.
use Rattle.std.proofs.Common.{◌≡◌, ℕ, ◌+◌, ◌<◌, ◌≤◌, Bool, List, [], ◌∷◌, ◌++◌, length, refl, arith}
use Rattle.std.specs.Prelude.{Option, Some, None, IfSome, All}
use Rattle.std.proofs.lemmas.List.{length-append}
use Rattle.std.proofs.lemmas.List.Elements.{All-nil, All-cons, All-append}
use Rattle.shape_data.specs.declared.program.Cmd.{Cmd}
use Rattle.shape_data.specs.declared.program.Cmd.TheVariants as cmd
use Rattle.shape_data.specs.declared.program.Node.{Node}
use Rattle.shape_data.specs.declared.program.Operand.{Operand}
use Rattle.shape_data.specs.declared.program.Operand.TheVariants.{Slot, Num}
use Rattle.shape_data.specs.declared.program.StructDef.{StructDef}
use Rattle.shape_data.specs.declared.program.TestOp.{TestOp}
use Rattle.shape_data.specs.WellFormed.{IsCmd, IsOperand}
use Rattle.c_types_rules.specs.Tables.{Tables, procedure_in}
use Rattle.c_types_rules.specs.Items.{listed}
use Rattle.c_lower_rules.specs.Code.{Exits, onto, Code, Test, Straight, jump, nothing, command, ◌⨾◌, no_nodes, ◌⊹◌, straight, ◌⊳◌, branch}
use Rattle.c_lower_rules.specs.Code.{test_behind, opposite, both, either, choose, within, step_entry, repeat, repeat_first}

-- what names of structures and procedures stand for
pub record World : Type 0 where
  pub structs : List StructDef
  pub tables : Tables
  pub lines : ℕ

-- a call has one argument for each parameter of the first procedure of the name
abbrev pub FitsFirst : Tables → Cmd → Type 0
FitsFirst tables (cmd.Call to callee args next) =
    IfSome (procedure_in tables.procedures callee) (λ found. length (listed found.head.params) ≡ length args)
FitsFirst tables _ = Unit {0}

-- the command is good among so many slots and nodes
abbrev pub IsGood : World → ℕ → ℕ → Cmd → Type 0
IsGood w slots total command = IsCmd w.structs slots total command × FitsFirst w.tables command

abbrev pub AreGood : World → ℕ → ℕ → List Node → Type 0
AreGood w slots total nodes = All (λ (n : Node). IsGood w slots total n.cmd × (n.line < w.lines)) nodes

pub append_good : (w : World) (slots total : ℕ) (xs ys : List Node) → AreGood w slots total xs → AreGood w slots total ys
    → AreGood w slots total (xs ++ ys)
append_good w slots total xs ys h k = All-append (λ (n : Node). IsGood w slots total n.cmd × (n.line < w.lines)) xs ys h k

one_good : (w : World) (slots total : ℕ) (n : Node) → IsGood w slots total n.cmd → n.line < w.lines → AreGood w slots total (n ∷ [])
one_good w slots total n h lt = All-cons (λ (n : Node). IsGood w slots total n.cmd × (n.line < w.lines)) n [] (h, lt) (All-nil _)

none_good : (w : World) (slots total : ℕ) → AreGood w slots total []
none_good w slots total = All-nil (λ (n : Node). IsGood w slots total n.cmd × (n.line < w.lines))

-- among more slots

pub operand_more : (slots more : ℕ) → slots ≤ more → (o : Operand) → IsOperand slots o → IsOperand more o
operand_more slots more le (Slot slot) h = omega arith
operand_more slots more le (Num n) h = tt

slot_more : (slots more : ℕ) → slots ≤ more → (to : Option ℕ) → IfSome to (λ slot. slot < slots) → IfSome to (λ slot. slot < more)
slot_more slots more le None h = tt
slot_more slots more le (Some slot) h = omega arith

cmd_more : (structs : List StructDef) (slots more total : ℕ) → slots ≤ more → (c : Cmd) → IsCmd structs slots total c
    → IsCmd structs more total c
cmd_more structs slots more total le (cmd.Copy to from next) h = (omega arith, operand_more slots more le from h.1, h.2)
cmd_more structs slots more total le (cmd.Arith to op left right next) h =
    (omega arith, operand_more slots more le left h.1, operand_more slots more le right h.2, h.3)
cmd_more structs slots more total le (cmd.Any to ty next) h = (omega arith, h.1, h.2)
cmd_more structs slots more total le (cmd.Load to base kind field next) h = (omega arith, omega arith, h.2, h.3)
cmd_more structs slots more total le (cmd.Store base kind field from next) h = (omega arith, h.1, operand_more slots more le from h.2, h.3)
cmd_more structs slots more total le (cmd.New to kind next) h = (omega arith, h.1, h.2)
cmd_more structs slots more total le (cmd.Free base kind next) h = (omega arith, h.1, h.2)
cmd_more structs slots more total le (cmd.Call to callee args next) h =
    (slot_more slots more le to h.0, h.1, λ k d lt. operand_more slots more le _ (h.2 k d lt), h.3, h.4)
cmd_more structs slots more total le (cmd.Branch op pointers left right on_true on_false) h =
    (operand_more slots more le left h.0, operand_more slots more le right h.1, h.2, h.3)
cmd_more structs slots more total le (cmd.Return value) h = operand_more slots more le value h

pub good_more : (w : World) (slots more total : ℕ) → slots ≤ more → (nodes : List Node) → AreGood w slots total nodes
    → AreGood w more total nodes
good_more w slots more total le nodes h =
    λ k d lt. ((cmd_more w.structs slots more total le _ (h k d lt).0.0, (h k d lt).0.1), (h k d lt).1)

-- STRAIGHT CODE

pub record IsStraight (w : World) (slots : ℕ) (code : Straight) : Type 0 where
  pub size : (at : ℕ) → length (code.nodes at) ≡ code.size
  -- the place behind it is there
  pub nodes : (total at : ℕ) → at + code.size < total → AreGood w slots total (code.nodes at)

pub straight_more : (w : World) (slots more : ℕ) → slots ≤ more → (code : Straight) → IsStraight w slots code → IsStraight w more code
straight_more w slots more le code h =
    record { size = h.size; nodes = λ total at lt. good_more w slots more total le _ (h.nodes total at lt) }

pub straight_none : (w : World) (slots : ℕ) → IsStraight w slots no_nodes
straight_none w slots = record { size = λ at. refl; nodes = λ total at lt. none_good w slots total }

pub straight_append : (w : World) (slots : ℕ) (one other : Straight) → IsStraight w slots one → IsStraight w slots other
    → IsStraight w slots (one ⊹ other)
straight_append w slots one other h k = record {
  size = λ at. rw (length-append (one.nodes at) (other.nodes (at + one.size)), h.size at, k.size (at + one.size)) refl;
  nodes = λ total at lt. append_good w slots total _ _ (h.nodes total at (omega arith)) (k.nodes total (at + one.size) (omega arith));
}

-- PIECES

abbrev pub AreWithin : ℕ → Exits → Type 0
AreWithin total exits = (exits.next < total) × (exits.breaks < total) × (exits.continues < total)

pub record IsCode (w : World) (slots : ℕ) (code : Code) : Type 0 where
  pub size : (at : ℕ) (exits : Exits) → length (code.nodes at exits) ≡ code.size
  pub entry : (total at : ℕ) (exits : Exits) → at + code.size ≤ total → AreWithin total exits → code.entry at exits < total
  pub nodes : (total at : ℕ) (exits : Exits) → at + code.size ≤ total → AreWithin total exits → AreGood w slots total (code.nodes at exits)

pub code_more : (w : World) (slots more : ℕ) → slots ≤ more → (code : Code) → IsCode w slots code → IsCode w more code
code_more w slots more le code h =
    record {
      size = h.size;
      entry = h.entry;
      nodes = λ total at exits lt e. good_more w slots more total le _ (h.nodes total at exits lt e);
    }

pub code_jump : (w : World) (slots : ℕ) (exit : Exits → ℕ) → ((total : ℕ) (exits : Exits) → AreWithin total exits → exit exits < total)
    → IsCode w slots (jump exit)
code_jump w slots exit h = record {
  size = λ at exits. refl;
  entry = λ total at exits lt e. h total exits e;
  nodes = λ total at exits lt e. none_good w slots total;
}

pub code_nothing : (w : World) (slots : ℕ) → IsCode w slots nothing
code_nothing w slots = code_jump w slots (λ exits. exits.next) (λ total exits e. e.0)

-- a command that is good wherever it goes on
abbrev pub IsMake : World → ℕ → (ℕ → Cmd) → Type 0
IsMake w slots make = (total next : ℕ) → next < total → IsGood w slots total (make next)

pub code_command : (w : World) (slots line : ℕ) (make : ℕ → Cmd) → line < w.lines → IsMake w slots make → IsCode w slots (command line make)
code_command w slots line make ln h = record {
  size = λ at exits. refl;
  entry = λ total at exits lt e. omega arith;
  nodes = λ total at exits lt e. one_good w slots total _ (h total exits.next e.0) ln;
}

pub code_behind : (w : World) (slots : ℕ) (one other : Code) → IsCode w slots one → IsCode w slots other → IsCode w slots (one ⨾ other)
code_behind w slots one other h k = record {
  size =
      λ at exits. rw (
        length-append (one.nodes at (record exits { next = other.entry (at + one.size) exits }))
            (other.nodes (at + one.size) exits),
        h.size at _,
        k.size (at + one.size) exits,
      ) refl;
  entry = λ total at exits lt e. h.entry total at _ (omega arith) (k.entry total (at + one.size) exits (omega arith) e, e.1, e.2);
  nodes = λ total at exits lt e. append_good w slots total _ _
      (h.nodes total at _ (omega arith) (k.entry total (at + one.size) exits (omega arith) e, e.1, e.2))
      (k.nodes total (at + one.size) exits (omega arith) e);
}

pub code_before : (w : World) (slots : ℕ) (one : Straight) (other : Code) → 0 < other.size → IsStraight w slots one → IsCode w slots other
    → IsCode w slots (one ⊳ other)
code_before w slots one other some h k = record {
  size = λ at exits. rw (length-append (one.nodes at) (other.nodes (at + one.size) exits), h.size at, k.size (at + one.size) exits) refl;
  entry = λ total at exits lt e. omega arith;
  nodes =
      λ total at exits lt e. append_good w slots total _ _ (h.nodes total at (omega arith))
      (k.nodes total (at + one.size) exits (omega arith) e);
}

pub straight_of : (w : World) (slots : ℕ) (code : Code) → IsCode w slots code → IsStraight w slots (straight code)
straight_of w slots code h = record {
  size = λ at. h.size at _;
  nodes = λ total at lt. h.nodes total at _ (omega arith) (lt, lt, lt);
}

-- TESTS

pub record IsTest (w : World) (slots : ℕ) (test : Test) : Type 0 where
  pub some : 0 < test.size
  pub size : (at on_true on_false : ℕ) → length (test.nodes at on_true on_false) ≡ test.size
  pub nodes : (total at on_true on_false : ℕ) → at + test.size ≤ total → on_true < total → on_false < total
      → AreGood w slots total (test.nodes at on_true on_false)

pub test_more : (w : World) (slots more : ℕ) → slots ≤ more → (test : Test) → IsTest w slots test → IsTest w more test
test_more w slots more le test h = record {
  some = h.some;
  size = h.size;
  nodes = λ total at y n lt e f. good_more w slots more total le _ (h.nodes total at y n lt e f);
}

pub test_branch : (w : World) (slots line : ℕ) (op : TestOp) (pointers : Bool) (left right : Operand) → line < w.lines
    → IsOperand slots left → IsOperand slots right
    → IsTest w slots (branch line op pointers left right)
test_branch w slots line op pointers left right ln h k = record {
  some = omega arith;
  size = λ at y n. refl;
  nodes = λ total at y n lt e f. one_good w slots total _ ((h, k, e, f), tt) ln;
}

pub test_after : (w : World) (slots : ℕ) (code : Straight) (test : Test) → IsStraight w slots code → IsTest w slots test
    → IsTest w slots (test_behind code test)
test_after w slots code test h k = record {
  some = let some = k.some in omega arith;
  size = λ at y n. rw (length-append (code.nodes at) (test.nodes (at + code.size) y n), h.size at, k.size (at + code.size) y n) refl;
  nodes =
      λ total at y n lt e f. let some =
      k.some in append_good w slots total _ _ (h.nodes total at (omega arith)) (k.nodes total (at + code.size) y n (omega arith) e f);
}

pub test_opposite : (w : World) (slots : ℕ) (test : Test) → IsTest w slots test → IsTest w slots (opposite test)
test_opposite w slots test h = record {
  some = h.some;
  size = λ at y n. h.size at n y;
  nodes = λ total at y n lt e f. h.nodes total at n y lt f e;
}

pub test_both : (w : World) (slots : ℕ) (one other : Test) → IsTest w slots one → IsTest w slots other → IsTest w slots (both one other)
test_both w slots one other h k = record {
  some = let some = h.some in omega arith;
  size =
      λ at y n. rw
      (length-append (one.nodes at (at + one.size) n) (other.nodes (at + one.size) y n), h.size at _ n, k.size (at + one.size) y n) refl;
  nodes = λ total at y n lt e f. let some = k.some in append_good w slots total _ _
      (h.nodes total at (at + one.size) n (omega arith) (omega arith) f) (k.nodes total (at + one.size) y n (omega arith) e f);
}

pub test_either : (w : World) (slots : ℕ) (one other : Test) → IsTest w slots one → IsTest w slots other → IsTest w slots (either one other)
test_either w slots one other h k = record {
  some = let some = h.some in omega arith;
  size =
      λ at y n. rw
      (length-append (one.nodes at y (at + one.size)) (other.nodes (at + one.size) y n), h.size at y _, k.size (at + one.size) y n) refl;
  nodes = λ total at y n lt e f. let some = k.some in append_good w slots total _ _
      (h.nodes total at y (at + one.size) (omega arith) e (omega arith)) (k.nodes total (at + one.size) y n (omega arith) e f);
}

-- BRANCHES AND LOOPS

pub code_choose : (w : World) (slots : ℕ) (test : Test) (one other : Code) → IsTest w slots test → IsCode w slots one → IsCode w slots other
    → IsCode w slots (choose test one other)
code_choose w slots test one other t h k = record {
  size = λ at exits.
      rw (
        length-append
            (test.nodes at (one.entry (at + test.size) exits) (other.entry (at + test.size + one.size) exits)
            ++ one.nodes (at + test.size) exits) (other.nodes (at + test.size + one.size) exits),
        length-append (test.nodes at (one.entry (at + test.size) exits) (other.entry (at + test.size + one.size) exits))
            (one.nodes (at + test.size) exits),
        t.size at (one.entry (at + test.size) exits) (other.entry (at + test.size + one.size) exits),
        h.size (at + test.size) exits,
        k.size (at + test.size + one.size) exits,
      ) refl;
  entry = λ total at exits lt e. let some = t.some in omega arith;
  nodes = λ total at exits lt e. append_good w slots total _ _
      (append_good w slots total _ _
      (t.nodes total at _ _ (omega arith) (h.entry total (at + test.size) exits (omega arith) e)
      (k.entry total (at + test.size + one.size) exits (omega arith) e))
      (h.nodes total (at + test.size) exits (omega arith) e))
      (k.nodes total (at + test.size + one.size) exits (omega arith) e);
}

pub code_repeat : (w : World) (slots : ℕ) (visible : List ℕ) (test : Test) (body step : Code) → IsTest w slots test → IsCode w slots body
    → IsCode w slots step
    → IsCode w slots (repeat visible test body step)
code_repeat w slots visible test body step t h k = record {
  size = λ at exits.
      rw (
        length-append (test.nodes at (body.entry (at + test.size) (within (step_entry test body step at) exits)) exits.next
            ++ body.nodes (at + test.size) (within (step_entry test body step at) exits))
            (step.nodes (at + test.size + body.size) (onto at)),
        length-append (test.nodes at (body.entry (at + test.size) (within (step_entry test body step at) exits)) exits.next)
            (body.nodes (at + test.size) (within (step_entry test body step at) exits)),
        t.size at (body.entry (at + test.size) (within (step_entry test body step at) exits)) exits.next,
        h.size (at + test.size) (within (step_entry test body step at) exits),
        k.size (at + test.size + body.size) (onto at),
      ) refl;
  entry = λ total at exits lt e. let some = t.some in omega arith;
  nodes = λ total at exits lt e.
      let some = t.some in
      let here : at < total = omega arith in
      let again : step_entry test body step at < total =
      k.entry total (at + test.size + body.size) (onto at) (omega arith) (here, here, here) in
      append_good w slots total _ _
      (append_good w slots total _ _
      (t.nodes total at _ exits.next (omega arith)
      (h.entry total (at + test.size) (within (step_entry test body step at) exits) (omega arith) (again, e.0, again)) e.0)
      (h.nodes total (at + test.size) (within (step_entry test body step at) exits) (omega arith) (again, e.0, again)))
      (k.nodes total (at + test.size + body.size) (onto at) (omega arith) (here, here, here));
}

pub code_repeat_first : (w : World) (slots : ℕ) (visible : List ℕ) (body : Code) (test : Test) → IsCode w slots body → IsTest w slots test
    → IsCode w slots (repeat_first visible body test)
code_repeat_first w slots visible body test h t = record {
  size = λ at exits.
      rw (
        length-append (body.nodes at (within (at + body.size) exits))
            (test.nodes (at + body.size) (body.entry at (within (at + body.size) exits)) exits.next),
        h.size at (within (at + body.size) exits),
        t.size (at + body.size) (body.entry at (within (at + body.size) exits)) exits.next,
      ) refl;
  entry = λ total at exits lt e.
      let some = t.some in
      let here : at + body.size < total = omega arith in
      h.entry total at (within (at + body.size) exits) (omega arith) (here, e.0, here);
  nodes = λ total at exits lt e.
      let some = t.some in
      let here : at + body.size < total = omega arith in
      append_good w slots total _ _
      (h.nodes total at (within (at + body.size) exits) (omega arith) (here, e.0, here))
      (t.nodes total (at + body.size) _ exits.next (omega arith)
      (h.entry total at (within (at + body.size) exits) (omega arith) (here, e.0, here)) e.0);
}
