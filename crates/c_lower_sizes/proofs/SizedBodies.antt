-- The code of statements has as many nodes as their syntax says, and as many locals stand behind them.
use Rattle.std.proofs.Common.{◌≡◌, ℕ, zero, suc, ◌+◌, ◌≤◌, List, [], ◌∷◌, length, refl, arith, sym, ◌∙◌}
use Rattle.std.specs.Prelude.{false, Option, Some, None, pos}
use Rattle.shape_data.specs.declared.program.Cmd.TheVariants as cmd
use Rattle.shape_data.specs.declared.program.Operand.TheVariants.{Slot, Num}
use Rattle.shape_data.specs.declared.program.TestOp.TheVariants as op
use Rattle.shape_data.specs.declared.program.Ty.{Ty}
use Rattle.shape_data.specs.declared.program.Ty.TheVariants.{Int, Ptr, Void}
use Rattle.c_grammar.specs.declared.tokens.places.Place.{Place}
use Rattle.c_grammar.specs.Trees.{Specifier, Expr, Simple, Initialized, Local, ForInit, Stmt, Stmts}
use Rattle.c_grammar.specs.FirstPlaces.{place_of_local}
use Rattle.c_lower_rules.specs.Code.{onto, Code, nothing, choose, branch, begun_at}
use Rattle.c_lower_rules.specs.Temporaries.{Temp, take_temp}
use Rattle.c_lower_rules.specs.Contexts.{Context, visible}
use Rattle.c_lower_rules.specs.Values.{slot_taken}
use Rattle.c_lower_rules.specs.Statements.{State, Lowered, place_of_simple, local, joined, no_code, locals, declaration, from_place}
use Rattle.c_lower_rules.specs.Statements.{with_names, simple_from, condition, for_condition, with_temps, inside, for_init, for_step, stmt}
use Rattle.c_lower_rules.specs.Statements.{stmts, stmts_kinds}
use Rattle.c_lower_rules.specs.Programs.{at_body, result_type, any_value, closed_by, closed}
use Rattle.c_lower_sizes.specs.Sizes.{expr_uses, simple_size, locals_size, declaration_size, init_size, condition_size, step_size}
use Rattle.c_lower_sizes.specs.Sizes.{stmt_size, stmts_size, declared, init_locals, stmt_locals, stmts_locals}
use Rattle.c_lower_sizes.specs.Laws.{HaveSizes, HaveAsManyNodes, CountLocals, AreBodiesNoLarger}
use Rattle.c_lower_sizes.proofs.Pieces.{HasSize, code_is, code_jump, code_command, code_behind, HasTest, test_branch, code_choose}
use Rattle.c_lower_sizes.proofs.Pieces.{code_repeat, code_repeat_first}
use Rattle.c_lower_sizes.proofs.SizedExprs.{lowering_sized}
use Rattle.c_lower_sizes.proofs.SizedSimples.{simple_sized, returned_sized, initial_sized}

-- code of so many nodes, behind which so many more locals are declared
pub record IsCounted (n declares : ℕ) (before : State) (l : Lowered) : Type 0 where
  pub code : HasSize n l.code
  pub locals : l.behind.locals ≡ before.locals + declares

counted_is : (n m d e : ℕ) → n ≡ m → d ≡ e → (before : State) (l : Lowered) → IsCounted n d before l → IsCounted m e before l
counted_is n m d e nm de before l h = let own = h.locals in record { code = code_is n m nm l.code h.code; locals = omega arith }

no_code_counted : (before : State) → IsCounted 0 0 before (no_code before)
no_code_counted before = record { code = code_jump _; locals = omega arith }

joined_counted : (n m d e : ℕ) (before : State) (one other : Lowered) → IsCounted n d before one → IsCounted m e one.behind other
    → IsCounted (n + m) (d + e) before (joined one other)
joined_counted n m d e before one other h k =
    let first = h.locals in
    let next = k.locals in
    record { code = code_behind n m one.code other.code h.code k.code; locals = omega arith }

-- DECLARATIONS

locals_counted : (specifier : Specifier) (all : List Initialized) (before : State)
    → IsCounted (locals_size all) (length all) before (locals specifier all before)
locals_counted specifier [] before = no_code_counted before
locals_counted specifier (first ∷ others) before =
    counted_is _ (locals_size (first ∷ others)) (1 + length others) (length (first ∷ others)) refl (omega arith) before
    (locals specifier (first ∷ others) before)
    (joined_counted _ (locals_size others) 1 (length others) before (local specifier first before)
    (locals specifier others (local specifier first before).behind)
    (record { code = initial_sized _ _ _ first.value before.temps; locals = omega arith })
    (locals_counted specifier others (local specifier first before).behind))

declaration_counted : (l : Local) (before : State) → IsCounted (declaration_size l) (declared l) before (declaration l before)
declaration_counted l before =
    counted_is (locals_size (l.first ∷ l.others)) (declaration_size l) (length (l.first ∷ l.others)) (declared l) refl (omega arith) before
    (declaration l before)
    (locals_counted l.specifier (l.first ∷ l.others) before)

-- PARTS OF STATEMENTS

simple_counted : (before : State) (place : Place) (s : Simple)
    → IsCounted (simple_size s) 0 before (simple_from before (from_place before place) s)
simple_counted before place s = record { code = simple_sized _ s _; locals = omega arith }

condition_counted : (before : State) (e : Expr) → HasTest (expr_uses e).test (condition before e).test
condition_counted before e = (lowering_sized _ e).test _

for_condition_counted : (before : State) (place : Place) (e : Option Expr) → HasTest (condition_size e) (for_condition before place e).test
for_condition_counted before place None =
    let here = from_place before place in
    (lowering_sized here.context (Expr.Number place 1)).test here.temps
for_condition_counted before place (Some e) = condition_counted before e

for_init_counted : (before : State) (place : Place) (i : ForInit) → IsCounted (init_size i) (init_locals i) before (for_init before place i)
for_init_counted before place ForInit.NoInit = no_code_counted before
for_init_counted before place (ForInit.Locals l) =
    let d = declaration_counted l (from_place before place) in
    record { code = d.code; locals = d.locals }
for_init_counted before place (ForInit.Once s) = simple_counted before place s

for_step_counted : (before : State) (s : Option Simple) → IsCounted (step_size s) 0 before (for_step before s)
for_step_counted before None = no_code_counted before
for_step_counted before (Some s) = simple_counted before (place_of_simple s) s

-- STATEMENTS

mutual
  pub stmt_counted : (s : Stmt) (before : State) → IsCounted (stmt_size s) (stmt_locals s) before (stmt s before)
  stmt_counted (Stmt.Block place body end) before =
      let b = stmts_counted body (inside before) in
      record { code = b.code; locals = b.locals }
  stmt_counted (Stmt.Empty place) before = no_code_counted before
  stmt_counted (Stmt.Declare l) before =
      let d = declaration_counted l (from_place before (place_of_local l)) in
      record { code = d.code; locals = d.locals }
  stmt_counted (Stmt.Do s) before = simple_counted before (place_of_simple s) s
  stmt_counted (Stmt.If place e body) before =
      let t = condition before e in
      let b = stmt_counted body (inside (with_temps before t.temps)) in
      let n = (expr_uses e).test in
      record {
        code = code_is (n + stmt_size body + 0) (n + stmt_size body) (omega arith) _
            (code_choose n (stmt_size body) 0 t.test (stmt body (inside (with_temps before t.temps))).code nothing
            (condition_counted before e) b.code (code_jump _));
        locals = b.locals;
      }
  stmt_counted (Stmt.IfElse place e body other) before =
      let t = condition before e in
      let one = stmt body (inside (with_temps before t.temps)) in
      let b = stmt_counted body (inside (with_temps before t.temps)) in
      let o = stmt_counted other (inside (with_names before one.behind)) in
      let first = b.locals in
      let next = o.locals in
      record {
        code =
            code_choose (expr_uses e).test (stmt_size body) (stmt_size other) t.test one.code
            (stmt other (inside (with_names before one.behind))).code
            (condition_counted before e) b.code o.code;
        locals = omega arith;
      }
  stmt_counted (Stmt.While place e body) before =
      let t = condition before e in
      let b = stmt_counted body (inside (with_temps before t.temps)) in
      let n = (expr_uses e).test in
      record {
        code = code_is (n + stmt_size body + 0) (n + stmt_size body) (omega arith) _
            (code_repeat n (stmt_size body) 0 (visible before.context) t.test (stmt body (inside (with_temps before t.temps))).code nothing
            (condition_counted before e) b.code (code_jump _));
        locals = b.locals;
      }
  stmt_counted (Stmt.DoWhile place body e) before =
      let one = stmt body (inside before) in
      let b = stmt_counted body (inside before) in
      record {
        code =
            code_repeat_first (stmt_size body) (expr_uses e).test (visible before.context) one.code
            (condition (with_names before one.behind) e).test
            b.code (condition_counted (with_names before one.behind) e);
        locals = b.locals;
      }
  stmt_counted (Stmt.For place first e step body) before =
      let i = for_init (inside before) place first in
      let begin = for_init_counted (inside before) place first in
      let t = for_condition i.behind place e in
      let one = stmt body (inside (with_temps i.behind t.temps)) in
      let b = stmt_counted body (inside (with_temps i.behind t.temps)) in
      let s = for_step (with_names i.behind one.behind) step in
      let last = for_step_counted (with_names i.behind one.behind) step in
      let declares = begin.locals in
      let more = b.locals in
      let same = last.locals in
      record {
        code = code_is (init_size first + (condition_size e + stmt_size body + step_size step))
            (init_size first + condition_size e + stmt_size body + step_size step) (omega arith) _
            (code_behind (init_size first) (condition_size e + stmt_size body + step_size step) i.code _ begin.code
            (code_repeat (condition_size e) (stmt_size body) (step_size step) (visible i.behind.context) t.test one.code s.code
            (for_condition_counted i.behind place e) b.code last.code));
        locals = omega arith;
      }
  stmt_counted (Stmt.Break place) before = record { code = code_jump _; locals = omega arith }
  stmt_counted (Stmt.Continue place) before = record { code = code_jump _; locals = omega arith }
  stmt_counted (Stmt.Return place value) before = record { code = returned_sized _ value _; locals = omega arith }

  pub stmts_counted : (all : Stmts) (before : State) → IsCounted (stmts_size all) (stmts_locals all) before (stmts all before)
  stmts_counted Stmts.NoStmts before = no_code_counted before
  stmts_counted (Stmts.Next first others) before =
      joined_counted (stmt_size first) (stmts_size others) (stmt_locals first) (stmts_locals others) before
      (stmt first before) (stmts others (stmt first before).behind)
      (stmt_counted first before) (stmts_counted others (stmt first before).behind)

pub have_sizes : HaveSizes
have_sizes body before = (stmts_counted body before).code.size

pub have_as_many_nodes : HaveAsManyNodes
have_as_many_nodes body before at exits = (stmts_counted body before).code.nodes at exits ∙ sym (stmts_counted body before).code.size

pub count_locals : CountLocals
count_locals body before = (stmts_counted body before).locals

-- PROCEDURES

any_sized : (n : ℕ) (kind : Ty) (c : Context) (temps : List Temp) (l : Lowered) → HasSize n l.code
    → HasSize (n + 2) (any_value c kind (take_temp kind temps) l).code
any_sized n kind c temps l h =
    let slot = slot_taken c (take_temp kind temps) in
    code_behind n 2 l.code _ h
    (code_behind 1 1 _ _ (code_command c.line (cmd.Any slot kind)) (code_command c.line (λ next. cmd.Return (Slot slot))))

-- what closes a body adds nodes
closed_sized : (n : ℕ) (result : Ty) (c : Context) (temps : List Temp) (l : Lowered) → HasSize n l.code
    → (m : ℕ) × HasSize (n + m) (closed_by result c temps l).code
closed_sized n Void c temps l h = (1, code_behind n 1 l.code _ h (code_command c.line _))
closed_sized n Int c temps l h = (2, any_sized n Int c temps l h)
closed_sized n (Ptr tag) c temps l h = (2, any_sized n (Ptr tag) c temps l h)

-- a test may stand before it
begun_no_larger : (n entry : ℕ) (code : Code) → HasSize n code → n ≤ length ((begun_at entry code).nodes 0 (onto 0))
begun_no_larger n zero code h = let own = h.nodes 0 (onto 0) in omega arith
begun_no_larger n (suc entry) code h =
    let first = choose (branch 0 op.Ne false (Num (pos 1)) (Num (pos 0))) nothing nothing in
    let test = test_branch 0 op.Ne false (Num (pos 1)) (Num (pos 0)) in
    let whole = code_behind 1 n first code (code_choose 1 0 0 _ nothing nothing test (code_jump _) (code_jump _)) h in
    let own = whole.nodes 0 (onto 0) in
    omega arith

pub are_bodies_no_larger : AreBodiesNoLarger
are_bodies_no_larger tables head body place =
    let before : State = record { temps = []; locals = 0; context = at_body tables head (length (stmts_kinds tables body)) } in
    let l = stmts body before in
    let here = from_place l.behind place in
    let k = closed_sized (stmts_size body) (result_type tables head) here.context here.temps l (stmts_counted body before).code in
    let whole = (closed (result_type tables head) place l).code in
    let some = begun_no_larger (stmts_size body + k.0) (whole.entry 0 (onto 0)) whole k.1 in
    omega arith
