-- Where nothing is refused in statements, their code is good.
use Rattle.std.proofs.Common.{◌≡◌, ℕ, ◌+◌, ◌-◌, ◌<◌, ◌≤◌, Bool, true, List, [], ◌∷◌, ◌++◌, length, refl, arith, subst, sym, ◌∙◌}
use Rattle.std.specs.Prelude.{Option, Some, None, IfSome}
use Rattle.std.proofs.lemmas.List.{length-append}
use Rattle.std.proofs.lemmas.List.Elements.{All-cons, All-head, All-tail}
use Rattle.shape_data.specs.declared.program.StructDef.{StructDef}
use Rattle.shape_data.specs.declared.program.Ty.{Ty}
use Rattle.shape_data.specs.WellFormed.{IsTy}
use Rattle.c_grammar.specs.declared.tokens.places.Place.{Place}
use Rattle.c_grammar.specs.Readers.{place_of_specifier}
use Rattle.c_grammar.specs.Trees.{Specifier, Expr, Simple, Initialized, Local, ForInit, Stmt, Stmts}
use Rattle.c_grammar.specs.FirstPlaces.{place_of_expr, place_of_local}
use Rattle.c_types_rules.specs.Types.{Kind}
use Rattle.c_types_rules.specs.Tables.{Tables, specifier_refusals}
use Rattle.c_types_rules.specs.Scopes.{Env, entered}
use Rattle.c_types_rules.specs.Expressions.{expr_refusals, whole_refusals}
use Rattle.c_types_rules.specs.Statements as typing
use Rattle.c_types_rules.specs.Statements.{local_kind, behind_local, behind_locals, behind_declaration, behind_init, behind_stmt}
use Rattle.c_types_rules.specs.Programs.{known}
use Rattle.c_types_rules.proofs.KnownTables.{nil_left, nil_right, holds, object_sound}
use Rattle.c_types_rules.proofs.KnownStmts.{local_behind, accepted_specifier, accepted_locals, entered_sound}
use Rattle.c_lower_rules.specs.Code.{Code, Test, nothing}
use Rattle.c_lower_rules.specs.Temporaries.{Temp, released_one, released}
use Rattle.c_lower_rules.specs.Contexts.{Context, visible, at_place, within_scope}
use Rattle.c_lower_rules.specs.Values.{Tested}
use Rattle.c_lower_rules.specs.Statements.{State, Lowered, with_local, local, joined, no_code, locals, declaration, from_place, with_names}
use Rattle.c_lower_rules.specs.Statements.{scope_left, simple_from, condition_from, condition, for_condition, with_temps, inside, for_init}
use Rattle.c_lower_rules.specs.Statements.{place_of_simple, for_step, return_from, stmt, stmts, kinds_of_locals, declared_kinds, init_kinds}
use Rattle.c_lower_rules.specs.Statements.{stmt_kinds, stmts_kinds}
use Rattle.c_lower_rules.specs.Texts.{IsLine, IsExprLine, IsSimpleLine, AreStmtLines, AreStmtsLines}
use Rattle.c_lower_rules.proofs.Pieces.{IsCode, code_more, code_jump, code_nothing, code_behind, IsTest, test_more, code_choose}
use Rattle.c_lower_rules.proofs.Pieces.{code_repeat, code_repeat_first}
use Rattle.c_lower_rules.proofs.Uses.{IsBehind, behind_self, behind_both, world}
use Rattle.c_lower_rules.proofs.Exprs.{IsHere, known_ty, lowering_good}
use Rattle.c_lower_rules.proofs.Simples.{simple_good, returned_good, initial_good}

-- what does not change within a procedure
pub record IsFrameOf (c d : Context) : Type 0 where
  pub tables : d.env.tables ≡ c.env.tables
  pub first_local : d.first_local ≡ c.first_local
  pub first_temp : d.first_temp ≡ c.first_temp
  pub first_line : d.first_line ≡ c.first_line

frame_self : (c : Context) → IsFrameOf c c
frame_self c = record { tables = refl; first_local = refl; first_temp = refl; first_line = refl }

frame_both : (c d e : Context) → IsFrameOf c d → IsFrameOf d e → IsFrameOf c e
frame_both c d e h k = record {
  tables = k.tables ∙ h.tables;
  first_local = k.first_local ∙ h.first_local;
  first_temp = k.first_temp ∙ h.first_temp;
  first_line = k.first_line ∙ h.first_line;
}

-- code that is good in the one context is good in the other
framed_code : (structs : List StructDef) (c d : Context) → IsFrameOf c d → (n : ℕ) (code : Code)
    → IsCode (world structs d) (d.first_temp + n) code
    → IsCode (world structs c) (c.first_temp + n) code
framed_code structs c d f n code h =
    subst (λ slots. IsCode (world structs c) (slots + n) code) f.first_temp
    (subst (λ line. IsCode (record { structs = structs; tables = c.env.tables; lines = 4294967296 - line })
    (d.first_temp + n) code) f.first_line
    (subst (λ tables. IsCode (record { structs = structs; tables = tables; lines = 4294967296 - d.first_line })
    (d.first_temp + n) code) f.tables h))

framed_test : (structs : List StructDef) (c d : Context) → IsFrameOf c d → (n : ℕ) (test : Test)
    → IsTest (world structs d) (d.first_temp + n) test
    → IsTest (world structs c) (c.first_temp + n) test
framed_test structs c d f n test h =
    subst (λ slots. IsTest (world structs c) (slots + n) test) f.first_temp
    (subst (λ line. IsTest (record { structs = structs; tables = c.env.tables; lines = 4294967296 - line })
    (d.first_temp + n) test) f.first_line
    (subst (λ tables. IsTest (record { structs = structs; tables = tables; lines = 4294967296 - d.first_line })
    (d.first_temp + n) test) f.tables h))

-- code behind which names mean what they mean in the environment, and so many locals more are declared
pub record GoodLowered (structs : List StructDef) (before : State) (env : Env) (n : ℕ) (l : Lowered) : Type 0 where
  pub temps : IsBehind before.temps l.behind.temps
  pub locals : l.behind.locals ≡ before.locals + n
  pub code : IsCode (world structs before.context) (before.context.first_temp + length l.behind.temps) l.code
  pub frame : IsFrameOf before.context l.behind.context
  pub here : IsHere structs l.behind.context
  pub names : l.behind.context.env ≡ env

-- so many more locals have slots
abbrev pub HasRoom : State → ℕ → Type 0
HasRoom before n = before.context.first_local + (before.locals + n) ≤ before.context.first_temp

pub released_behind : (temps : List Temp) → IsBehind temps (released temps)
released_behind [] = behind_self []
released_behind (first ∷ others) =
    let rest = released_behind others in
    let longer = rest.longer in
    record {
      longer = omega arith;
      kinds =
          λ h. All-cons (λ (t : Temp). IsTy t.kind) (released_one first) (released others)
          (All-head (λ (t : Temp). IsTy t.kind) first others h)
          (rest.kinds (All-tail (λ (t : Temp). IsTy t.kind) first others h));
    }

at_place_here : (structs : List StructDef) (c : Context) → IsHere structs c → (place : Place) → IsLine place
    → IsHere structs (at_place c place)
at_place_here structs c here place lt =
    let first = here.first in
    record { fits = here.fits; sound = here.sound; bound = here.bound; first = here.first; line = omega arith; result = here.result }

within_scope_here : (structs : List StructDef) (c : Context) → IsHere structs c → IsHere structs (within_scope c)
within_scope_here structs c here =
    record {
      fits = here.fits;
      sound = entered_sound c.env here.sound;
      bound = here.bound;
      first = here.first;
      line = here.line;
      result = here.result;
    }

no_code_good : (structs : List StructDef) (before : State) → IsHere structs before.context
    → GoodLowered structs before before.context.env 0 (no_code before)
no_code_good structs before here = record {
  temps = behind_self before.temps;
  locals = omega arith;
  code = code_nothing (world structs before.context) _;
  frame = frame_self before.context;
  here = here;
  names = refl;
}

joined_good : (structs : List StructDef) (before : State) (env env2 : Env) (n m : ℕ) (one other : Lowered)
    → GoodLowered structs before env n one
    → GoodLowered structs one.behind env2 m other → GoodLowered structs before env2 (n + m) (joined one other)
joined_good structs before env env2 n m one other h k =
    let longer = k.temps.longer in
    let one_locals = h.locals in
    let other_locals = k.locals in
    record {
      temps = behind_both before.temps one.behind.temps other.behind.temps h.temps k.temps;
      locals = omega arith;
      code =
          code_behind (world structs before.context) _ one.code other.code
          (code_more (world structs before.context) _ _ (omega arith) one.code h.code)
          (framed_code structs before.context one.behind.context h.frame _ other.code k.code);
      frame = frame_both before.context one.behind.context other.behind.context h.frame k.frame;
      here = k.here;
      names = k.names;
    }

-- DECLARATIONS

with_local_here : (structs : List StructDef) (c : Context) → IsHere structs c → (n : ℕ) (s : Specifier) (one : Initialized)
    → c.first_local + n < c.first_temp
    → specifier_refusals c.env.tables s ≡ [] → (typing.local c.env s one).refusals ≡ [] → IsHere structs (with_local c n s one)
with_local_here structs c here n s one lt e f = record {
  fits = here.fits;
  sound = local_behind c.env here.sound s one e f;
  bound = (refl, lt, here.bound);
  first = here.first;
  line = here.line;
  result = here.result;
}

value_accepted : (env : Env) (place : Place) (kind : Kind) (value : Option Expr) → (typing.initializer env place kind value).refusals ≡ []
    → IfSome value (λ e. whole_refusals env e ≡ [])
value_accepted env place kind None e = tt
value_accepted env place kind (Some value) e = nil_left _ _ e

local_good : (structs : List StructDef) (before : State) → IsHere structs before.context → (s : Specifier) (one : Initialized)
    → HasRoom before 1
    → specifier_refusals before.context.env.tables s ≡ [] → (typing.local before.context.env s one).refusals ≡ []
    → GoodLowered structs before (behind_local before.context.env s one) 1 (local s one before)
local_good structs before here s one room e f =
    let inner = with_local_here structs before.context here before.locals s one (omega arith) e f in
    let sound = object_sound before.context.env.tables here.sound.tables.aliases s one.declarator.stars e (holds _ _ _ (nil_left _ _ f)) in
    let piece =
    initial_good structs (with_local before.context before.locals s one) inner (before.context.first_local + before.locals) (omega arith)
    (known (local_kind before.context.env s one))
    (known_ty structs before.context.env.tables here.fits (local_kind before.context.env s one) sound) one.value
    (value_accepted (behind_local before.context.env s one) (place_of_specifier s) (local_kind before.context.env s one) one.value
    (nil_right _ _ (nil_right _ _ f))) before.temps in
    record {
      temps = piece.behind;
      locals = omega arith;
      code = piece.code;
      frame = record { tables = refl; first_local = refl; first_temp = refl; first_line = refl };
      here = inner;
      names = refl;
    }

locals_good : (structs : List StructDef) (tables : Tables) (before : State) → before.context.env.tables ≡ tables
    → IsHere structs before.context → (s : Specifier) (all : List Initialized)
    → HasRoom before (length (kinds_of_locals tables s all)) → specifier_refusals before.context.env.tables s ≡ []
    → (typing.locals before.context.env s all).refusals ≡ []
    → GoodLowered structs before (behind_locals before.context.env s all) (length (kinds_of_locals tables s all)) (locals s all before)
locals_good structs tables before eq here s [] room e f = no_code_good structs before here
locals_good structs tables before eq here s (first ∷ others) room e f =
    let one = local_good structs before here s first (omega arith) e (nil_left _ _ f) in
    let same = one.locals in
    let count : 1 + length (kinds_of_locals tables s others) ≡ length (kinds_of_locals tables s (first ∷ others)) = omega arith in
    subst (λ n. GoodLowered structs before (behind_locals before.context.env s (first ∷ others)) n (locals s (first ∷ others) before)) count
    (joined_good structs before (behind_local before.context.env s first) _ 1 _ (local s first before) _ one
    (locals_good structs tables (local s first before).behind eq one.here s others (omega arith) e (nil_right _ _ f)))

declaration_good : (structs : List StructDef) (tables : Tables) (before : State) → before.context.env.tables ≡ tables
    → IsHere structs before.context → (l : Local)
    → HasRoom before (length (declared_kinds tables l)) → (typing.declaration before.context.env l).refusals ≡ []
    → GoodLowered structs before (behind_declaration before.context.env l) (length (declared_kinds tables l)) (declaration l before)
declaration_good structs tables before eq here l room e =
    locals_good structs tables before eq here l.specifier (l.first ∷ l.others) room (accepted_specifier before.context.env l e)
    (accepted_locals before.context.env l e)

-- PARTS OF STATEMENTS

from_place_here : (structs : List StructDef) (before : State) → IsHere structs before.context → (place : Place) → IsLine place
    → IsHere structs (from_place before place).context
from_place_here structs before here place lt = at_place_here structs before.context here place lt

simple_from_good : (structs : List StructDef) (before : State) → IsHere structs before.context → (place : Place) → IsLine place
    → (s : Simple)
    → (typing.simple before.context.env s).refusals ≡ []
    → GoodLowered structs before before.context.env 0 (simple_from before (from_place before place) s)
simple_from_good structs before here place lt s e =
    let piece =
    simple_good structs (at_place before.context place) (from_place_here structs before here place lt) s e (released before.temps) in
    record {
      temps = behind_both before.temps (released before.temps) _ (released_behind before.temps) piece.behind;
      locals = omega arith;
      code = piece.code;
      frame = record { tables = refl; first_local = refl; first_temp = refl; first_line = refl };
      here = here;
      names = refl;
    }

-- a test behind which there are these temporaries
record GoodCondition (structs : List StructDef) (before : State) (t : Tested) : Type 0 where
  temps : IsBehind before.temps t.temps
  test : IsTest (world structs before.context) (before.context.first_temp + length t.temps) t.test

condition_from_good : (structs : List StructDef) (before : State) → IsHere structs before.context → (place : Place) → IsLine place
    → (e : Expr)
    → expr_refusals before.context.env e ≡ [] → GoodCondition structs before (condition_from (from_place before place) e)
condition_from_good structs before here place lt e f =
    let t =
    (lowering_good structs (at_place before.context place) (from_place_here structs before here place lt) e f).good.test
    (released before.temps) in
    record {
      temps = behind_both before.temps (released before.temps) _ (released_behind before.temps) t.behind;
      test = t.test;
    }

condition_good : (structs : List StructDef) (before : State) → IsHere structs before.context → (e : Expr) → IsExprLine e
    → (typing.test before.context.env e).refusals ≡ []
    → GoodCondition structs before (condition before e)
condition_good structs before here e lt f = condition_from_good structs before here (place_of_expr e) lt e (nil_left _ _ f)

for_condition_good : (structs : List StructDef) (before : State) → IsHere structs before.context → (place : Place) → IsLine place
    → (e : Option Expr) → IfSome e IsExprLine
    → (typing.maybe_test before.context.env e).refusals ≡ [] → GoodCondition structs before (for_condition before place e)
for_condition_good structs before here place lt None k f = condition_from_good structs before here place lt (Expr.Number place 1) refl
for_condition_good structs before here place lt (Some e) k f = condition_good structs before here e k f

for_step_good : (structs : List StructDef) (before : State) → IsHere structs before.context → (s : Option Simple) → IfSome s IsSimpleLine
    → (typing.maybe_simple before.context.env s).refusals ≡ [] → GoodLowered structs before before.context.env 0 (for_step before s)
for_step_good structs before here None k f = no_code_good structs before here
for_step_good structs before here (Some s) k f = simple_from_good structs before here (place_of_simple s) k s f

for_init_good : (structs : List StructDef) (tables : Tables) (before : State) → before.context.env.tables ≡ tables
    → IsHere structs before.context → (place : Place) → IsLine place
    → (first : ForInit) → HasRoom before (length (init_kinds tables first)) → (typing.init before.context.env first).refusals ≡ []
    → GoodLowered structs before (behind_init before.context.env first) (length (init_kinds tables first)) (for_init before place first)
for_init_good structs tables before eq here place lt ForInit.NoInit room f = no_code_good structs before here
for_init_good structs tables before eq here place lt (ForInit.Locals l) room f =
    let d = declaration_good structs tables (from_place before place) eq (from_place_here structs before here place lt) l room f in
    record {
      temps = behind_both before.temps (released before.temps) _ (released_behind before.temps) d.temps;
      locals = d.locals;
      code = d.code;
      frame =
          record {
            tables = d.frame.tables;
            first_local = d.frame.first_local;
            first_temp = d.frame.first_temp;
            first_line = d.frame.first_line;
          };
      here = d.here;
      names = d.names;
    }
for_init_good structs tables before eq here place lt (ForInit.Once s) room f = simple_from_good structs before here place lt s f

return_from_good : (structs : List StructDef) (before : State) → IsHere structs before.context → (place : Place) → IsLine place
    → (result : Kind) (value : Option Expr)
    → (typing.returned before.context.env result place value).refusals ≡ []
    → GoodLowered structs before before.context.env 0 (return_from before (from_place before place) value)
return_from_good structs before here place lt result value e =
    let piece =
    returned_good structs (at_place before.context place) (from_place_here structs before here place lt) value (by_value value e)
    (released before.temps) in
    record {
      temps = behind_both before.temps (released before.temps) _ (released_behind before.temps) piece.behind;
      locals = omega arith;
      code = piece.code;
      frame = record { tables = refl; first_local = refl; first_temp = refl; first_line = refl };
      here = here;
      names = refl;
    }
  where
    by_value : (value : Option Expr) → (typing.returned before.context.env result place value).refusals ≡ []
        → IfSome value (λ v. whole_refusals before.context.env v ≡ [])
    by_value None e = tt
    by_value (Some v) e = nil_left _ _ e

-- a statement inside a scope of its own, as a part of the statement that began before
inner_refusals : (result : Kind) (loops : Bool) (s : Stmt) (one other : Env) → one ≡ other
    → (typing.stmt (entered other) result loops s).refusals ≡ []
    → (typing.stmt (entered one) result loops s).refusals ≡ []
inner_refusals result loops s one other eq e = subst (λ env. (typing.stmt (entered env) result loops s).refusals ≡ []) (sym eq) e

-- names mean again what they meant
left_good : (structs : List StructDef) (before : State) (env : Env) (n : ℕ) (l : Lowered) → IsHere structs before.context
    → GoodLowered structs (inside before) env n l
    → GoodLowered structs before before.context.env n (scope_left before l)
left_good structs before env n l here h = record {
  temps = h.temps;
  locals = h.locals;
  code = h.code;
  frame = record { tables = refl; first_local = refl; first_temp = refl; first_line = refl };
  here = here;
  names = refl;
}

appended : (tables : Tables) (one other : List Ty) → length (one ++ other) ≡ length one + length other
appended tables one other = length-append one other

-- the tables are the same everywhere in a procedure
same_tables : (tables : Tables) (c d : Context) → IsFrameOf c d → c.env.tables ≡ tables → d.env.tables ≡ tables
same_tables tables c d f eq = f.tables ∙ eq

mutual
  pub stmt_good : (structs : List StructDef) (tables : Tables) (result : Kind) (loops : Bool) (s : Stmt) (before : State)
      → before.context.env.tables ≡ tables
      → IsHere structs before.context → AreStmtLines s → HasRoom before (length (stmt_kinds tables s))
      → (typing.stmt before.context.env result loops s).refusals ≡ []
      → GoodLowered structs before (behind_stmt before.context.env s) (length (stmt_kinds tables s)) (stmt s before)
  stmt_good structs tables result loops (Stmt.Block place body end) before eq here lines room e =
      let b =
      (stmts_good structs tables result loops body (inside before) eq (within_scope_here structs before.context here) lines room e).1 in
      record {
        temps = b.temps;
        locals = b.locals;
        code = b.code;
        frame = record { tables = refl; first_local = refl; first_temp = refl; first_line = refl };
        here = here;
        names = refl;
      }
  stmt_good structs tables result loops (Stmt.Empty place) before eq here lines room e = no_code_good structs before here
  stmt_good structs tables result loops (Stmt.Declare l) before eq here lines room e =
      let d =
      declaration_good structs tables (from_place before (place_of_local l)) eq
      (from_place_here structs before here (place_of_local l) lines) l room e in
      record {
        temps = behind_both before.temps (released before.temps) _ (released_behind before.temps) d.temps;
        locals = d.locals;
        code = d.code;
        frame =
            record {
              tables = d.frame.tables;
              first_local = d.frame.first_local;
              first_temp = d.frame.first_temp;
              first_line = d.frame.first_line;
            };
        here = d.here;
        names = d.names;
      }
  stmt_good structs tables result loops (Stmt.Do s) before eq here lines room e =
      simple_from_good structs before here (place_of_simple s) lines s e
  stmt_good structs tables result loops (Stmt.If place c body) before eq here lines room e =
      let t = condition_good structs before here c lines.0 (nil_left _ _ e) in
      let b =
      stmt_good structs tables result loops body (inside (with_temps before (condition before c).temps)) eq
      (within_scope_here structs before.context here) lines.1 room
      (nil_right _ _ e) in
      let longer = b.temps.longer in
      record {
        temps = behind_both before.temps (condition before c).temps _ t.temps b.temps;
        locals = b.locals;
        code =
            code_choose (world structs before.context) _ _ _ nothing
            (test_more (world structs before.context) _ _ (omega arith) _ t.test) b.code (code_nothing (world structs before.context) _);
        frame = record { tables = refl; first_local = refl; first_temp = refl; first_line = refl };
        here = here;
        names = refl;
      }
  stmt_good structs tables result loops (Stmt.IfElse place c body other) before eq here lines room e =
      let count = length-append (stmt_kinds tables body) (stmt_kinds tables other) in
      let t = condition_good structs before here c lines.0 (nil_left _ _ e) in
      let b =
      stmt_good structs tables result loops body (inside (with_temps before (condition before c).temps)) eq
      (within_scope_here structs before.context here) lines.1 (omega arith)
      (nil_left _ _ (nil_right _ _ e)) in
      let one = stmt body (inside (with_temps before (condition before c).temps)) in
      let declared = b.locals in
      let o =
      stmt_good structs tables result loops other (inside (with_names before one.behind)) eq
      (within_scope_here structs before.context here) lines.2 (omega arith)
      (nil_right _ _ (nil_right _ _ e)) in
      let more = o.locals in
      let longer = b.temps.longer in
      let longest = o.temps.longer in
      record {
        temps = behind_both before.temps (condition before c).temps _ t.temps (behind_both _ one.behind.temps _ b.temps o.temps);
        locals = omega arith;
        code = code_choose (world structs before.context) _ _ _ _ (test_more (world structs before.context) _ _ (omega arith) _ t.test)
            (code_more (world structs before.context) _ _ (omega arith) _ b.code) o.code;
        frame = record { tables = refl; first_local = refl; first_temp = refl; first_line = refl };
        here = here;
        names = refl;
      }
  stmt_good structs tables result loops (Stmt.While place c body) before eq here lines room e =
      let t = condition_good structs before here c lines.0 (nil_left _ _ e) in
      let b =
      stmt_good structs tables result true body (inside (with_temps before (condition before c).temps)) eq
      (within_scope_here structs before.context here) lines.1 room
      (nil_right _ _ e) in
      let longer = b.temps.longer in
      record {
        temps = behind_both before.temps (condition before c).temps _ t.temps b.temps;
        locals = b.locals;
        code =
            code_repeat (world structs before.context) _ (visible before.context) _ _ nothing
            (test_more (world structs before.context) _ _ (omega arith) _ t.test) b.code
            (code_nothing (world structs before.context) _);
        frame = record { tables = refl; first_local = refl; first_temp = refl; first_line = refl };
        here = here;
        names = refl;
      }
  stmt_good structs tables result loops (Stmt.DoWhile place body c) before eq here lines room e =
      let b =
      stmt_good structs tables result true body (inside before) eq (within_scope_here structs before.context here) lines.0 room
      (nil_left _ _ e) in
      let one = stmt body (inside before) in
      let t = condition_good structs (with_names before one.behind) here c lines.1 (nil_right _ _ e) in
      let longer = t.temps.longer in
      record {
        temps = behind_both before.temps one.behind.temps _ b.temps t.temps;
        locals = b.locals;
        code =
            code_repeat_first (world structs before.context) _ (visible before.context) _ _
            (code_more (world structs before.context) _ _ (omega arith) _ b.code) t.test;
        frame = record { tables = refl; first_local = refl; first_temp = refl; first_line = refl };
        here = here;
        names = refl;
      }
  stmt_good structs tables result loops (Stmt.For place first c step body) before eq here lines room e =
      let count = length-append (init_kinds tables first) (stmt_kinds tables body) in
      let i =
      for_init_good structs tables (inside before) eq (within_scope_here structs before.context here) place lines.0 first (omega arith)
      (nil_left _ _ e) in
      let start = for_init (inside before) place first in
      let declared = i.locals in
      let local_eq = i.frame.first_local in
      let temp_eq = i.frame.first_temp in
      let t = for_condition_good structs start.behind i.here place lines.0 c lines.1
      (subst (λ env. (typing.maybe_test env c).refusals ≡ []) (sym i.names) (nil_left _ _ (nil_right _ _ e))) in
      let tested = for_condition start.behind place c in
      let b =
      stmt_good structs tables result true body (inside (with_temps start.behind tested.temps)) (i.frame.tables ∙ eq)
      (within_scope_here structs start.behind.context i.here) lines.3 (omega arith)
      (inner_refusals result true body start.behind.context.env (behind_init (entered before.context.env) first) i.names
      (nil_right (typing.maybe_simple (behind_init (entered before.context.env) first) step).refusals _
      (nil_right (typing.maybe_test (behind_init (entered before.context.env) first) c).refusals _
      (nil_right (typing.init (entered before.context.env) first).refusals _ e)))) in
      let one = stmt body (inside (with_temps start.behind tested.temps)) in
      let more = b.locals in
      let st = for_step_good structs (with_names start.behind one.behind) i.here step lines.2
      (subst (λ env. (typing.maybe_simple env step).refusals ≡ []) (sym i.names) (nil_left _ _ (nil_right _ _ (nil_right _ _ e)))) in
      let last = for_step (with_names start.behind one.behind) step in
      let same = st.locals in
      let longer = b.temps.longer in
      let longest = st.temps.longer in
      let later = t.temps.longer in
      record {
        temps =
            behind_both before.temps start.behind.temps _ i.temps
            (behind_both _ tested.temps _ t.temps (behind_both _ one.behind.temps _ b.temps st.temps));
        locals = omega arith;
        code =
            code_behind (world structs before.context) _ start.code _ (code_more (world structs before.context) _ _ (omega arith) _ i.code)
            (framed_code structs before.context start.behind.context
            (record {
              tables = i.frame.tables;
              first_local = i.frame.first_local;
              first_temp = i.frame.first_temp;
              first_line = i.frame.first_line;
            }) _ _
            (code_repeat (world structs start.behind.context) _ (visible start.behind.context) _ _ last.code
            (test_more (world structs start.behind.context) _ _ (omega arith) _ t.test)
            (code_more (world structs start.behind.context) _ _ (omega arith) _ b.code) st.code));
        frame = record { tables = refl; first_local = refl; first_temp = refl; first_line = refl };
        here = here;
        names = refl;
      }
  stmt_good structs tables result loops (Stmt.Break place) before eq here lines room e = record {
    temps = behind_self before.temps;
    locals = omega arith;
    code = code_jump (world structs before.context) _ (λ exits. exits.breaks) (λ total exits k. k.1);
    frame = frame_self before.context;
    here = here;
    names = refl;
  }
  stmt_good structs tables result loops (Stmt.Continue place) before eq here lines room e = record {
    temps = behind_self before.temps;
    locals = omega arith;
    code = code_jump (world structs before.context) _ (λ exits. exits.continues) (λ total exits k. k.2);
    frame = frame_self before.context;
    here = here;
    names = refl;
  }
  stmt_good structs tables result loops (Stmt.Return place value) before eq here lines room e =
      return_from_good structs before here place lines result value e

  pub stmts_good : (structs : List StructDef) (tables : Tables) (result : Kind) (loops : Bool) (all : Stmts) (before : State)
      → before.context.env.tables ≡ tables
      → IsHere structs before.context → AreStmtsLines all → HasRoom before (length (stmts_kinds tables all))
      → (typing.stmts before.context.env result loops all).refusals ≡ []
      → (env : Env) × GoodLowered structs before env (length (stmts_kinds tables all)) (stmts all before)
  stmts_good structs tables result loops Stmts.NoStmts before eq here lines room e = (before.context.env, no_code_good structs before here)
  stmts_good structs tables result loops (Stmts.Next first others) before eq here lines room e =
      let count = length-append (stmt_kinds tables first) (stmts_kinds tables others) in
      let one = stmt_good structs tables result loops first before eq here lines.0 (omega arith) (nil_left _ _ e) in
      let declared = one.locals in
      let local_eq = one.frame.first_local in
      let temp_eq = one.frame.first_temp in
      let rest =
      stmts_good structs tables result loops others (stmt first before).behind (one.frame.tables ∙ eq) one.here lines.1 (omega arith)
      (subst (λ env. (typing.stmts env result loops others).refusals ≡ []) (sym one.names) (nil_right _ _ e)) in (
        rest.0,
        subst (λ n. GoodLowered structs before rest.0 n (stmts (Stmts.Next first others) before)) (sym count)
            (joined_good structs before (behind_stmt before.context.env first) rest.0 _ _ (stmt first before) _ one rest.1),
      )
