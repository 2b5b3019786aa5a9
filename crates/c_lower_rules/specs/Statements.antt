-- The code of statements.
use Rattle.std.specs.Prelude.{ℕ, suc, ◌+◌, Bool, true, false, Option, Some, None, List, [], ◌∷◌, ◌++◌, pos}
use Rattle.shape_data.specs.declared.program.ArithOp.{ArithOp}
use Rattle.shape_data.specs.declared.program.ArithOp.TheVariants as arith
use Rattle.shape_data.specs.declared.program.Cmd.TheVariants as cmd
use Rattle.shape_data.specs.declared.program.Operand.{Operand}
use Rattle.shape_data.specs.declared.program.Operand.TheVariants.{Slot, Num}
use Rattle.shape_data.specs.declared.program.Ty.{Ty}
use Rattle.shape_data.specs.declared.program.Ty.TheVariants.{Int}
use Rattle.c_grammar.specs.declared.tokens.places.Place.{Place}
use Rattle.c_grammar.specs.Trees.{Name, Specifier, Expr, AssignOp, StepOp, Simple, Initialized, Local, ForInit, Stmt, Stmts}
use Rattle.c_grammar.specs.FirstPlaces.{place_of_expr, place_of_local}
use Rattle.c_types_rules.specs.Tables.{Tables, object_kind}
use Rattle.c_types_rules.specs.Statements.{local_kind, behind_local}
use Rattle.c_types_rules.specs.Programs.{known}
use Rattle.c_lower_rules.specs.Code.{Code, Straight, no_nodes, nothing, jump, command, ◌⊹◌, ◌⊳◌, ◌⨾◌, choose, repeat, repeat_first}
use Rattle.c_lower_rules.specs.Temporaries.{Temp, Taken, released, take_temp}
use Rattle.c_lower_rules.specs.Contexts.{Context, slot_of, visible, at_place, within_scope, tag_of}
use Rattle.c_lower_rules.specs.Values.{◌▹◌, Piece, Value, Tested, Lowering, slot_taken, at_hand, made}
use Rattle.c_lower_rules.specs.Expressions.{Field, Arguments, slot_read, field_behind, load_by, member, arithmetic, arguments, no_arguments}
use Rattle.c_lower_rules.specs.Expressions.{lowering, lowerings, wanted}

-- SIMPLE STATEMENTS

-- what is assigned to: a variable, or a field of what an expression points to
pub data Target : Type 0 where
  Variable : ℕ → Target
  Member : Lowering → Field → Target

-- the last of one or more members, behind a pointer
abbrev pub member_target : Context → Lowering → Name → List Name → Target
member_target c base field [] = Member base (field_behind c base.kind field)
member_target c base field (next ∷ others) = member_target c (member c base (field_behind c base.kind field)) next others

-- parentheses aside; that it is another expression never comes where nothing is refused
abbrev pub target : Context → Expr → Target
target c (Expr.Paren place inner) = target c inner
target c (Expr.Variable n) = Variable (slot_of c n)
target c (Expr.Members base first others) = member_target c (lowering c base) first others
target c other = Variable 0

-- the value, then the pointer, then the store
abbrev pub store : Context → Field → Value → Value → Piece
store c field value base = record {
  code = (value.code ⊹ base.code) ⊳ command c.line (cmd.Store (slot_read base.operand) field.tag field.place value.operand);
  temps = base.temps;
}

-- `=` (C11 6.5.16.1)
abbrev pub assign : Context → Target → Expr → List Temp → Piece
assign c (Variable to) value temps = (lowering c value).into to temps
assign c (Member base field) value temps =
    (wanted c field.kind value).value temps ▹ (λ v. base.value v.temps ▹ (λ b. store c field v b))

-- the field of the structure that the operand points to
abbrev pub field_at_hand : Context → Field → Operand → Lowering
field_at_hand c field pointer = made c field.kind (λ temps. load_by field (record { code = no_nodes; operand = pointer; temps = temps }))

-- the pointer, then the new value, then the store
abbrev pub store_back : Context → Field → Value → Value → Piece
store_back c field base value = record {
  code = (base.code ⊹ value.code) ⊳ command c.line (cmd.Store (slot_read base.operand) field.tag field.place value.operand);
  temps = value.temps;
}

-- a value, and behind its code that of another
abbrev pub value_before : Value → Value → Value
value_before value other = record { code = value.code ⊹ other.code; operand = value.operand; temps = other.temps }

-- a call, parentheses aside
abbrev pub is_call : Expr → Bool
is_call (Expr.Paren place inner) = is_call inner
is_call (Expr.Call callee args) = true
is_call _ = false

-- `+=` and the like, and `++` and `--` (C11 6.5.2.4, 6.5.16.2), by a call or not. The pointer before `->` is evaluated once. A call comes
-- before the member is loaded: from there to the store nothing else is done
abbrev pub update : Context → Target → ArithOp → Bool → Lowering → List Temp → Piece
update c (Variable to) op calls by temps = (arithmetic c op (at_hand c Int (Slot to)) by).into to temps
update c (Member base field) op false by temps =
    base.value temps ▹ (λ b. (arithmetic c op (field_at_hand c field b.operand) by).value b.temps ▹ (λ v. store_back c field b v))
update c (Member base field) op true by temps =
    base.value temps ▹ (λ b. by.value b.temps ▹ (λ called.
    (arithmetic c op (field_at_hand c field b.operand) (at_hand c Int called.operand)).value called.temps ▹ (λ v.
    store_back c field (value_before b called) v)))

-- the assignment that its operator says
abbrev pub assign_by : Context → Target → AssignOp → Expr → List Temp → Piece
assign_by c to AssignOp.Set value temps = assign c to value temps
assign_by c to AssignOp.AddTo value temps = update c to arith.Add (is_call value) (lowering c value) temps
assign_by c to AssignOp.SubtractFrom value temps = update c to arith.Sub (is_call value) (lowering c value) temps
assign_by c to AssignOp.MultiplyBy value temps = update c to arith.Mul (is_call value) (lowering c value) temps

-- what `++` and `--` do to what they step
abbrev pub step_by : StepOp → ArithOp
step_by StepOp.Increment = arith.Add
step_by StepOp.Decrement = arith.Sub

-- a call as a statement: no slot takes its result (C11 6.5.2.2)
abbrev pub call : Context → Name → Arguments → Piece
call c callee args = record { code = args.code ⊳ command c.line (cmd.Call None callee.text args.operands); temps = args.temps }

-- behind code, 0 goes into the temporary that was taken
abbrev pub zero_in : Context → Straight → Taken → Piece
zero_in c code taken = record { code = code ⊳ command c.line (cmd.Copy (slot_taken c taken) (Num (pos 0))); temps = taken.temps }

-- `free` (C11 7.22.3.3). Of a null pointer that is written as a number nothing is freed: 0 goes to an int temporary
abbrev pub free_by : Context → Ty → Straight → Operand → List Temp → Piece
free_by c kind code (Slot slot) temps = record { code = code ⊳ command c.line (cmd.Free slot (tag_of kind)); temps = temps }
free_by c kind code (Num n) temps = zero_in c code (take_temp Int temps)

-- the pointer, then the command
abbrev pub free : Context → Lowering → List Temp → Piece
free c pointer temps = pointer.value temps ▹ (λ v. free_by c pointer.kind v.code v.operand v.temps)

-- an assignment, a step, a call or a `free`
abbrev pub simple : Context → Simple → List Temp → Piece
simple c (Simple.Assign left op right) temps = assign_by c (target c left) op right temps
simple c (Simple.Step left op) temps = update c (target c left) (step_by op) false (at_hand c Int (Num (pos 1))) temps
simple c (Simple.Perform callee args) temps = call c callee (arguments (no_arguments temps) (lowerings c args))
simple c (Simple.Free place pointer) temps = free c (lowering c pointer) temps

-- the first token of a simple statement
abbrev pub place_of_simple : Simple → Place
place_of_simple (Simple.Assign left op right) = place_of_expr left
place_of_simple (Simple.Step left op) = place_of_expr left
place_of_simple (Simple.Perform callee args) = callee.place
place_of_simple (Simple.Free place pointer) = place

-- LOCALS

-- what stands behind a piece of text: the temporaries, how many locals were declared, and what its names mean there
pub record State : Type 0 where
  pub temps : List Temp
  pub locals : ℕ
  pub context : Context

-- the code of a piece of text, and what stands behind it
pub record Lowered : Type 0 where
  pub code : Code
  pub behind : State

-- behind the declaration of a local (C11 6.2.1)
abbrev pub with_local : Context → ℕ → Specifier → Initialized → Context
with_local c locals specifier one =
    record c {
      env = behind_local c.env specifier one;
      bound = record { name = one.declarator.name.text; slot = c.first_local + locals } ∷ c.bound;
    }

-- a local holds any value, or that of its initializer (C11 6.7.9), in which its name means it already
abbrev pub initial : Context → ℕ → Ty → Option Expr → List Temp → Piece
initial c to kind None temps = record { code = command c.line (cmd.Any to kind); temps = temps }
initial c to kind (Some value) temps = (lowering c value).into to temps

-- one declarator, with its initializer
abbrev pub local : Specifier → Initialized → State → Lowered
local specifier one before =
    initial (with_local before.context before.locals specifier one) (before.context.first_local + before.locals)
    (known (local_kind before.context.env specifier one)) one.value before.temps
    ▹ (λ piece. record {
      code = piece.code;
      behind = record { temps = piece.temps; locals = suc before.locals; context = with_local before.context before.locals specifier one };
    })

-- one piece of text behind another
abbrev pub joined : Lowered → Lowered → Lowered
joined one other = record { code = one.code ⨾ other.code; behind = other.behind }

-- what has no code and declares nothing
abbrev pub no_code : State → Lowered
no_code before = record { code = nothing; behind = before }

-- declarators in the order of the text
abbrev pub locals : Specifier → List Initialized → State → Lowered
locals specifier [] before = no_code before
locals specifier (first ∷ others) before =
    local specifier first before ▹ (λ one. joined one (locals specifier others one.behind))

-- a declaration is one statement: its values take temporaries one behind another
abbrev pub declaration : Local → State → Lowered
declaration l before = locals l.specifier (l.first ∷ l.others) before

-- STATEMENTS

-- where a statement or a condition begins, no temporary is used, and nodes get the line of a place
abbrev pub from_place : State → Place → State
from_place before place = record before { temps = released before.temps; context = at_place before.context place }

-- behind a piece whose scope has ended: names mean again what they meant before it
abbrev pub with_names : State → State → State
with_names before behind = record behind { context = before.context }

-- a piece whose scope ends with it
abbrev pub scope_left : State → Lowered → Lowered
scope_left before l = record { code = l.code; behind = with_names before l.behind }

-- a simple statement that begins with these temporaries and this line
abbrev pub simple_from : State → State → Simple → Lowered
simple_from before here s =
    simple here.context s here.temps ▹ (λ piece. record { code = piece.code; behind = record before { temps = piece.temps } })

-- a condition that begins with these temporaries and this line
abbrev pub condition_from : State → Expr → Tested
condition_from here e = (lowering here.context e).test here.temps

-- the line of a condition is that of its first token
abbrev pub condition : State → Expr → Tested
condition before e = condition_from (from_place before (place_of_expr e)) e

-- a condition that is missing is the number 1 (C11 6.8.5.3)
abbrev pub for_condition : State → Place → Option Expr → Tested
for_condition before place None = condition_from (from_place before place) (Expr.Number place 1)
for_condition before place (Some e) = condition before e

-- the same place, with these temporaries
abbrev pub with_temps : State → List Temp → State
with_temps before temps = record before { temps = temps }

-- in a scope of its own
abbrev pub inside : State → State
inside before = record before { context = within_scope before.context }

-- what a `for` begins with: its nodes have the line of the `for`
abbrev pub for_init : State → Place → ForInit → Lowered
for_init before place ForInit.NoInit = no_code before
for_init before place (ForInit.Locals l) = declaration l (from_place before place)
for_init before place (ForInit.Once s) = simple_from before (from_place before place) s

-- the step of a `for`: its nodes have the line of its own first token
abbrev pub for_step : State → Option Simple → Lowered
for_step before None = no_code before
for_step before (Some s) = simple_from before (from_place before (place_of_simple s)) s

-- `return` (C11 6.8.6.4)
abbrev pub return_value : Context → Value → Piece
return_value c v = record { code = v.code ⊳ command c.line (λ next. cmd.Return v.operand); temps = v.temps }

-- the value is returned, or 0 where there is none
abbrev pub returned : Context → Option Expr → List Temp → Piece
returned c None temps = record { code = command c.line (λ next. cmd.Return (Num (pos 0))); temps = temps }
returned c (Some value) temps = return_value c ((wanted c c.result value).value temps)

-- a `return` that begins with these temporaries and this line
abbrev pub return_from : State → State → Option Expr → Lowered
return_from before here value =
    returned here.context value here.temps ▹ (λ piece. record { code = piece.code; behind = record before { temps = piece.temps } })

abbrev mutual
  -- a statement (C11 6.8)
  pub stmt : Stmt → State → Lowered
  stmt (Stmt.Block place body end) before = scope_left before (stmts body (inside before))
  stmt (Stmt.Empty place) before = no_code before
  stmt (Stmt.Declare l) before = declaration l (from_place before (place_of_local l))
  stmt (Stmt.Do s) before = simple_from before (from_place before (place_of_simple s)) s
  stmt (Stmt.If place e body) before =
      condition before e ▹ (λ t. stmt body (inside (with_temps before t.temps))
      ▹ (λ b. record { code = choose t.test b.code nothing; behind = with_names before b.behind }))
  stmt (Stmt.IfElse place e body other) before =
      condition before e ▹ (λ t. stmt body (inside (with_temps before t.temps))
      ▹ (λ b. stmt other (inside (with_names before b.behind))
      ▹ (λ o. record { code = choose t.test b.code o.code; behind = with_names before o.behind })))
  stmt (Stmt.While place e body) before =
      condition before e ▹ (λ t. stmt body (inside (with_temps before t.temps))
      ▹ (λ b. record { code = repeat (visible before.context) t.test b.code nothing; behind = with_names before b.behind }))
  stmt (Stmt.DoWhile place body e) before =
      stmt body (inside before)
      ▹ (λ b. condition (with_names before b.behind) e
      ▹ (λ t. record {
        code = repeat_first (visible before.context) b.code t.test;
        behind = with_temps (with_names before b.behind) t.temps;
      }))
  stmt (Stmt.For place first e step body) before =
      for_init (inside before) place first
      ▹ (λ i. for_condition i.behind place e
      ▹ (λ t. stmt body (inside (with_temps i.behind t.temps))
      ▹ (λ b. for_step (with_names i.behind b.behind) step
      ▹ (λ s. record {
        code = i.code ⨾ repeat (visible i.behind.context) t.test b.code s.code;
        behind = with_names before s.behind;
      }))))
  stmt (Stmt.Break place) before = record { code = jump (λ exits. exits.breaks); behind = before }
  stmt (Stmt.Continue place) before = record { code = jump (λ exits. exits.continues); behind = before }
  stmt (Stmt.Return place value) before = return_from before (from_place before place) value

  -- statements in the order of the text
  pub stmts : Stmts → State → Lowered
  stmts Stmts.NoStmts before = no_code before
  stmts (Stmts.Next first others) before = stmt first before ▹ (λ one. joined one (stmts others one.behind))

-- THE LOCALS OF A BODY, in the order of the text: their types

-- the types of declarators
abbrev pub kinds_of_locals : Tables → Specifier → List Initialized → List Ty
kinds_of_locals tables specifier [] = []
kinds_of_locals tables specifier (first ∷ others) =
    known (object_kind tables specifier first.declarator.stars) ∷ kinds_of_locals tables specifier others

-- those of a declaration
abbrev pub declared_kinds : Tables → Local → List Ty
declared_kinds tables l = kinds_of_locals tables l.specifier (l.first ∷ l.others)

-- those of what a `for` begins with
abbrev pub init_kinds : Tables → ForInit → List Ty
init_kinds tables (ForInit.Locals l) = declared_kinds tables l
init_kinds tables _ = []

abbrev mutual
  -- those in a statement
  pub stmt_kinds : Tables → Stmt → List Ty
  stmt_kinds tables (Stmt.Block place body end) = stmts_kinds tables body
  stmt_kinds tables (Stmt.Declare l) = declared_kinds tables l
  stmt_kinds tables (Stmt.If place e body) = stmt_kinds tables body
  stmt_kinds tables (Stmt.IfElse place e body other) = stmt_kinds tables body ++ stmt_kinds tables other
  stmt_kinds tables (Stmt.While place e body) = stmt_kinds tables body
  stmt_kinds tables (Stmt.DoWhile place body e) = stmt_kinds tables body
  stmt_kinds tables (Stmt.For place first e step body) = init_kinds tables first ++ stmt_kinds tables body
  stmt_kinds tables _ = []

  -- those in statements
  pub stmts_kinds : Tables → Stmts → List Ty
  stmts_kinds tables Stmts.NoStmts = []
  stmts_kinds tables (Stmts.Next first others) = stmt_kinds tables first ++ stmts_kinds tables others
