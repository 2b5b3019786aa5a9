-- The code of simple statements, initializers and `return` has as many nodes as their syntax says.
use Rattle.std.proofs.Common.{◌≡◌, ℕ, ◌+◌, Bool, true, false, List, [], ◌∷◌, length, arith}
use Rattle.std.specs.Prelude.{Option, Some, None, pos}
use Rattle.shape_data.specs.declared.program.ArithOp.{ArithOp}
use Rattle.shape_data.specs.declared.program.Operand.{Operand}
use Rattle.shape_data.specs.declared.program.Operand.TheVariants.{Slot, Num}
use Rattle.shape_data.specs.declared.program.Ty.{Ty}
use Rattle.shape_data.specs.declared.program.Ty.TheVariants.{Int}
use Rattle.c_grammar.specs.Trees.{Name, Expr, AssignOp, Simple}
use Rattle.c_lower_rules.specs.Code.{Straight}
use Rattle.c_lower_rules.specs.Temporaries.{Temp}
use Rattle.c_lower_rules.specs.Contexts.{Context}
use Rattle.c_lower_rules.specs.Values.{Value, Lowering, at_hand}
use Rattle.c_lower_rules.specs.Expressions.{Field, field_behind, member, arithmetic, arguments, no_arguments, lowering, lowerings, wanted}
use Rattle.c_lower_rules.specs.Statements as lowered
use Rattle.c_lower_rules.specs.Statements.{Target, member_target, target, store, field_at_hand, store_back, value_before, is_call, update}
use Rattle.c_lower_rules.specs.Statements.{step_by, free_by, returned, initial}
use Rattle.c_lower_sizes.specs.Sizes.{Uses, at_hand_uses, made_uses, expr_uses, args_size, target_size, assign_size, update_size}
use Rattle.c_lower_sizes.specs.Sizes.{assign_by_size, simple_size, initial_size, return_size}
use Rattle.c_lower_sizes.proofs.Pieces.{HasStraight, straight_is, straight_none, straight_append, HasSize, code_is, code_command}
use Rattle.c_lower_sizes.proofs.Pieces.{code_before}
use Rattle.c_lower_sizes.proofs.SizedExprs.{IsSized, at_hand_sized, made_sized, arithmetic_sized, member_sized, given_sized, lowering_sized}
use Rattle.c_lower_sizes.proofs.SizedExprs.{args_sized, wanted_sized}

-- TARGETS

-- the pointer before the last `->` has so many nodes
abbrev pub IsTarget : Option ℕ → Target → Type 0
IsTarget None (Target.Variable to) = Unit {0}
IsTarget (Some n) (Target.Member base field) = (temps : List Temp) → HasStraight n (base.value temps).code
IsTarget _ _ = ⊥

target_is : (n m : ℕ) → n ≡ m → (to : Target) → IsTarget (Some n) to → IsTarget (Some m) to
target_is n m e (Target.Member base field) h = λ temps. straight_is n m e (base.value temps).code (h temps)
target_is n m e (Target.Variable to) h = absurd h

member_target_sized : (c : Context) (uses : Uses) (base : Lowering) (field : Name) (names : List Name) → IsSized uses base
    → IsTarget (Some (uses.value + length names)) (member_target c base field names)
member_target_sized c uses base field [] h =
    λ temps. straight_is uses.value (uses.value + 0) (omega arith) (base.value temps).code (h.value temps)
member_target_sized c uses base field (next ∷ others) h =
    target_is (uses.value + 1 + length others) (uses.value + length (next ∷ others)) (omega arith)
    (member_target c base field (next ∷ others))
    (member_target_sized c (made_uses uses.value) (member c base (field_behind c base.kind field)) next others
    (member_sized c uses base field h))

target_sized : (c : Context) (e : Expr) → IsTarget (target_size e) (target c e)
target_sized c (Expr.Paren place inner) = target_sized c inner
target_sized c (Expr.Members base first others) =
    member_target_sized c (expr_uses base) (lowering c base) first others (lowering_sized c base)
target_sized c other = tt

-- ASSIGNMENTS

store_sized : (n m : ℕ) (c : Context) (field : Field) (value base : Value) → HasStraight n value.code → HasStraight m base.code
    → HasSize (n + m + 1) (store c field value base).code
store_sized n m c field value base h k = code_before (n + m) 1 _ _ (straight_append n m value.code base.code h k) (code_command c.line _)

store_back_sized : (n m : ℕ) (c : Context) (field : Field) (base value : Value) → HasStraight n base.code → HasStraight m value.code
    → HasSize (n + m + 1) (store_back c field base value).code
store_back_sized n m c field base value h k =
    code_before (n + m) 1 _ _ (straight_append n m base.code value.code h k) (code_command c.line _)

assign_sized : (c : Context) (size : Option ℕ) (to : Target) (value : Expr) → IsTarget size to → (temps : List Temp)
    → HasSize (assign_size size (expr_uses value)) (lowered.assign c to value temps).code
assign_sized c None (Target.Variable to) value t temps = (lowering_sized c value).into to temps
assign_sized c (Some n) (Target.Member base field) value t temps =
    store_sized (expr_uses value).value n c field ((wanted c field.kind value).value temps)
    (base.value ((wanted c field.kind value).value temps).temps)
    ((wanted_sized c field.kind value).value temps) (t ((wanted c field.kind value).value temps).temps)
assign_sized c None (Target.Member base field) value t temps = absurd t
assign_sized c (Some n) (Target.Variable to) value t temps = absurd t

field_at_hand_sized : (c : Context) (field : Field) (operand : Operand) → IsSized (made_uses 0) (field_at_hand c field operand)
field_at_hand_sized c field operand = made_sized 0 c field.kind _ (λ temps. straight_none)

update_sized : (c : Context) (size : Option ℕ) (to : Target) (op : ArithOp) (calls : Bool) (uses : Uses) (by : Lowering) → IsTarget size to
    → IsSized uses by
    → (temps : List Temp)
    → HasSize (update_size size uses) (update c to op calls by temps).code
update_sized c None (Target.Variable to) op calls uses by t h temps =
    code_is (0 + uses.value + 1) (uses.value + 1) (omega arith) _
    ((arithmetic_sized c op at_hand_uses uses (at_hand c Int (Slot to)) by (at_hand_sized c Int (Slot to)) h).into to temps)
update_sized c (Some n) (Target.Member base field) op true uses by t h temps =
    let b = base.value temps in
    let called = by.value b.temps in
    let right = at_hand c Int called.operand in
    let v = (arithmetic c op (field_at_hand c field b.operand) right).value called.temps in
    code_is (n + uses.value + (0 + 1 + 0 + 1) + 1) (n + uses.value + 3) (omega arith) (store_back c field (value_before b called) v).code
    (store_back_sized (n + uses.value) (0 + 1 + 0 + 1) c field (value_before b called) v
    (straight_append n uses.value b.code called.code (t temps) (h.value b.temps))
    ((arithmetic_sized c op (made_uses 0) at_hand_uses (field_at_hand c field b.operand) right (field_at_hand_sized c field b.operand)
    (at_hand_sized c Int called.operand)).value called.temps))
update_sized c (Some n) (Target.Member base field) op false uses by t h temps =
    let b = base.value temps in
    let v = (arithmetic c op (field_at_hand c field b.operand) by).value b.temps in
    code_is (n + (0 + 1 + uses.value + 1) + 1) (n + uses.value + 3) (omega arith) (store_back c field b v).code
    (store_back_sized n (0 + 1 + uses.value + 1) c field b v (t temps)
    ((arithmetic_sized c op (made_uses 0) uses (field_at_hand c field b.operand) by
    (field_at_hand_sized c field b.operand) h).value b.temps))
update_sized c None (Target.Member base field) op calls uses by t h temps = absurd t
update_sized c (Some n) (Target.Variable to) op calls uses by t h temps = absurd t

assign_by_sized : (c : Context) (op : AssignOp) (size : Option ℕ) (to : Target) (value : Expr) → IsTarget size to → (temps : List Temp)
    → HasSize (assign_by_size op size (expr_uses value)) (lowered.assign_by c to op value temps).code
assign_by_sized c AssignOp.Set size to value t temps = assign_sized c size to value t temps
assign_by_sized c AssignOp.AddTo size to value t temps =
    update_sized c size to _ (is_call value) (expr_uses value) (lowering c value) t (lowering_sized c value) temps
assign_by_sized c AssignOp.SubtractFrom size to value t temps =
    update_sized c size to _ (is_call value) (expr_uses value) (lowering c value) t (lowering_sized c value) temps
assign_by_sized c AssignOp.MultiplyBy size to value t temps =
    update_sized c size to _ (is_call value) (expr_uses value) (lowering c value) t (lowering_sized c value) temps

-- FREE

free_by_sized : (n : ℕ) (c : Context) (kind : Ty) (code : Straight) (operand : Operand) (temps : List Temp) → HasStraight n code
    → HasSize (n + 1) (free_by c kind code operand temps).code
free_by_sized n c kind code (Slot slot) temps h = code_before n 1 code _ h (code_command c.line _)
free_by_sized n c kind code (Num k) temps h = code_before n 1 code _ h (code_command c.line _)

-- SIMPLE STATEMENTS

pub simple_sized : (c : Context) (s : Simple) (temps : List Temp) → HasSize (simple_size s) (lowered.simple c s temps).code
simple_sized c (Simple.Assign left op right) temps =
    assign_by_sized c op (target_size left) (target c left) right (target_sized c left) temps
simple_sized c (Simple.Step left op) temps =
    update_sized c (target_size left) (target c left) (step_by op) false at_hand_uses (at_hand c Int (Num (pos 1))) (target_sized c left)
    (at_hand_sized c Int (Num (pos 1))) temps
simple_sized c (Simple.Perform callee args) temps =
    code_before (args_size args) 1 (arguments (no_arguments temps) (lowerings c args)).code _
    (given_sized args (lowerings c args) (args_sized c args) temps) (code_command c.line _)
simple_sized c (Simple.Free place pointer) temps =
    let v = (lowering c pointer).value temps in
    free_by_sized (expr_uses pointer).value c (lowering c pointer).kind v.code v.operand v.temps ((lowering_sized c pointer).value temps)

pub returned_sized : (c : Context) (value : Option Expr) (temps : List Temp) → HasSize (return_size value) (returned c value temps).code
returned_sized c None temps = code_command c.line _
returned_sized c (Some value) temps =
    code_before (expr_uses value).value 1 ((wanted c c.result value).value temps).code _ ((wanted_sized c c.result value).value temps)
    (code_command c.line _)

pub initial_sized : (c : Context) (to : ℕ) (kind : Ty) (value : Option Expr) (temps : List Temp)
    → HasSize (initial_size value) (initial c to kind value temps).code
initial_sized c to kind None temps = code_command c.line _
initial_sized c to kind (Some value) temps = (lowering_sized c value).into to temps
