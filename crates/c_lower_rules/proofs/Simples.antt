-- Where nothing is refused in a simple statement, a `return` or an initializer, its code is good.
use Rattle.std.proofs.Common.{◌≡◌, ℕ, suc, ◌+◌, ◌<◌, ◌≤◌, Bool, true, false, cond, List, [], ◌∷◌, length, refl, arith, subst, sym, ap, ◌∙◌}
use Rattle.std.specs.Prelude.{Option, Some, None, IfSome, pos, ℤ, ◌||◌}
use Rattle.shape_data.specs.declared.program.ArithOp.{ArithOp}
use Rattle.shape_data.specs.declared.program.ArithOp.TheVariants as arith
use Rattle.shape_data.specs.declared.program.Operand.{Operand}
use Rattle.shape_data.specs.declared.program.Operand.TheVariants.{Slot, Num}
use Rattle.shape_data.specs.declared.program.StructDef.{StructDef}
use Rattle.shape_data.specs.declared.program.Ty.{Ty}
use Rattle.shape_data.specs.declared.program.Ty.TheVariants.{Int, Ptr, Void}
use Rattle.shape_data.specs.Names.{IsCName}
use Rattle.shape_data.specs.WellFormed.{IsTy, IsOperand, IsKind, IsCountable}
use Rattle.c_grammar.specs.declared.tokens.places.Place.{Place}
use Rattle.c_grammar.specs.declared.tokens.places.Refusal.{Refusal}
use Rattle.c_grammar.specs.Tokens.Places.{refusal}
use Rattle.c_grammar.specs.Trees.{Name, Specifier, Expr, Args, AssignOp, Simple}
use Rattle.c_grammar.specs.FirstPlaces.{place_of_expr}
use Rattle.c_types_rules.specs.Types.{Kind, ARGUMENTS}
use Rattle.c_types_rules.specs.Tables.{Procedure, Alias, Tables, procedure_in, alias_in, is_defined, pointer_to, pointer_by, pointer_of}
use Rattle.c_types_rules.specs.Tables.{param_kinds}
use Rattle.c_types_rules.specs.Items.{listed}
use Rattle.c_types_rules.specs.Expressions.{kind_of, kind_of_call, is_null, Given, given_by, gives_pointer, may_be_pointer, kind_of_member}
use Rattle.c_types_rules.specs.Expressions.{members_refusals, same_number, callee_refusals, expr_refusals, call_refusals, whole_refusals}
use Rattle.c_types_rules.specs.Expressions.{malloc_refusals}
use Rattle.c_types_rules.specs.Statements.{is_target, may_be_freed, simple}
use Rattle.c_types_rules.specs.Programs.{known}
use Rattle.c_types_rules.proofs.KnownTables.{nil_left, nil_right, holds, IsSound, named_sound}
use Rattle.c_types_rules.proofs.KnownExprs.{plain_known, call_sound, gives_kind}
use Rattle.c_lower_rules.specs.Code.{no_nodes}
use Rattle.c_lower_rules.specs.Temporaries.{Temp}
use Rattle.c_lower_rules.specs.Contexts.{Context, tag_of}
use Rattle.c_lower_rules.specs.Values.{Value, Lowering, is_pointer, at_hand}
use Rattle.c_lower_rules.specs.Expressions.{slot_read, Field, field_behind, member, arguments, no_arguments, called, new, lowering}
use Rattle.c_lower_rules.specs.Expressions.{lowerings, wanted}
use Rattle.c_lower_rules.specs.Statements as lowered
use Rattle.c_lower_rules.specs.Statements.{Target, member_target, target, store, field_at_hand, store_back, value_before, is_call, update}
use Rattle.c_lower_rules.specs.Statements.{step_by, call, free_by, returned, initial}
use Rattle.c_lower_rules.proofs.Pieces.{operand_more, straight_more, straight_none, straight_append, code_command, code_before}
use Rattle.c_lower_rules.proofs.Uses.{behind_self, behind_both, taken_good, world, IsLined, GoodPiece, GoodValue, GoodLowering}
use Rattle.c_lower_rules.proofs.Uses.{at_hand_good, made_value_good, made_good}
use Rattle.c_lower_rules.proofs.Operators.{arith_both_good, arithmetic_good, IsFieldThere, load_good, member_good, GoodArguments, none_good}
use Rattle.c_lower_rules.proofs.Operators.{arguments_good, arguments_count, IsCallable, call_by_good, new_by_good}
use Rattle.c_lower_rules.proofs.Procedures.{kinds_length}
use Rattle.c_lower_rules.proofs.Exprs.{Fits, IsHere, known_ty, known_some, slot_there, field_there, GoodExpr, lowering_good, args_good}

-- CALLS AND MALLOC

counted : (c : Context) (kinds : List Kind) (args : Args) → same_number kinds args ≡ true → length kinds ≡ length (lowerings c args)
counted c [] Args.NoArgs e = refl
counted c (kind ∷ kinds) (Args.Arg first others) e = ap suc (counted c kinds others e)
counted c [] (Args.Arg first others) e = absurd (cc)
counted c (kind ∷ kinds) Args.NoArgs e = absurd (cc)

chosen : (b : Bool) (one other : List Refusal) (r : Refusal) → other ≡ r ∷ [] → cond b one other ≡ [] → b ≡ true
chosen true one other r e h = refl
chosen false one other r e h = absurd (cc)

pub callable : (structs : List StructDef) (c : Context) → IsHere structs c → (callee : Name) (args : Args)
    → callee_refusals c.env (procedure_in c.env.tables.procedures callee.text) callee args ≡ []
    → IsCallable c callee (length (lowerings c args))
callable structs c here callee args e =
    let all = by_found (procedure_in c.env.tables.procedures callee.text) (here.fits.procedures callee.text) e in
    record { name = all.0; few = all.1; fits = all.2 }
  where
    by_found : (found : Option Procedure) → IfSome found (λ f. IsCName callee.text × IsCountable (listed f.head.params))
        → callee_refusals c.env found callee args ≡ []
        → (IsCName callee.text) × (length (lowerings c args) < 4294967296)
        × IfSome found (λ f. length (listed f.head.params) ≡ length (lowerings c args))
    by_found None h e = absurd (cc)
    by_found (Some f) h e =
        let same = chosen (same_number (param_kinds c.env.tables f.head.params) args) _ _ (refusal callee.place ARGUMENTS) refl e in
        let eq = sym (kinds_length c.env.tables f.head.params) ∙ counted c (param_kinds c.env.tables f.head.params) args same in
        (h.0, subst (λ n. n < 4294967296) eq h.1, eq)

arguments_of : (structs : List StructDef) (c : Context) → IsHere structs c → (callee : Name) (args : Args)
    → call_refusals c.env callee args ≡ [] → (temps : List Temp)
    → GoodArguments structs c temps (arguments (no_arguments temps) (lowerings c args))
arguments_of structs c here callee args e temps =
    arguments_good structs c here.line temps (no_arguments temps) (lowerings c args) (none_good structs c here.line temps)
    (args_good structs c here args (nil_left _ _ e))

callable_with : (structs : List StructDef) (c : Context) → IsHere structs c → (callee : Name) (args : Args)
    → call_refusals c.env callee args ≡ [] → (temps : List Temp)
    → IsCallable c callee (length (arguments (no_arguments temps) (lowerings c args)).operands)
callable_with structs c here callee args e temps =
    let count = arguments_count (no_arguments temps) (lowerings c args) in
    let same : length (lowerings c args) ≡ length (arguments (no_arguments temps) (lowerings c args)).operands = omega arith in
    subst (IsCallable c callee) same (callable structs c here callee args (nil_right _ _ e))

called_good : (structs : List StructDef) (c : Context) → IsHere structs c → (callee : Name) (args : Args)
    → call_refusals c.env callee args ≡ []
    → GoodLowering structs c (called c callee (lowerings c args))
called_good structs c here callee args e =
    made_good structs c here.line _ _
    (known_ty structs c.env.tables here.fits (kind_of_call c.env.tables (procedure_in c.env.tables.procedures callee.text))
    (call_sound c.env here.sound callee args e))
    (λ temps. call_by_good structs c here.line temps callee (arguments (no_arguments temps) (lowerings c args))
    (arguments_of structs c here callee args e temps)
    (callable_with structs c here callee args e temps))

-- a structure that a pointer points to is one of the program's
tag_made : (structs : List StructDef) (tables : Tables) → Fits structs tables → (tag : List ℕ) → IsSound tables (pointer_to tables tag)
    → IsKind structs (tag_of (known (pointer_to tables tag)))
tag_made structs tables fits tag h = by_test (is_defined tables tag) h
  where
    by_test : (b : Bool) → IsSound tables (cond b (Some (Ptr tag)) None) → IsKind structs (tag_of (known (cond b (Some (Ptr tag)) None)))
    by_test true h = fits.kinds tag h
    by_test false h = absurd h

made_tag : (structs : List StructDef) (tables : Tables) → Fits structs tables → (s : Specifier) → IsSound tables (pointer_of tables s)
    → IsKind structs (tag_of (known (pointer_of tables s)))
made_tag structs tables fits (Specifier.Int place) h = absurd h
made_tag structs tables fits (Specifier.Void place) h = absurd h
made_tag structs tables fits (Specifier.Struct place tag) h = tag_made structs tables fits tag.text h
made_tag structs tables fits (Specifier.Alias n) h = by_alias (alias_in tables.aliases n.text) h
  where
    by_alias : (found : Option Alias) → IsSound tables (pointer_by tables found) → IsKind structs (tag_of (known (pointer_by tables found)))
    by_alias None h = absurd h
    by_alias (Some found) h = tag_made structs tables fits found.tag h

target_sound : (structs : List StructDef) (c : Context) → IsHere structs c → (place : Place) (as_type : Option Specifier) (s : Specifier)
    → malloc_refusals c.env place as_type s ≡ [] → IsSound c.env.tables (pointer_of c.env.tables s)
target_sound structs c here place as_type s e =
    named_sound c.env.tables here.sound.tables.aliases s (nil_left _ _ (nil_right _ _ (nil_left _ _ e))) (holds _ _ _ (nil_right _ _ e))

new_good : (structs : List StructDef) (c : Context) → IsHere structs c → (kind : Ty) → IsTy kind
    → (place : Place) (as_type : Option Specifier) (s : Specifier)
    → malloc_refusals c.env place as_type s ≡ [] → GoodLowering structs c (new c kind s)
new_good structs c here kind k place as_type s e =
    made_good structs c here.line kind _ k
    (new_by_good structs c here.line _ (made_tag structs c.env.tables here.fits s (target_sound structs c here place as_type s e)))

-- an expression that may be a call or `malloc` as a whole
pub whole_good : (structs : List StructDef) (c : Context) → IsHere structs c → (e : Expr) → whole_refusals c.env e ≡ []
    → GoodLowering structs c (lowering c e)
whole_good structs c here (Expr.Paren place inner) e = whole_good structs c here inner e
whole_good structs c here (Expr.Call callee args) e = called_good structs c here callee args e
whole_good structs c here (Expr.Malloc place as_type s) e =
    new_good structs c here _
    (known_ty structs c.env.tables here.fits (pointer_of c.env.tables s) (target_sound structs c here place as_type s e)) place as_type s e
whole_good structs c here other e = (lowering_good structs c here other e).good

pub wanted_good : (structs : List StructDef) (c : Context) → IsHere structs c → (kind : Ty) → IsTy kind → (e : Expr)
    → whole_refusals c.env e ≡ []
    → GoodLowering structs c (wanted c kind e)
wanted_good structs c here kind k (Expr.Paren place inner) e = wanted_good structs c here kind k inner e
wanted_good structs c here kind k (Expr.Call callee args) e = called_good structs c here callee args e
wanted_good structs c here kind k (Expr.Malloc place as_type s) e = new_good structs c here kind k place as_type s e
wanted_good structs c here kind k other e = (lowering_good structs c here other e).good

-- TARGETS

abbrev pub GoodTarget : List StructDef → Context → Target → Type 0
GoodTarget structs c (Target.Variable to) = to < c.first_temp
GoodTarget structs c (Target.Member base field) = GoodLowering structs c base × (is_pointer base.kind ≡ true) × IsFieldThere structs field

member_target_good : (structs : List StructDef) (c : Context) → IsHere structs c
    → (place : Place) (base : Lowering) (field : Name) (names : List Name)
    → GoodLowering structs c base → IsSound c.env.tables (Some base.kind)
    → members_refusals c.env.tables place (Some base.kind) (field ∷ names) ≡ []
    → GoodTarget structs c (member_target c base field names)
member_target_good structs c here place base field [] h s e =
    let there = field_there structs c here place base.kind field s (nil_left _ _ e) in
    (h, there.1, there.0)
member_target_good structs c here place base field (next ∷ others) h s e =
    let there = field_there structs c here place base.kind field s (nil_left _ _ e) in
    let eq = known_some c.env.tables (kind_of_member c.env.tables (Some base.kind) field) there.2 in
    member_target_good structs c here place (member c base (field_behind c base.kind field)) next others
    (member_good structs c here.line base (field_behind c base.kind field) there.0 h there.1)
    (subst (λ k. IsSound c.env.tables k) (sym eq) there.2)
    (subst (λ k. members_refusals c.env.tables place k (next ∷ others) ≡ []) (sym eq) (nil_right _ _ e))

pub target_good : (structs : List StructDef) (c : Context) → IsHere structs c → (e : Expr) → expr_refusals c.env e ≡ [] → is_target e ≡ true
    → GoodTarget structs c (target c e)
target_good structs c here (Expr.Paren place inner) e t = target_good structs c here inner e t
target_good structs c here (Expr.Variable n) e t = slot_there structs c here n (plain_known c.env here.sound (Expr.Variable n) e).own
target_good structs c here (Expr.Members base first others) e t =
    let one = lowering_good structs c here base (nil_left _ _ e) in
    let own = (plain_known c.env here.sound base (nil_left _ _ e)).own in
    member_target_good structs c here (place_of_expr base) (lowering c base) first others one.good
    (subst (λ k. IsSound c.env.tables k) (sym one.kind) own)
    (subst (λ k. members_refusals c.env.tables (place_of_expr base) k (first ∷ others) ≡ []) (sym one.kind) (nil_right _ _ e))
target_good structs c here other e t = absurd (cc)

-- ASSIGNMENTS

store_good : (structs : List StructDef) (c : Context) (ln : IsLined c) (field : Field) → IsFieldThere structs field
    → (temps : List Temp) (value base : Value)
    → GoodValue structs c temps value → GoodValue structs c value.temps base → slot_read base.operand < c.first_temp + length base.temps
    → GoodPiece structs c temps (store c field value base)
store_good structs c ln field f temps value base h k lt =
    let longer = k.behind.longer in
    record {
      behind = behind_both temps value.temps base.temps h.behind k.behind;
      code = code_before (world structs c) _ _ _ (omega arith)
          (straight_append (world structs c) _ value.code base.code
          (straight_more (world structs c) _ _ (omega arith) value.code h.code) k.code)
          (code_command (world structs c) _ c.line _ ln
          (λ total next e. ((lt, f.there, operand_more _ _ (omega arith) value.operand h.operand, e), tt)));
    }

store_back_good : (structs : List StructDef) (c : Context) (ln : IsLined c) (field : Field) → IsFieldThere structs field
    → (temps : List Temp) (base value : Value)
    → GoodValue structs c temps base → GoodValue structs c base.temps value → slot_read base.operand < c.first_temp + length base.temps
    → GoodPiece structs c temps (store_back c field base value)
store_back_good structs c ln field f temps base value h k lt =
    let longer = k.behind.longer in
    record {
      behind = behind_both temps base.temps value.temps h.behind k.behind;
      code = code_before (world structs c) _ _ _ (omega arith)
          (straight_append (world structs c) _ base.code value.code
          (straight_more (world structs c) _ _ (omega arith) base.code h.code) k.code)
          (code_command (world structs c) _ c.line _ ln (λ total next e. ((omega arith, f.there, k.operand, e), tt)));
    }

assign_good : (structs : List StructDef) (c : Context) → IsHere structs c → (to : Target) → GoodTarget structs c to → (value : Expr)
    → whole_refusals c.env value ≡ []
    → (temps : List Temp) → GoodPiece structs c temps (lowered.assign c to value temps)
assign_good structs c here (Target.Variable to) t value e temps = (whole_good structs c here value e).into to temps t
assign_good structs c here (Target.Member base field) t value e temps =
    let v = wanted_good structs c here field.kind t.2.kind value e in
    let later = ((wanted c field.kind value).value temps).temps in
    store_good structs c here.line field t.2 temps _ (base.value later) (v.value temps) (t.0.value later) (t.0.base later t.1)

-- what is at hand behind a pointer, loaded
loaded_good : (structs : List StructDef) (c : Context) (ln : IsLined c) (field : Field) → IsFieldThere structs field
    → (temps : List Temp) (b : Value) → GoodValue structs c temps b
    → slot_read b.operand < c.first_temp + length b.temps → GoodValue structs c b.temps ((field_at_hand c field b.operand).value b.temps)
loaded_good structs c ln field f temps b h lt =
    made_value_good structs c ln field.kind f.kind b.temps _
    (load_good structs c ln field f b.temps (record { code = no_nodes; operand = b.operand; temps = b.temps })
    (record { behind = behind_self b.temps; code = straight_none (world structs c) _; operand = h.operand }) lt)

-- a value, and behind it another
before_good : (structs : List StructDef) (c : Context) (temps : List Temp) (value other : Value) → GoodValue structs c temps value
    → GoodValue structs c value.temps other
    → GoodValue structs c temps (value_before value other)
before_good structs c temps value other h k =
    let longer = k.behind.longer in
    record {
      behind = behind_both temps value.temps other.temps h.behind k.behind;
      code =
          straight_append (world structs c) _ value.code other.code
          (straight_more (world structs c) _ _ (omega arith) value.code h.code) k.code;
      operand = operand_more _ _ (omega arith) value.operand h.operand;
    }

-- a value that is read again, behind code of which its temporaries know nothing
again_good : (structs : List StructDef) (c : Context) (before temps : List Temp) (value : Value) → GoodValue structs c before value
    → length value.temps ≤ length temps
    → GoodValue structs c temps (record { code = no_nodes; operand = value.operand; temps = temps })
again_good structs c before temps value h le = record {
  behind = behind_self temps;
  code = straight_none (world structs c) _;
  operand = operand_more _ _ (omega arith) value.operand h.operand;
}

update_good : (structs : List StructDef) (c : Context) → IsHere structs c → (to : Target) → GoodTarget structs c to
    → (op : ArithOp) (calls : Bool) (by : Lowering) → GoodLowering structs c by
    → (temps : List Temp) → GoodPiece structs c temps (update c to op calls by temps)
update_good structs c here (Target.Variable to) t op calls by h temps =
    (arithmetic_good structs c here.line op (at_hand c Int (Slot to)) by
    (at_hand_good structs c here.line Int (Slot to) tt t (λ f. absurd (cc))) h).into to temps t
update_good structs c here (Target.Member base field) t op true by h temps =
    let b = base.value temps in
    let called = by.value b.temps in
    let g = h.value b.temps in
    let all = before_good structs c temps b called (t.0.value temps) g in
    let lt = t.0.base temps t.1 in
    let longer = g.behind.longer in
    let there : slot_read b.operand < c.first_temp + length called.temps = omega arith in
    let l = loaded_good structs c here.line field t.2 temps (value_before b called) all there in
    let loaded = (field_at_hand c field b.operand).value called.temps in
    store_back_good structs c here.line field t.2 temps (value_before b called) _ all
    (made_value_good structs c here.line Int tt called.temps _
    (arith_both_good structs c here.line op called.temps loaded _ l (again_good structs c b.temps loaded.temps called g l.behind.longer)))
    there
update_good structs c here (Target.Member base field) t op false by h temps =
    let b = t.0.value temps in
    let lt = t.0.base temps t.1 in
    let l = loaded_good structs c here.line field t.2 temps (base.value temps) b lt in
    let loaded = (field_at_hand c field (base.value temps).operand).value (base.value temps).temps in
    store_back_good structs c here.line field t.2 temps (base.value temps) _ b
    (made_value_good structs c here.line Int tt (base.value temps).temps _
    (arith_both_good structs c here.line op (base.value temps).temps loaded (by.value loaded.temps) l (h.value loaded.temps)))
    lt

assign_by_good : (structs : List StructDef) (c : Context) → IsHere structs c → (to : Target) → GoodTarget structs c to
    → (op : AssignOp) (value : Expr) → whole_refusals c.env value ≡ []
    → (temps : List Temp) → GoodPiece structs c temps (lowered.assign_by c to op value temps)
assign_by_good structs c here to t AssignOp.Set value e temps = assign_good structs c here to t value e temps
assign_by_good structs c here to t AssignOp.AddTo value e temps =
    update_good structs c here to t arith.Add (is_call value) (lowering c value) (whole_good structs c here value e) temps
assign_by_good structs c here to t AssignOp.SubtractFrom value e temps =
    update_good structs c here to t arith.Sub (is_call value) (lowering c value) (whole_good structs c here value e) temps
assign_by_good structs c here to t AssignOp.MultiplyBy value e temps =
    update_good structs c here to t arith.Mul (is_call value) (lowering c value) (whole_good structs c here value e) temps

one_good : (structs : List StructDef) (c : Context) → IsHere structs c → GoodLowering structs c (at_hand c Int (Num (pos 1)))
one_good structs c here = at_hand_good structs c here.line Int (Num (pos 1)) tt tt (λ f. absurd (cc))

-- FREE

-- a null pointer that is written as a number is read from no slot
null_operand : (c : Context) (e : Expr) → is_null e ≡ true → (temps : List Temp) → (n : ℤ) × ((lowering c e).value temps).operand ≡ Num n
null_operand c (Expr.Number place value) h temps = (pos value, refl)
null_operand c (Expr.Null place) h temps = (pos 0, refl)
null_operand c (Expr.Paren place inner) h temps = null_operand c inner h temps
null_operand c other h temps = absurd (cc)

-- what is freed, where it is read from a slot, is a pointer to a structure
abbrev CanBeFreed : List StructDef → Ty → Operand → Type 0
CanBeFreed structs kind (Slot slot) = IsKind structs (tag_of kind)
CanBeFreed structs kind (Num n) = Unit {0}

freed_kind : (structs : List StructDef) (c : Context) → IsHere structs c → (kind : Ty) (operand : Operand)
    → IsSound c.env.tables (Some kind) → may_be_pointer (Some kind) ≡ true
    → CanBeFreed structs kind operand
freed_kind structs c here kind (Num n) h e = tt
freed_kind structs c here (Ptr tag) (Slot slot) h e = here.fits.kinds tag h
freed_kind structs c here Int (Slot slot) h e = absurd (cc)
freed_kind structs c here Void (Slot slot) h e = absurd (cc)

can_be_freed : (structs : List StructDef) (c : Context) → IsHere structs c → (e : Expr) → expr_refusals c.env e ≡ []
    → may_be_freed c.env e ≡ true → (temps : List Temp)
    → CanBeFreed structs (lowering c e).kind ((lowering c e).value temps).operand
can_be_freed structs c here e accepted h temps = by_null (is_null e) refl h
  where
    one : GoodExpr structs c (kind_of c.env e) (lowering c e)
    one = lowering_good structs c here e accepted

    by_null : (b : Bool) → is_null e ≡ b → (b || gives_pointer (given_by c.env e)) ≡ true
        → CanBeFreed structs (lowering c e).kind ((lowering c e).value temps).operand
    by_null true eq k = let null = null_operand c e eq temps in subst (CanBeFreed structs (lowering c e).kind) (sym null.1) tt
    by_null false eq k =
        freed_kind structs c here (lowering c e).kind ((lowering c e).value temps).operand
        (subst (λ kind. IsSound c.env.tables kind) (sym one.kind) (plain_known c.env here.sound e accepted).own)
        (subst (λ kind. may_be_pointer kind ≡ true) (sym one.kind)
        (subst (λ (given : Given). gives_pointer given ≡ true) (gives_kind c.env e accepted) k))

free_by_good : (structs : List StructDef) (c : Context) → IsHere structs c → (kind : Ty) (temps : List Temp) (v : Value)
    → GoodValue structs c temps v → (operand : Operand)
    → IsOperand (c.first_temp + length v.temps) operand → CanBeFreed structs kind operand
    → GoodPiece structs c temps (free_by c kind v.code operand v.temps)
free_by_good structs c here kind temps v h (Slot slot) o f = record {
  behind = h.behind;
  code = code_before (world structs c) _ v.code _ (omega arith) h.code
      (code_command (world structs c) _ c.line _ here.line (λ total next e. ((o, f, e), tt)));
}
free_by_good structs c here kind temps v h (Num n) o f =
    let taken = taken_good Int tt v.temps in
    let longer = taken.behind.longer in
    let there = taken.there in
    record {
      behind = behind_both temps v.temps _ h.behind taken.behind;
      code = code_before (world structs c) _ v.code _ (omega arith) (straight_more (world structs c) _ _ (omega arith) v.code h.code)
          (code_command (world structs c) _ c.line _ here.line (λ total next e. ((omega arith, tt, e), tt)));
    }

-- SIMPLE STATEMENTS

pub simple_good : (structs : List StructDef) (c : Context) → IsHere structs c → (s : Simple) → (simple c.env s).refusals ≡ []
    → (temps : List Temp)
    → GoodPiece structs c temps (lowered.simple c s temps)
simple_good structs c here (Simple.Assign left op right) e temps =
    let aim = nil_left _ _ e in
    assign_by_good structs c here (target c left)
    (target_good structs c here left (nil_left _ _ aim) (holds _ _ _ (nil_right _ _ aim))) op right
    (nil_left _ _ (nil_right _ _ e)) temps
simple_good structs c here (Simple.Step left op) e temps =
    let aim = nil_left _ _ e in
    update_good structs c here (target c left) (target_good structs c here left (nil_left _ _ aim) (holds _ _ _ (nil_right _ _ aim)))
    (step_by op) false
    (at_hand c Int (Num (pos 1))) (one_good structs c here) temps
simple_good structs c here (Simple.Perform callee args) e temps =
    let a = arguments_of structs c here callee args e temps in
    let k = callable_with structs c here callee args e temps in
    record {
      behind = a.behind;
      code = code_before (world structs c) _ _ _ (omega arith) a.code
          (code_command (world structs c) _ c.line _ here.line (λ total next f. ((tt, k.few, a.operands, f, k.name), k.fits)));
    }
simple_good structs c here (Simple.Free place pointer) e temps =
    let accepted = nil_left _ _ e in
    let v = (lowering_good structs c here pointer accepted).good.value temps in
    free_by_good structs c here (lowering c pointer).kind temps ((lowering c pointer).value temps) v _ v.operand
    (can_be_freed structs c here pointer accepted (holds _ _ _ (nil_right _ _ e)) temps)

-- RETURN

pub returned_good : (structs : List StructDef) (c : Context) → IsHere structs c → (value : Option Expr)
    → IfSome value (λ e. whole_refusals c.env e ≡ []) → (temps : List Temp) → GoodPiece structs c temps (returned c value temps)
returned_good structs c here None e temps = record {
  behind = behind_self temps;
  code = code_command (world structs c) _ c.line _ here.line (λ total next f. (tt, tt));
}
returned_good structs c here (Some value) e temps =
    let v = (wanted_good structs c here c.result here.result value e).value temps in
    record {
      behind = v.behind;
      code = code_before (world structs c) _ _ _ (omega arith) v.code
          (code_command (world structs c) _ c.line _ here.line (λ total next f. (v.operand, tt)));
    }

-- INITIALIZERS

pub initial_good : (structs : List StructDef) (c : Context) → IsHere structs c → (to : ℕ) → to < c.first_temp → (kind : Ty) → IsTy kind
    → (value : Option Expr)
    → IfSome value (λ e. whole_refusals c.env e ≡ []) → (temps : List Temp) → GoodPiece structs c temps (initial c to kind value temps)
initial_good structs c here to lt kind k None e temps = record {
  behind = behind_self temps;
  code = code_command (world structs c) _ c.line _ here.line (λ total next f. ((omega arith, f, k), tt));
}
initial_good structs c here to lt kind k (Some value) e temps = (whole_good structs c here value e).into to temps lt
