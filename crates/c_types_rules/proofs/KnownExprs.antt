-- Where the tables and the variables are sound and nothing is refused in an expression, the types of the expressions in it are known.
use Rattle.std.proofs.Common.{◌≡◌, ℕ, Bool, true, false, List, [], ◌∷◌, ◌++◌, refl, subst}
use Rattle.std.specs.Prelude.{◌&&◌, not, Option, Some, None, IfSome}
use Rattle.std.specs.List.{AllByRecursion}
use Rattle.std.specs.Str.{bytes_eq}
use Rattle.shape_data.specs.declared.program.Ty.TheVariants.{Int, Ptr}
use Rattle.c_grammar.specs.declared.tokens.places.Place.{Place}
use Rattle.c_grammar.specs.declared.tokens.places.Refusal.{Refusal}
use Rattle.c_grammar.specs.Tokens.Places.{refusal}
use Rattle.c_grammar.specs.Trees.{Name, BinaryOp, PrefixOp, Expr, Links, Args}
use Rattle.c_grammar.specs.FirstPlaces.{place_of_expr}
use Rattle.c_types_rules.specs.Types.{Kind, IsKnown, may_be_int, UNDECLARED}
use Rattle.c_types_rules.specs.Tables.{Procedure, Tables, FieldKind, procedure_in, is_defined, pointer_of, field_of}
use Rattle.c_types_rules.specs.Scopes.{Variable, Env, variable_in, variable}
use Rattle.c_types_rules.specs.Expressions.{kind_of_variable, kind_of_field, kind_of_call, kind_of_member, kind_of_members, int_of}
use Rattle.c_types_rules.specs.Expressions.{kind_of_binary, kind_of_prefix, kind_of, kind_of_chain, is_null, Given, given_by, may_stand_by}
use Rattle.c_types_rules.specs.Expressions.{may_stand_behind, lacks, member_refusals, members_refusals, callee_refusals, expr_refusals}
use Rattle.c_types_rules.specs.Expressions.{links_refusals, args_refusals, call_refusals, whole_refusals}
use Rattle.c_types_rules.specs.Kinds.{link_kinds, member_kinds, first_kinds, later_kinds, operand_kinds, arg_kinds, kinds}
use Rattle.c_types_rules.proofs.KnownTables.{nil_left, nil_right, holds, all_append, look_up, IsSound, known_of, named_sound, IsFieldSound}
use Rattle.c_types_rules.proofs.KnownTables.{IsProcedureSound, SoundTables, procedure_sound, field_sound}

abbrev pub AreKnown : List Kind → Type 0
AreKnown all = AllByRecursion IsKnown all

abbrev pub IsVariableSound : Tables → Variable → Type 0
IsVariableSound tables one = IsSound tables one.kind

pub record SoundEnv (env : Env) : Type 0 where
  pub tables : SoundTables env.tables
  pub variables : AllByRecursion (IsVariableSound env.tables) (env.scopes.here ++ env.scopes.around)

pub record KnownExpr (env : Env) (e : Expr) : Type 0 where
  pub firsts : AreKnown (first_kinds env e)
  pub laters : AreKnown (later_kinds env e)
  pub own : IsSound env.tables (kind_of env e)

-- the operators and operands of a chain, behind an operand of this type
record KnownLinks (env : Env) (kind : Kind) (others : Links) : Type 0 where
  firsts : AreKnown (link_kinds env kind others)
  laters : AreKnown (operand_kinds env others)
  own : IsSound env.tables (kind_of_chain env kind others)

variable_in_sound : (tables : Tables) (all : List Variable) → AllByRecursion (IsVariableSound tables) all → (n : List ℕ)
    → IfSome (variable_in all n) (IsVariableSound tables)
variable_in_sound tables [] h n = tt
variable_in_sound tables (first ∷ others) h n =
    look_up (IsVariableSound tables) (bytes_eq first.name n) first (variable_in others n) h.0 (variable_in_sound tables others h.1 n)

found_variable : (tables : Tables) (found : Option Variable) (one : Refusal) → IfSome found (IsVariableSound tables)
    → (elim found as (λ _. List Refusal) [ None ↦ one ∷ [] | Some f ↦ [] ]) ≡ [] → IsSound tables (kind_of_variable found)
found_variable tables None one h e = absurd (cc)
found_variable tables (Some found) one h e = h

found_field : (tables : Tables) (tag : List ℕ) (found : Option FieldKind) → is_defined tables tag ≡ true
    → IfSome found (IsFieldSound tables)
    → not (lacks tables tag found) ≡ true → IsSound tables (kind_of_field found)
found_field tables tag None h k e = absurd (clash (is_defined tables tag) h e)
  where
    clash : (b : Bool) → b ≡ true → not b ≡ true → ⊥
    clash true h e = cc
    clash false h e = cc
found_field tables tag (Some found) h k e = k

found_procedure : (env : Env) (found : Option Procedure) (callee : Name) (args : Args) → IfSome found (IsProcedureSound env.tables)
    → callee_refusals env found callee args ≡ [] → IsSound env.tables (kind_of_call env.tables found)
found_procedure env None callee args h e = absurd (cc)
found_procedure env (Some found) callee args h e = h

pub member_sound : (tables : Tables) → SoundTables tables → (place : Place) (kind : Kind) (field : Name) → IsSound tables kind
    → member_refusals tables place kind field ≡ [] → IsSound tables (kind_of_member tables kind field)
member_sound tables known place None field h e = absurd h
member_sound tables known place (Some (Ptr tag)) field h e =
    found_field tables tag (field_of tables tag field.text) h (field_sound tables known tag field.text) (holds _ _ _ e)
member_sound tables known place (Some other) field h e = absurd (cc)

-- the types behind each `->`, and the last of them
members_known : (tables : Tables) → SoundTables tables → (place : Place) (kind : Kind) (names : List Name) → IsSound tables kind
    → members_refusals tables place kind names ≡ []
    → AreKnown (member_kinds tables kind names) × IsSound tables (kind_of_members tables kind names)
members_known tables known place kind [] h e = (tt, h)
members_known tables known place kind (first ∷ others) h e =
    let next = member_sound tables known place kind first h (nil_left _ _ e) in
    let behind = members_known tables known place (kind_of_member tables kind first) others next (nil_right _ _ e) in
    ((known_of tables (kind_of_member tables kind first) next, behind.0), behind.1)

-- OPERATORS

-- where nothing is refused in an expression, it is no `malloc`
pub gives_kind : (env : Env) (e : Expr) → expr_refusals env e ≡ [] → given_by env e ≡ Given.OfKind (kind_of env e)
gives_kind env (Expr.Paren place inner) h = gives_kind env inner h
gives_kind env (Expr.Malloc place as_type allocated) h = absurd (cc)
gives_kind env other h = refl

ints_sound : (tables : Tables) (left right : Kind) → IsSound tables left → IsSound tables right
    → (may_be_int left && may_be_int right) ≡ true
    → IsSound tables (elim (int_of left) [ None ↦ None | Some kind ↦ int_of right ])
ints_sound tables None right h k e = absurd h
ints_sound tables (Some Int) None h k e = absurd k
ints_sound tables (Some Int) (Some Int) h k e = tt
ints_sound tables (Some Int) (Some other) h k e = absurd (cc)
ints_sound tables (Some other) right h k e = absurd (cc)

pub binary_sound : (tables : Tables) (op : BinaryOp) (left : Kind) (left_null : Bool) (right : Kind) (right_null : Bool)
    → IsSound tables left → IsSound tables right
    → may_stand_by op (Given.OfKind left) left_null (Given.OfKind right) right_null ≡ true → IsSound tables (kind_of_binary op left right)
binary_sound tables BinaryOp.Add left left_null right right_null h k e = ints_sound tables left right h k e
binary_sound tables BinaryOp.Subtract left left_null right right_null h k e = ints_sound tables left right h k e
binary_sound tables BinaryOp.Multiply left left_null right right_null h k e = ints_sound tables left right h k e
binary_sound tables _ left left_null right right_null h k e = tt

prefix_sound : (tables : Tables) (op : PrefixOp) (kind : Kind) → IsSound tables kind → may_stand_behind op (Given.OfKind kind) ≡ true
    → IsSound tables (kind_of_prefix op kind)
prefix_sound tables PrefixOp.Negate None h e = absurd h
prefix_sound tables PrefixOp.Negate (Some Int) h e = tt
prefix_sound tables PrefixOp.Negate (Some other) h e = absurd (cc)
prefix_sound tables PrefixOp.Not kind h e = tt

-- EXPRESSIONS

pub kinds_known : (env : Env) (e : Expr) → KnownExpr env e → AreKnown (kinds env e)
kinds_known env e h = all_append IsKnown (first_kinds env e) (later_kinds env e) h.firsts h.laters

alone_known : (env : Env) (kind : Kind) → IsSound env.tables kind → AreKnown (kind ∷ [])
alone_known env kind h = (known_of env.tables kind h, tt)

paren_known : (env : Env) (place : Place) (inner : Expr) → KnownExpr env inner → KnownExpr env (Expr.Paren place inner)
paren_known env place inner h = record { firsts = alone_known env (kind_of env inner) h.own; laters = kinds_known env inner h; own = h.own }

mutual
  pub plain_known : (env : Env) → SoundEnv env → (e : Expr) → expr_refusals env e ≡ [] → KnownExpr env e
  plain_known env known (Expr.Chain first others) e =
      let one = plain_known env known first (nil_left _ _ e) in
      let behind = links_known env known (place_of_expr first) (kind_of env first) (is_null first) others one.own
      (subst (λ (given : Given). links_refusals env (place_of_expr first) (kind_of env first) given (is_null first) others ≡ [])
      (gives_kind env first (nil_left _ _ e)) (nil_right _ _ e)) in
      record {
        firsts = all_append IsKnown (first_kinds env first) (link_kinds env (kind_of env first) others) one.firsts behind.firsts;
        laters = all_append IsKnown (later_kinds env first) (operand_kinds env others) one.laters behind.laters;
        own = behind.own;
      }
  plain_known env known (Expr.Prefix place op inner) e =
      let one = plain_known env known inner (nil_left _ _ e) in
      let own = prefix_sound env.tables op (kind_of env inner) one.own
      (subst (λ (given : Given). may_stand_behind op given ≡ true) (gives_kind env inner (nil_left _ _ e))
      (holds _ _ _ (nil_right _ _ e))) in
      record { firsts = alone_known env (kind_of_prefix op (kind_of env inner)) own; laters = kinds_known env inner one; own = own }
  plain_known env known (Expr.Members base first others) e =
      let one = plain_known env known base (nil_left _ _ e) in
      let behind =
      members_known env.tables known.tables (place_of_expr base) (kind_of env base) (first ∷ others) one.own (nil_right _ _ e) in
      record {
        firsts =
            all_append IsKnown (first_kinds env base) (member_kinds env.tables (kind_of env base) (first ∷ others)) one.firsts behind.0;
        laters = one.laters;
        own = behind.1;
      }
  plain_known env known (Expr.Variable n) e =
      let one =
      found_variable env.tables (variable env n.text) (refusal n.place UNDECLARED)
      (variable_in_sound env.tables (env.scopes.here ++ env.scopes.around) known.variables n.text) e in
      record { firsts = alone_known env (kind_of_variable (variable env n.text)) one; laters = tt; own = one }
  plain_known env known (Expr.Number place value) e = record { firsts = (tt, tt); laters = tt; own = tt }
  plain_known env known (Expr.Null place) e = record { firsts = (tt, tt); laters = tt; own = tt }
  plain_known env known (Expr.Paren place inner) e = paren_known env place inner (plain_known env known inner e)
  plain_known env known (Expr.Call callee args) e = absurd (cc)
  plain_known env known (Expr.Malloc place as_type allocated) e = absurd (cc)

  links_known : (env : Env) → SoundEnv env → (place : Place) (kind : Kind) (null : Bool) (others : Links) → IsSound env.tables kind
      → links_refusals env place kind (Given.OfKind kind) null others ≡ [] → KnownLinks env kind others
  links_known env known place kind null Links.NoLinks h e = record { firsts = tt; laters = tt; own = h }
  links_known env known place kind null (Links.Link op operand others) h e =
      let accepted = nil_left _ _ (nil_left _ _ e) in
      let one = plain_known env known operand accepted in
      let next = kind_of_binary op kind (kind_of env operand) in
      let sound = binary_sound env.tables op kind null (kind_of env operand) (is_null operand) h one.own
      (subst (λ (given : Given). may_stand_by op (Given.OfKind kind) null given (is_null operand) ≡ true) (gives_kind env operand accepted)
      (holds _ _ _ (nil_right (expr_refusals env operand) _ (nil_left _ _ e)))) in
      let behind = links_known env known place next false others sound (nil_right _ _ e) in
      record {
        firsts = (known_of env.tables next sound, behind.firsts);
        laters = all_append IsKnown (kinds env operand) (operand_kinds env others) (kinds_known env operand one) behind.laters;
        own = behind.own;
      }

  pub args_known : (env : Env) → SoundEnv env → (args : Args) → args_refusals env args ≡ [] → AreKnown (arg_kinds env args)
  args_known env known Args.NoArgs e = tt
  args_known env known (Args.Arg first others) e =
      all_append IsKnown (kinds env first) (arg_kinds env others) (kinds_known env first (plain_known env known first (nil_left _ _ e)))
      (args_known env known others (nil_right _ _ e))

pub call_sound : (env : Env) → SoundEnv env → (callee : Name) (args : Args) → call_refusals env callee args ≡ []
    → IsSound env.tables (kind_of_call env.tables (procedure_in env.tables.procedures callee.text))
call_sound env known callee args e =
    found_procedure env (procedure_in env.tables.procedures callee.text) callee args
    (procedure_sound env.tables env.tables.procedures known.tables.procedures callee.text) (nil_right (args_refusals env args) _ e)

pub whole_known : (env : Env) → SoundEnv env → (e : Expr) → whole_refusals env e ≡ [] → KnownExpr env e
whole_known env known (Expr.Paren place inner) e = paren_known env place inner (whole_known env known inner e)
whole_known env known (Expr.Call callee args) e =
    let one = call_sound env known callee args e in
    record {
      firsts = alone_known env (kind_of_call env.tables (procedure_in env.tables.procedures callee.text)) one;
      laters = args_known env known args (nil_left _ _ e);
      own = one;
    }
whole_known env known (Expr.Malloc place as_type allocated) e =
    let one =
    named_sound env.tables known.tables.aliases allocated (nil_left _ _ (nil_right _ _ (nil_left _ _ e))) (holds _ _ _ (nil_right _ _ e)) in
    record { firsts = alone_known env (pointer_of env.tables allocated) one; laters = tt; own = one }
whole_known env known other e = plain_known env known other e
