-- The typing rules of expressions: which type an expression has, and what is refused in it. A rule refuses nothing on
-- account of a type that is not known.
use Rattle.std.specs.Prelude.{ℕ, zero, suc, Bool, true, false, ◌&&◌, ◌||◌, not, Option, Some, None, List, [], ◌∷◌, ◌++◌, if◌then◌else◌}
use Rattle.shape_data.specs.declared.program.Ty.TheVariants.{Int, Ptr, Void}
use Rattle.c_grammar.specs.declared.tokens.places.Place.{Place}
use Rattle.c_grammar.specs.declared.tokens.places.Refusal.{Refusal}
use Rattle.c_grammar.specs.Tokens.Places.{refusal}
use Rattle.c_grammar.specs.Trees.{Name, Specifier, BinaryOp, PrefixOp, Expr, Links, Args}
use Rattle.c_grammar.specs.FirstPlaces.{place_of_expr}
use Rattle.c_types_rules.specs.Types.{Kind, may_agree, may_be_int, may_be_scalar, may_be_compared, unless, UNDECLARED, CLASH, ARGUMENTS}
use Rattle.c_types_rules.specs.Types.{LEFT_OUT}
use Rattle.c_types_rules.specs.Tables.{Tables, Procedure, FieldKind, procedure_in, is_defined, pointer_of, names_structure, field_of}
use Rattle.c_types_rules.specs.Tables.{param_kinds, kind_of_result}
use Rattle.c_types_rules.specs.Scopes.{Env, Variable, variable, specifier_refusals_in, pointer_in}

abbrev pub kind_of_variable : Option Variable → Kind
kind_of_variable None = None
kind_of_variable (Some found) = found.kind

abbrev pub kind_of_field : Option FieldKind → Kind
kind_of_field None = None
kind_of_field (Some found) = found.kind

abbrev pub kind_of_call : Tables → Option Procedure → Kind
kind_of_call tables None = None
kind_of_call tables (Some found) = kind_of_result tables found.head

-- the type of a field of what a pointer points to (C11 6.5.2.3)
abbrev pub kind_of_member : Tables → Kind → Name → Kind
kind_of_member tables (Some (Ptr tag)) field = kind_of_field (field_of tables tag field.text)
kind_of_member tables _ field = None

abbrev pub kind_of_members : Tables → Kind → List Name → Kind
kind_of_members tables kind [] = kind
kind_of_members tables kind (first ∷ others) = kind_of_members tables (kind_of_member tables kind first) others

-- an int, where an operand is known to be one
abbrev pub int_of : Kind → Kind
int_of (Some Int) = Some Int
int_of _ = None

-- what an operator gives (C11 6.5.5 to 6.5.14): an int. Where an operand of `+`, `-` or `*` is no int, or not known, the type is
-- not known
abbrev pub kind_of_binary : BinaryOp → Kind → Kind → Kind
kind_of_binary BinaryOp.Add left right = elim (int_of left) [ None ↦ None | Some kind ↦ int_of right ]
kind_of_binary BinaryOp.Subtract left right = elim (int_of left) [ None ↦ None | Some kind ↦ int_of right ]
kind_of_binary BinaryOp.Multiply left right = elim (int_of left) [ None ↦ None | Some kind ↦ int_of right ]
kind_of_binary _ left right = Some Int

abbrev pub kind_of_prefix : PrefixOp → Kind → Kind
kind_of_prefix PrefixOp.Negate kind = int_of kind
kind_of_prefix PrefixOp.Not kind = Some Int

abbrev mutual
  -- the type of an expression
  pub kind_of : Env → Expr → Kind
  kind_of env (Expr.Chain first others) = kind_of_chain env (kind_of env first) others
  kind_of env (Expr.Prefix place op inner) = kind_of_prefix op (kind_of env inner)
  kind_of env (Expr.Members base first others) = kind_of_members env.tables (kind_of env base) (first ∷ others)
  kind_of env (Expr.Variable n) = kind_of_variable (variable env n.text)
  kind_of env (Expr.Number place value) = Some Int
  kind_of env (Expr.Null place) = Some Int
  kind_of env (Expr.Paren place inner) = kind_of env inner
  kind_of env (Expr.Call callee args) = kind_of_call env.tables (procedure_in env.tables.procedures callee.text)
  kind_of env (Expr.Malloc place as_type allocated) = pointer_of env.tables allocated

  -- the type of operands with more operators and operands behind them
  pub kind_of_chain : Env → Kind → Links → Kind
  kind_of_chain env kind Links.NoLinks = kind
  kind_of_chain env kind (Links.Link op operand others) = kind_of_chain env (kind_of_binary op kind (kind_of env operand)) others

abbrev pub is_zero : ℕ → Bool
is_zero zero = true
is_zero (suc more) = false

-- `NULL` or the number 0, parentheses aside: a null pointer of any type, too (C11 6.3.2.3)
abbrev pub is_null : Expr → Bool
is_null (Expr.Number place value) = is_zero value
is_null (Expr.Null place) = true
is_null (Expr.Paren place inner) = is_null inner
is_null _ = false

-- what an expression gives where its value is used: `malloc` gives a pointer to any structure, and behind a cast the cast's
-- pointer, whatever structure it makes (C11 6.5.4, 7.22.3.4)
pub data Given : Type 0 where
  OfKind : Kind → Given
  AnyPointer : Given

abbrev pub given_by_malloc : Env → Option Specifier → Given
given_by_malloc env None = AnyPointer
given_by_malloc env (Some as_type) = OfKind (pointer_in env as_type)

abbrev pub given_by : Env → Expr → Given
given_by env (Expr.Paren place inner) = given_by env inner
given_by env (Expr.Malloc place as_type allocated) = given_by_malloc env as_type
given_by env other = OfKind (kind_of env other)

abbrev pub may_be_pointer : Kind → Bool
may_be_pointer (Some (Ptr tag)) = true
may_be_pointer (Some other) = false
may_be_pointer None = true

-- what is given may be assigned to an object of the type (C11 6.5.16.1); nothing takes what a void procedure gives
abbrev pub may_take : Kind → Given → Bool → Bool
may_take wanted AnyPointer null = may_be_pointer wanted
may_take wanted (OfKind (Some Void)) null = false
may_take wanted (OfKind kind) null = may_agree wanted kind || (null && may_be_pointer wanted)

-- the expression may be assigned to an object of the type
abbrev pub fits : Env → Kind → Expr → Bool
fits env wanted value = may_take wanted (given_by env value) (is_null value)

abbrev pub gives_int : Given → Bool
gives_int AnyPointer = false
gives_int (OfKind kind) = may_be_int kind

abbrev pub gives_scalar : Given → Bool
gives_scalar AnyPointer = true
gives_scalar (OfKind kind) = may_be_scalar kind

abbrev pub gives_pointer : Given → Bool
gives_pointer AnyPointer = true
gives_pointer (OfKind kind) = may_be_pointer kind

-- what `==` and `!=` take (C11 6.5.9): two ints, two pointers to one structure, or a pointer and a null pointer
abbrev pub give_equals : Given → Bool → Given → Bool → Bool
give_equals AnyPointer left_null right right_null = gives_pointer right || right_null
give_equals left left_null AnyPointer right_null = gives_pointer left || left_null
give_equals (OfKind left) left_null (OfKind right) right_null = may_be_compared left left_null right right_null

-- two operands may stand by the operator
abbrev pub may_stand_by : BinaryOp → Given → Bool → Given → Bool → Bool
may_stand_by BinaryOp.Or left left_null right right_null = gives_scalar left && gives_scalar right
may_stand_by BinaryOp.And left left_null right right_null = gives_scalar left && gives_scalar right
may_stand_by BinaryOp.Equal left left_null right right_null = give_equals left left_null right right_null
may_stand_by BinaryOp.NotEqual left left_null right right_null = give_equals left left_null right right_null
may_stand_by _ left left_null right right_null = gives_int left && gives_int right

-- an operand may stand behind the operator
abbrev pub may_stand_behind : PrefixOp → Given → Bool
may_stand_behind PrefixOp.Negate given = gives_int given
may_stand_behind PrefixOp.Not given = gives_scalar given

-- a field that a structure lacks is not declared; of a structure that is not defined the tag is refused, where it is named
abbrev pub lacks : Tables → List ℕ → Option FieldKind → Bool
lacks tables tag None = is_defined tables tag
lacks tables tag (Some found) = false

-- a member is one of the structure that the pointer before it points to; the place is that of the expression
abbrev pub member_refusals : Tables → Place → Kind → Name → List Refusal
member_refusals tables place None field = []
member_refusals tables place (Some (Ptr tag)) field =
    unless (not (lacks tables tag (field_of tables tag field.text))) field.place UNDECLARED
member_refusals tables place (Some other) field = refusal place CLASH ∷ []

abbrev pub members_refusals : Tables → Place → Kind → List Name → List Refusal
members_refusals tables place kind [] = []
members_refusals tables place kind (first ∷ others) =
    member_refusals tables place kind first ++ members_refusals tables place (kind_of_member tables kind first) others

-- `malloc` makes a structure, and a cast is to a pointer to one
abbrev pub cast_refusals : Env → Place → Option Specifier → List Refusal
cast_refusals env place None = []
cast_refusals env place (Some as_type) = specifier_refusals_in env as_type ++ unless (names_structure as_type) place LEFT_OUT

abbrev pub malloc_refusals : Env → Place → Option Specifier → Specifier → List Refusal
malloc_refusals env place as_type allocated =
    cast_refusals env place as_type ++ specifier_refusals_in env allocated ++ unless (names_structure allocated) place LEFT_OUT

-- as many arguments as parameters
abbrev pub same_number : List Kind → Args → Bool
same_number [] Args.NoArgs = true
same_number (kind ∷ kinds) (Args.Arg first others) = same_number kinds others
same_number _ _ = false

-- each argument may be assigned to its parameter (C11 6.5.2.2)
abbrev pub all_fit : Env → List Kind → Args → Bool
all_fit env (kind ∷ kinds) (Args.Arg first others) = fits env kind first && all_fit env kinds others
all_fit env _ _ = true

-- a name that is called is a procedure's, with as many arguments as it has parameters, and with types that agree
abbrev pub callee_refusals : Env → Option Procedure → Name → Args → List Refusal
callee_refusals env None callee args = refusal callee.place UNDECLARED ∷ []
callee_refusals env (Some found) callee args =
    if same_number (param_kinds env.tables found.head.params) args
    then unless (all_fit env (param_kinds env.tables found.head.params) args) callee.place CLASH
    else (refusal callee.place ARGUMENTS ∷ [])

abbrev mutual
  -- what is refused in an expression where no call and no `malloc` may stand
  pub expr_refusals : Env → Expr → List Refusal
  expr_refusals env (Expr.Chain first others) =
      expr_refusals env first ++ links_refusals env (place_of_expr first) (kind_of env first) (given_by env first) (is_null first) others
  expr_refusals env (Expr.Prefix place op inner) = expr_refusals env inner ++ unless (may_stand_behind op (given_by env inner)) place CLASH
  expr_refusals env (Expr.Members base first others) =
      expr_refusals env base ++ members_refusals env.tables (place_of_expr base) (kind_of env base) (first ∷ others)
  expr_refusals env (Expr.Variable n) = elim (variable env n.text) [ None ↦ refusal n.place UNDECLARED ∷ [] | Some found ↦ [] ]
  expr_refusals env (Expr.Number place value) = []
  expr_refusals env (Expr.Null place) = []
  expr_refusals env (Expr.Paren place inner) = expr_refusals env inner
  expr_refusals env (Expr.Call callee args) =
      refusal callee.place LEFT_OUT ∷ args_refusals env args
      ++ callee_refusals env (procedure_in env.tables.procedures callee.text) callee args
  expr_refusals env (Expr.Malloc place as_type allocated) = refusal place LEFT_OUT ∷ malloc_refusals env place as_type allocated

  -- the other operands of a chain, behind operands of this type that give this; all of the chain's expressions begin at the
  -- place
  pub links_refusals : Env → Place → Kind → Given → Bool → Links → List Refusal
  links_refusals env place kind given null Links.NoLinks = []
  links_refusals env place kind given null (Links.Link op operand others) =
      expr_refusals env operand ++ unless (may_stand_by op given null (given_by env operand) (is_null operand)) place CLASH
      ++ links_refusals env place (kind_of_binary op kind (kind_of env operand))
      (OfKind (kind_of_binary op kind (kind_of env operand))) false others

  pub args_refusals : Env → Args → List Refusal
  args_refusals env Args.NoArgs = []
  args_refusals env (Args.Arg first others) = expr_refusals env first ++ args_refusals env others

-- a call, where one may stand
abbrev pub call_refusals : Env → Name → Args → List Refusal
call_refusals env callee args = args_refusals env args ++ callee_refusals env (procedure_in env.tables.procedures callee.text) callee args

-- what is refused in an expression that may be a call or `malloc` as a whole, parentheses aside: the right side of an assignment
-- or an initialiser, or the operand of `return`
abbrev pub whole_refusals : Env → Expr → List Refusal
whole_refusals env (Expr.Paren place inner) = whole_refusals env inner
whole_refusals env (Expr.Call callee args) = call_refusals env callee args
whole_refusals env (Expr.Malloc place as_type allocated) = malloc_refusals env place as_type allocated
whole_refusals env other = expr_refusals env other
