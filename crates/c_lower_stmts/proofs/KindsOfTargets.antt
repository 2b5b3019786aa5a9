-- The type that an expression has by the typing rules is that of its code.
use Rattle.std.proofs.Common.{◌≡◌, List, [], ◌∷◌, refl, sym, ap, ◌∙◌, subst}
use Rattle.std.specs.Prelude.{Some, None}
use Rattle.shape_data.specs.declared.program.Ty.TheVariants.{Int, Ptr, Void}
use Rattle.c_grammar.specs.Trees.{Name, BinaryOp, PrefixOp, Expr, Links}
use Rattle.c_types_rules.specs.Types.{Kind}
use Rattle.c_types_rules.specs.Tables.{Tables}
use Rattle.c_types_rules.specs.Expressions.{kind_of_member, kind_of_members, int_of, kind_of_binary, kind_of_prefix, kind_of, kind_of_chain}
use Rattle.c_types_rules.specs.Programs.{known}
use Rattle.c_lower_rules.specs.Contexts.{Context}
use Rattle.c_lower_rules.specs.Values.{Lowering}
use Rattle.c_lower_rules.specs.Expressions.{field_behind, member, members, binary, prefix, lowering, chain}
use Rattle.c_lower_rules.specs.Statements.{member_target, target}
use Rattle.c_lower_stmts.specs.Targets.{IsFieldKind}

int_known : (kind : Kind) → known (int_of kind) ≡ Int
int_known None = refl
int_known (Some Int) = refl
int_known (Some (Ptr tag)) = refl
int_known (Some Void) = refl

two_known : (left right : Kind) → known (kind_of_binary BinaryOp.Add left right) ≡ Int
two_known left right = by_left (int_of left)
  where
    by_left : (k : Kind) → known (elim k [ None ↦ None | Some kind ↦ int_of right ]) ≡ Int
    by_left None = refl
    by_left (Some kind) = int_known right

binary_kind : (c : Context) (op : BinaryOp) (l r : Lowering) (left right : Kind)
    → (binary c op l r).kind ≡ known (kind_of_binary op left right)
binary_kind c BinaryOp.Or l r left right = refl
binary_kind c BinaryOp.And l r left right = refl
binary_kind c BinaryOp.Equal l r left right = refl
binary_kind c BinaryOp.NotEqual l r left right = refl
binary_kind c BinaryOp.Less l r left right = refl
binary_kind c BinaryOp.LessEqual l r left right = refl
binary_kind c BinaryOp.Greater l r left right = refl
binary_kind c BinaryOp.GreaterEqual l r left right = refl
binary_kind c BinaryOp.Add l r left right = sym (two_known left right)
binary_kind c BinaryOp.Subtract l r left right = sym (two_known left right)
binary_kind c BinaryOp.Multiply l r left right = sym (two_known left right)

prefix_kind : (c : Context) (op : PrefixOp) (l : Lowering) (kind : Kind) → (prefix c op l).kind ≡ known (kind_of_prefix op kind)
prefix_kind c PrefixOp.Negate l kind = sym (int_known kind)
prefix_kind c PrefixOp.Not l kind = refl

-- a type that is not known has no members, and neither has int
member_known : (tables : Tables) (kind : Kind) (field : Name)
    → kind_of_member tables (Some (known kind)) field ≡ kind_of_member tables kind field
member_known tables None field = refl
member_known tables (Some kind) field = refl

members_kind : (c : Context) (l : Lowering) (kind : Kind) (fields : List Name) → l.kind ≡ known kind
    → (members c l fields).kind ≡ known (kind_of_members c.env.tables kind fields)
members_kind c l kind [] is = is
members_kind c l kind (first ∷ others) is =
    members_kind c (member c l (field_behind c l.kind first)) (kind_of_member c.env.tables kind first) others
    (ap (λ k. known (kind_of_member c.env.tables (Some k) first)) is ∙ ap known (member_known c.env.tables kind first))

mutual
  kind_is : (c : Context) (e : Expr) → (lowering c e).kind ≡ known (kind_of c.env e)
  kind_is c (Expr.Chain first others) = chain_kind c (lowering c first) (kind_of c.env first) others (kind_is c first)
  kind_is c (Expr.Prefix place op inner) = prefix_kind c op (lowering c inner) (kind_of c.env inner)
  kind_is c (Expr.Members base first others) = members_kind c (lowering c base) (kind_of c.env base) (first ∷ others) (kind_is c base)
  kind_is c (Expr.Variable n) = refl
  kind_is c (Expr.Number place value) = refl
  kind_is c (Expr.Null place) = refl
  kind_is c (Expr.Paren place inner) = kind_is c inner
  kind_is c (Expr.Call callee args) = refl
  kind_is c (Expr.Malloc place as_type allocated) = refl

  chain_kind : (c : Context) (l : Lowering) (kind : Kind) (links : Links) → l.kind ≡ known kind
      → (chain c l links).kind ≡ known (kind_of_chain c.env kind links)
  chain_kind c l kind Links.NoLinks is = is
  chain_kind c l kind (Links.Link op operand others) is =
      chain_kind c (binary c op l (lowering c operand)) (kind_of_binary op kind (kind_of c.env operand)) others
      (binary_kind c op l (lowering c operand) kind (kind_of c.env operand))

-- the last field of a member has the type of the member
member_kind : (c : Context) (l : Lowering) (first : Name) (others : List Name) → IsFieldKind (member_target c l first others)
    (members c l (first ∷ others)).kind
member_kind c l first [] = refl
member_kind c l first (next ∷ others) = member_kind c (member c l (field_behind c l.kind first)) next others

target_kind : (c : Context) (e : Expr) → IsFieldKind (target c e) (lowering c e).kind
target_kind c (Expr.Chain first others) = tt
target_kind c (Expr.Prefix place op inner) = tt
target_kind c (Expr.Members base first others) = member_kind c (lowering c base) first others
target_kind c (Expr.Variable n) = tt
target_kind c (Expr.Number place value) = tt
target_kind c (Expr.Null place) = tt
target_kind c (Expr.Paren place inner) = target_kind c inner
target_kind c (Expr.Call callee args) = tt
target_kind c (Expr.Malloc place as_type allocated) = tt

pub known_target_kind : (c : Context) (e : Expr) → IsFieldKind (target c e) (known (kind_of c.env e))
known_target_kind c e = subst (IsFieldKind (target c e)) (kind_is c e) (target_kind c e)
