-- Arguments, from the left.
use Rattle.std.proofs.Common.{◌≡◌, ℕ, zero, suc, ◌<◌, ◌≤◌, List, [], ◌∷◌, ◌++◌, length, get_or, refl, sym, ap, ◌∙◌, subst, arith}
use Rattle.shape_data.specs.declared.program.Operand.{Operand}
use Rattle.c_grammar.specs.Trees as tree
use Rattle.c_tree.specs.declared.exprs.Expr.{Expr}
use Rattle.c_tree.specs.Syntax.{expr_tree, args_of, args_tree}
use Rattle.c_lower_rules.specs.Contexts.{Context}
use Rattle.c_lower_rules.specs.Expressions.{Arguments, with_argument, arguments, no_arguments, lowering, lowerings}
use Rattle.c_lower_rules.specs.Numbers.{HasIntNumbers, AllHaveIntNumbers}
use Rattle.c_lower_emit.specs.declared.uses.Use.TheVariants.{Value}
use Rattle.c_lower_emit.specs.Emitting.{Out, HasRoom, EmitsStraight}
use Rattle.c_lower_emit.proofs.Joining.{room_first, room_then, straight_none, straight_then}
use Rattle.c_lower_exprs.specs.declared.members.Found.{Found}
use Rattle.c_lower_exprs.specs.Lowered.{IsLowered, EmitsArguments}
use Rattle.c_lower_exprs.proofs.Weights.{weight, args_weight}

-- some arguments were emitted; what is left are these
pub record ArgumentsSoFar (c : Context) (first : ℕ) (all left : List tree.Expr) (old now : Out) (operands : List Operand) : Type 0 where
  pub before : Arguments
  pub emits : EmitsArguments before first old now operands
  pub same : arguments before (lowerings c (args_of left)) ≡ arguments (no_arguments old.temps) (lowerings c (args_of all))
  pub numbers : AllHaveIntNumbers (args_of left)

pub arguments_none : (c : Context) (first : ℕ) (all : List tree.Expr) (old : Out) → AllHaveIntNumbers (args_of all)
    → ArgumentsSoFar c first all all old old []
arguments_none c first all old h =
    record { before = no_arguments old.temps; emits = λ room. (straight_none old, refl); same = refl; numbers = h }

pub arguments_begun : (c : Context) (first : ℕ) (all left : List tree.Expr) (old : Out) (operands : List Operand) → all ≡ left
    → operands ≡ [] → AllHaveIntNumbers (args_of all)
    → ArgumentsSoFar c first all left old old operands
arguments_begun c first all left old operands same none h =
    subst (λ xs. ArgumentsSoFar c first all xs old old operands) same
    (subst (λ os. ArgumentsSoFar c first all all old old os) (sym none) (arguments_none c first all old h))

pub arguments_more : (c : Context) (first : ℕ) (all left others : List tree.Expr) (e : tree.Expr) (old now new : Out)
    (operands more : List Operand) (found : Found)
    → left ≡ e ∷ others → ArgumentsSoFar c first all left old now operands
    → (HasIntNumbers e → IsLowered Value (lowering c e) first now new found) → more ≡ operands ++ found.operand ∷ []
    → ArgumentsSoFar c first all others old new more
arguments_more c first all left others e old now new operands more found parts h lowers is =
    let numbers = subst (λ es. AllHaveIntNumbers (args_of es)) parts h.numbers in
    let l = lowers numbers.0 in
    record {
      before = with_argument h.before ((lowering c e).value h.before.temps);
      emits = λ room.
          let b = h.before.code in
          let v = (lowering c e).value h.before.temps in
          let k = h.emits (room_first first b.size v.code.size old room) in
          let m = subst (λ ts. HasRoom first ((lowering c e).value ts).code.size now
          → EmitsStraight ((lowering c e).value ts).code ((lowering c e).value ts).temps now new
          × (found.operand ≡ ((lowering c e).value ts).operand)) k.0.grows.temps l.emits
          (room_then first b.size v.code.size old now room k.0.grows) in (
            straight_then b v.code h.before.temps v.temps old now new k.0 m.0,
            is ∙ ap (λ os. os ++ found.operand ∷ []) k.1 ∙ ap (λ o. h.before.operands ++ o ∷ []) m.1,
          );
      same = ap (λ es. arguments h.before (lowerings c (args_of es))) (sym parts) ∙ h.same;
      numbers = numbers.1;
    }

pub arguments_all : (c : Context) (first : ℕ) (all left : List tree.Expr) (old now : Out) (operands : List Operand) → left ≡ []
    → ArgumentsSoFar c first all left old now operands
    → EmitsArguments (arguments (no_arguments old.temps) (lowerings c (args_of all))) first old now operands
arguments_all c first all left old now operands none h =
    subst (λ a. EmitsArguments a first old now operands)
    (ap (λ es. arguments h.before (lowerings c (args_of es))) (sym none) ∙ h.same) h.emits

-- each weighs no more than all
pub each_weighs : (args : List Expr) (i : ℕ) (d : Expr) → i < length args
    → weight (expr_tree (get_or args i d)) ≤ args_weight (args_tree args)
each_weighs [] i d = λ lt. absurd (omega (arith, lt))
each_weighs (e ∷ es) zero d = λ lt. omega arith
each_weighs (e ∷ es) (suc i) d = λ lt. let h = each_weighs es i d (omega (arith, lt)) in omega (arith, h)
