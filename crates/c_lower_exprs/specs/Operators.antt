-- What an operator does with its operands.
use Rattle.c_lower_rules.specs.Contexts.{Context}
use Rattle.c_lower_rules.specs.Values.{Lowering}
use Rattle.c_lower_rules.specs.Expressions.{arithmetic, comparison, conjunction, disjunction}
use Rattle.c_lower_exprs.specs.declared.values.Operation.{Operation}
use Rattle.c_lower_exprs.specs.declared.values.Operation.TheVariants.{Arith, Compare, Both, Either}

-- what an operation makes of its operands
abbrev pub binary_of : Context → Operation → Lowering → Lowering → Lowering
binary_of c (Arith op) l r = arithmetic c op l r
binary_of c (Compare op) l r = comparison c op l r
binary_of c Both l r = conjunction c l r
binary_of c Either l r = disjunction c l r
