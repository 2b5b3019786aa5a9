-- What a statement adds, subtracts or multiplies by.
use Rattle.std.specs.Prelude.{Bool, false, pos}
use Rattle.shape_data.specs.declared.program.Operand.TheVariants.{Num}
use Rattle.shape_data.specs.declared.program.Ty.TheVariants.{Int}
use Rattle.c_tree.specs.Syntax.{expr_tree}
use Rattle.c_lower_rules.specs.Contexts.{Context}
use Rattle.c_lower_rules.specs.Values.{Lowering, at_hand}
use Rattle.c_lower_rules.specs.Expressions.{lowering}
use Rattle.c_lower_rules.specs.Statements.{is_call}
use Rattle.c_lower_rules.specs.Numbers.{HasIntNumbers}
use Rattle.c_lower_stmts.specs.declared.updating.Amount.{Amount}
use Rattle.c_lower_stmts.specs.declared.updating.Amount.TheVariants.{One, Of}

-- the amount as an expression
abbrev pub amount : Context → Amount → Lowering
amount c One = at_hand c Int (Num (pos 1))
amount c (Of value) = lowering c (expr_tree value.now)

-- it is a call
abbrev pub amount_is_call : Amount → Bool
amount_is_call One = false
amount_is_call (Of value) = is_call (expr_tree value.now)

-- its numbers are values of an int
abbrev pub AmountHasIntNumbers : Amount → Type 0
AmountHasIntNumbers One = Unit {0}
AmountHasIntNumbers (Of value) = HasIntNumbers (expr_tree value.now)
