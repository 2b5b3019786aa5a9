-- The levels of operators, counted from `*`, and the levels of nesting.
use Rattle.std.specs.Prelude.{ℕ, zero, suc, Option, Some, None}
use Rattle.c_grammar.specs.declared.class.Class.{Class}
use Rattle.c_grammar.specs.declared.class.Class.TheVariants as class
use Rattle.c_grammar.specs.Trees.{BinaryOp}
use Rattle.c_tree.specs.declared.exprs.BinaryOp.{BinaryOp as Op}
use Rattle.c_tree.specs.Syntax.{binary_tree}

-- the operator of a class, and its level (C11 6.5.5 to 6.5.14)
abbrev pub level_of : Class → Option (ℕ × BinaryOp)
level_of class.Star = Some (0, BinaryOp.Multiply)
level_of class.Plus = Some (1, BinaryOp.Add)
level_of class.Minus = Some (1, BinaryOp.Subtract)
level_of class.Less = Some (2, BinaryOp.Less)
level_of class.LessEqual = Some (2, BinaryOp.LessEqual)
level_of class.Greater = Some (2, BinaryOp.Greater)
level_of class.GreaterEqual = Some (2, BinaryOp.GreaterEqual)
level_of class.Equal = Some (3, BinaryOp.Equal)
level_of class.NotEqual = Some (3, BinaryOp.NotEqual)
level_of class.And = Some (4, BinaryOp.And)
level_of class.Or = Some (5, BinaryOp.Or)
level_of _ = None

-- a level and the operator of the tree
abbrev pub level_tree : ℕ × Op → ℕ × BinaryOp
level_tree found = (found.0, binary_tree found.1)

-- the levels that are left one level deeper, if there is one
abbrev pub level_below : ℕ → Option ℕ
level_below zero = None
level_below (suc n) = Some n
