-- The numbers of variables: which logical ones may occur, and how many existential ones come into use.
use Rattle.std.specs.Prelude.{ℕ, ◌+◌, ◌<◌, not, ◌||◌, nat_lt}
use Rattle.shape_data.specs.declared.symbolic.Exp.{Exp}
use Rattle.shape_data.specs.declared.symbolic.Exp.TheVariants.{Var, Const}
use Rattle.shape_data.specs.WellFormed.{Limits, storable}

-- the limits of a store on logical variables alone: each existential variable may occur
abbrev pub storable_logical : Limits
storable_logical = record storable { variables = λ params variable. not (nat_lt variable 65536) || nat_lt variable (params + 32768) }

-- an existential variable is one of the first so many
abbrev pub IsLowExistential : ℕ → Exp → Type 0
IsLowExistential count (Var x) = x < 65536 + count
IsLowExistential count (Const n) = Unit {0}

-- a logical variable is a parameter, or one of the first so many behind them
abbrev pub IsLowLogical : ℕ → ℕ → Exp → Type 0
IsLowLogical params count (Var x) = x < 65536 → x < params + count
IsLowLogical params count (Const n) = Unit {0}
