-- Pairs whose variables are low, so that there is room for new ones.
use Rattle.std.specs.Prelude.{◌≡◌, Bool, true, nat_lt}
use Rattle.shape_data.specs.declared.symbolic.Exp.{Exp}
use Rattle.shape_data.specs.declared.symbolic.Exp.TheVariants.{Var, Const}
use Rattle.shape_data.specs.declared.symbolic.Fact.{Fact}
use Rattle.sym_parts.specs.Laws.Each.{EachInFact, EachInHeap, EachInState}
use Rattle.sym_canon.specs.declared.parts.Pair.{Pair}

-- the variable of an expression is below 2^31
abbrev pub is_low : Exp → Bool
is_low (Var x) = nat_lt x 2147483648
is_low (Const n) = true

-- and so it is said
abbrev pub IsLow : Exp → Type 0
IsLow e = is_low e ≡ true

-- the variables of both sides of a fact are low
abbrev pub IsLowFact : Fact → Type 0
IsLowFact fact = EachInFact IsLow fact

-- all variables of a pair are low
pub record IsLowPair (pair : Pair) : Type 0 where
  pub missing : EachInHeap IsLow pair.missing
  pub state : EachInState IsLow pair.state
