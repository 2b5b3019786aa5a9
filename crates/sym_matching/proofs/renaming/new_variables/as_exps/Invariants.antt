use Rattle.std.proofs.Common.{◌≡◌, map, take}
use Rattle.shape_data.specs.declared.symbolic.Exp.TheVariants.{Var}
use Rattle.sym_matching.proofs.renaming.new_variables.as_exps.Given as goal

abbrev pub invariant-loop-x : goal.invariant-loop-x
invariant-loop-x l = l.all ≡ map Var (take l.x-index l.names)
