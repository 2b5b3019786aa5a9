-- What the code keeps of a join that it found, and fields at their places.
use Rattle.std.specs.Prelude.{ℕ}
use Rattle.std.specs.declared.option.Option.{Option}
use Rattle.std.specs.declared.option.Option.TheVariants.{None, Some}
use Rattle.shape_data.specs.declared.program.Field.{Field}
use Rattle.shape_data.specs.declared.symbolic.Exp.{Exp}
use Rattle.abstraction_laws.specs.Forgetting.{forget_value}
use Rattle.abstraction_laws.specs.Joining.{Join}
use Rattle.sym_abstract.specs.declared.joining.Place.{Place}

-- where a join is: without the segment that it makes
abbrev pub place_of : Join → Place
place_of join = record { first = join.first; second = join.second; middle = join.middle }

-- the value of a field, if there is one; a constant of an int field is forgotten
abbrev pub forget_at : ℕ → Option Field → Exp → Exp
forget_at next (Some field) e = forget_value next field.ty e
forget_at next None e = e
