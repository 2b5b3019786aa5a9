use Rattle.std.proofs.Common.{refl}
use Rattle.c_types.proofs.laws.rows.Goals as goal

pub returns : goal.returns
returns c = record {
  unknown = refl;
  assigned = refl;
  null = refl;
  pointer = refl;
  added = refl;
  step = refl;
  freed = refl;
  free = refl;
  free_unknown = refl;
  no_target = refl;
  condition = refl;
  call_in_test = refl;
  called = refl;
  few = refl;
  returned = refl;
  break = refl;
  continue = refl;
  break_in_loop = refl;
  own = refl;
  initial = refl;
  int_pointer = refl;
  structure = refl;
  no_tag = refl;
  second = refl;
  second_param = refl;
  hidden = refl;
  outside = refl;
  outside_for = refl;
  first_of_two = refl;
  prototype = refl;
  clash = refl;
  defined = refl;
  params = refl;
  result = refl;
  unnamed = refl;
  differs = refl;
  fields_second = refl;
  field = refl;
  alias_unknown = refl;
  alias_second = refl;
}
