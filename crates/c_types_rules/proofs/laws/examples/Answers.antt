use Rattle.std.proofs.Common.{refl}
use Rattle.c_types_rules.proofs.laws.examples.Goals as goal

pub returns : goal.returns
returns c = record {
  member = refl;
  member_kinds = refl;
  members = refl;
  pointer = refl;
  null = refl;
  no_null = refl;
  no_field = refl;
  no_variable = refl;
  no_procedure = refl;
  call = refl;
  call_within = refl;
  few = refl;
  clash = refl;
  smallest = refl;
  first_of_two = refl;
  unknown = refl;
  out_of_place = refl;
}
