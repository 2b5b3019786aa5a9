use Rattle.std.proofs.Common.{refl}
use Rattle.c_lower_rules.proofs.laws.examples.Goals as goal

pub returns : goal.returns
returns c = record {
  member = refl;
  short_circuit = refl;
  branches = refl;
  updates = refl;
  updates_by_call = refl;
  stores = refl;
  walk = refl;
  for_loop = refl;
  one_head = refl;
  empty_body = refl;
  begins_later = refl;
  forever = refl;
  memory = refl;
}
