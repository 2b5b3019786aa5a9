use Rattle.std.proofs.Common.{◌≡◌, [], map, take, drop}
use Rattle.c_types_rules.specs.Items.{twice}
use Rattle.c_types_names.specs.FirstRefusal.{with_refusals}
use Rattle.c_types.specs.Names.{named_seen, names_before, Lists}
use Rattle.c_types.proofs.names.refuse_second_of.Given as goal

abbrev pub invariant-loop-one : goal.invariant-loop-one
invariant-loop-one l = record {
  lists : Lists l.before (names_before (take l.one-index l.names));
  passes : with_refusals l.first (twice (names_before (take l.one-index l.names)) (map named_seen (drop l.one-index l.names)))
      ≡ with_refusals l.initial.first (twice [] (map named_seen l.names));
}
