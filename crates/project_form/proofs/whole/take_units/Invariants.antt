-- Files so far are without their parses, and there is room for those of the others.
use Rattle.std.proofs.Common.{◌≡◌, ◌≤◌, ◌++◌, length, map, take, drop}
use Rattle.std.specs.Vec.{vec_len, vec_capacity}
use Rattle.project_form.specs.Kept.{without_parse}
use Rattle.project_form.specs.Parts.{AreUnits}
use Rattle.project_form.proofs.whole.take_units.Given as goal

abbrev pub invariant-loop-file : goal.invariant-loop-file
invariant-loop-file l = record {
  files : l.files ≡ map without_parse (take l.file-index l.initial.files) ++ drop l.file-index l.initial.files;
  units : AreUnits (take l.file-index l.initial.files) l.units.items;
  len : vec_len l.units ≡ l.file-index;
  room : length l.initial.files ≤ vec_capacity l.units;
}
