-- Files so far have their parses, and what is left are those of the others.
use Rattle.std.proofs.Common.{◌≡◌, ◌++◌, map, take, drop}
use Rattle.std.specs.Vec.Iter.{into_iter_items}
use Rattle.project_form.specs.Kept.{with_parse}
use Rattle.project_form.specs.Parts.{AreUnits}
use Rattle.project_form.proofs.whole.keep_units.Given as goal

abbrev pub invariant-loop-file : goal.invariant-loop-file
invariant-loop-file l = record {
  files : l.files ≡ map with_parse (take l.file-index l.initial.files) ++ drop l.file-index l.initial.files;
  units : AreUnits (drop l.file-index l.initial.files) (into_iter_items l.units);
}
