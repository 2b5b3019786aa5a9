use Rattle.std.proofs.Common.{take}
use Rattle.std.specs.List.{AllZip}
use Rattle.project_form.specs.Kept.{Follows}
use Rattle.project_form.specs.Parts.{AreNoted}
use Rattle.project_form.proofs.reading.read_files.Given as goal

-- what the files so far are read as is noted
abbrev pub invariant-loop-place : goal.invariant-loop-place
invariant-loop-place l = record {
  noted : AreNoted (take l.place l.files.items) l.firsts;
  follow : AllZip Follows l.initial.files.items l.files.items;
}
