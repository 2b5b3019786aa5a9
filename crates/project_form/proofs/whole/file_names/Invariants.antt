use Rattle.std.proofs.Common.{◌≡◌, take}
use Rattle.project_form.specs.Kept.{sources_of}
use Rattle.project_form.specs.Reads.{names_of}
use Rattle.project_form.proofs.whole.file_names.Given as goal

abbrev pub invariant-loop-file : goal.invariant-loop-file
invariant-loop-file l = l.names.items ≡ names_of (sources_of (take l.file-index l.files))
