use Rattle.std.proofs.Common.{◌≡◌, take}
use Rattle.std.specs.List.{sum_by}
use Rattle.project_form.specs.Kept.{kept_length}
use Rattle.project_form.proofs.files.total.Given as goal

-- the bytes of the files so far
abbrev pub invariant-loop-file : goal.invariant-loop-file
invariant-loop-file l = l.count ≡ sum_by kept_length (take l.file-index l.files)
