use Rattle.std.proofs.Common.{◌≡◌, ◌≤◌, take}
use Rattle.project_form.specs.Kept.{kept_of}
use Rattle.project_form.proofs.files.count_kept.Given as goal

-- those of the files so far whose parse is kept
abbrev pub invariant-loop-file : goal.invariant-loop-file
invariant-loop-file l = record {
  exact : l.count ≡ kept_of (take l.file-index l.files);
  within : l.count ≤ l.file-index;
}
