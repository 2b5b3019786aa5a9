-- A put is refused for what would go past the limits.
use Rattle.std.proofs.Common.{arith}
use Rattle.project_form.proofs.Putting.{put-AreFiles, dropped-AreFiles}
use Rattle.project_form.proofs.laws.limits_are_kept.Goals as goal

pub returns : goal.returns
returns c = record {
  none = record { few = omega arith; short = omega arith };
  put = put-AreFiles;
  dropped = dropped-AreFiles;
}
