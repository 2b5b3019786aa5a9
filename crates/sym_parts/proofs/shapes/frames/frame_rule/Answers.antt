-- The law, as it is proved of the machine's runs.
use Rattle.sym_parts.proofs.ShapesLemmas.FrameRuns.{frame_rule}
use Rattle.sym_parts.proofs.shapes.frames.frame_rule.Goals as goal

pub returns : goal.returns
returns c = frame_rule
