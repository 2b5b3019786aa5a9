-- The law, as it is proved of the machine's steps.
use Rattle.sym_parts.proofs.ShapesLemmas.FrameRuns.{run_beside_frame}
use Rattle.sym_parts.proofs.shapes.frames.run_beside_frame.Goals as goal

pub returns : goal.returns
returns c = run_beside_frame
