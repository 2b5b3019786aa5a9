-- The law, as it is proved of the machine's runs.
use Rattle.sym_parts.proofs.ShapesLemmas.FrameRuns.{no_fault_beside_frame}
use Rattle.sym_parts.proofs.shapes.frames.no_fault_beside_frame.Goals as goal

pub returns : goal.returns
returns c = no_fault_beside_frame
