use Rattle.av1_frame.proofs.Framings.{reads_framed}
use Rattle.av1_frame.proofs.laws.reads_framed.Goals as goal

pub returns : goal.returns
returns c = reads_framed
