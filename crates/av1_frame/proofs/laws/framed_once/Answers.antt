use Rattle.av1_frame.proofs.Framings.{framed_once}
use Rattle.av1_frame.proofs.laws.framed_once.Goals as goal

pub returns : goal.returns
returns c = framed_once
