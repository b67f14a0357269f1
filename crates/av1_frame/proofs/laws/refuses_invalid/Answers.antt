use Rattle.av1_frame.proofs.Validity.{accepts_valid}
use Rattle.av1_frame.proofs.laws.refuses_invalid.Goals as goal

pub returns : goal.returns
returns c = accepts_valid
