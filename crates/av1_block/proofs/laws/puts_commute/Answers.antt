use Rattle.av1_block.proofs.CutLaws.{puts_commute}
use Rattle.av1_block.proofs.laws.puts_commute.Goals as goal

pub returns : goal.returns
returns g c = puts_commute
