use Rattle.av1_block.proofs.CutLaws.{cut_of_put_is_put}
use Rattle.av1_block.proofs.laws.cut_of_put_is_put.Goals as goal

pub returns : goal.returns
returns g c = cut_of_put_is_put
