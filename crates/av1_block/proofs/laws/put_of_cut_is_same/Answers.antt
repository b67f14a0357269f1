use Rattle.av1_block.proofs.CutLaws.{put_of_cut_is_same}
use Rattle.av1_block.proofs.laws.put_of_cut_is_same.Goals as goal

pub returns : goal.returns
returns g c = put_of_cut_is_same
