use Rattle.av1_tiling.proofs.UnitTiles.{frames_cut}
use Rattle.av1_tiling.proofs.laws.frames_cut_units.Goals as goal

pub returns : goal.returns
returns c = frames_cut
