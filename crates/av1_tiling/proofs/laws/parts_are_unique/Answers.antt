use Rattle.av1_tiling.proofs.Placed.{parts_unique}
use Rattle.av1_tiling.proofs.laws.parts_are_unique.Goals as goal

pub returns : goal.returns
returns g c = parts_unique
