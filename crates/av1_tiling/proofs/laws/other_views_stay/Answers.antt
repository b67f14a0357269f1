use Rattle.av1_tiling.proofs.OtherViews.{others_stay}
use Rattle.av1_tiling.proofs.laws.other_views_stay.Goals as goal

pub returns : goal.returns
returns c = others_stay
