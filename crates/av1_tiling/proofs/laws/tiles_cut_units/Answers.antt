use Rattle.av1_tiling.proofs.LawProofs.{cuts_units}
use Rattle.av1_tiling.proofs.TilingFacts.{grid_is}
use Rattle.av1_tiling.proofs.laws.tiles_cut_units.Goals as goal

pub returns : goal.returns
returns c s width height num den target_cols target_rows is_422 t e = cuts_units t (grid_is s width height num den target_cols target_rows is_422 t e)
