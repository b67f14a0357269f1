use Rattle.av1_tiling.proofs.LawProofs.{counts_by_log2}
use Rattle.av1_tiling.proofs.TilingFacts.{grid_is}
use Rattle.av1_tiling.proofs.laws.counts_have_logarithms.Goals as goal

pub returns : goal.returns
returns c s width height num den target_cols target_rows is_422 t e = counts_by_log2 t (grid_is s width height num den target_cols target_rows is_422 t e)
