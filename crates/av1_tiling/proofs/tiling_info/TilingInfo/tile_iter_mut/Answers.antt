use Rattle.av1_tiling.proofs.Inside.{few_tiles}
use Rattle.av1_tiling.proofs.tiling_info.TilingInfo.tile_iter_mut.Goals as goal

pub tile_count-requires : goal.tile_count-requires
tile_count-requires g c = few_tiles _ _ _ _ c.requires
