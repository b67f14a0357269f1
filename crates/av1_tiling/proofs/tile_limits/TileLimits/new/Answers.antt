use Rattle.av1_tiling.proofs.GridFacts.{max_count_log2-le, min_cols_log2-le}
use Rattle.av1_tiling.proofs.tile_limits.TileLimits.new.Goals as goal

pub returns-clause-ordered : goal.returns-clause-ordered
returns-clause-ordered c =
    let least = c.reached_log2-min_tile_cols_log2.ensures.value in
    let most = c.reached_log2.ensures.value in
    rw (least, most, c.min.ensures) (min_cols_log2-le c.args.sb_size_log2 c.args.sb_cols c.requires.side.0 c.requires.side.1 c.requires.cols.1)

pub returns-clause-few : goal.returns-clause-few
returns-clause-few c = (
  rw (c.reached_log2.ensures.value, c.min.ensures) (max_count_log2-le c.args.sb_cols),
  rw (c.reached_log2-2.ensures.value, c.min-2.ensures) (max_count_log2-le c.args.sb_rows),
)
