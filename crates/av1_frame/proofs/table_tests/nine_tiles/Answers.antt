use Rattle.std.proofs.Common.{◌≤◌, inl, refl, arith}
use Rattle.av1_frame.proofs.Blank.{eight_low}
use Rattle.av1_frame.proofs.table_tests.nine_tiles.Goals as goal

pub returns-clause-frame : goal.returns-clause-frame
returns-clause-frame c = record {
  width = (omega arith, omega arith);
  height = (omega arith, omega arith);
  depth = inl (refl, refl);
  superblock = refl;
  columns = refl;
  rows = refl;
  superblock_columns = refl;
  superblock_rows = refl;
  y_strengths = eight_low;
  uv_strengths = eight_low;
  damping = (omega arith, omega arith);
  tiling = (25, 1, 10, 8, c.in-Ok.ensures.tiling);
  large_units = λ large on. (omega arith, omega arith);
}
