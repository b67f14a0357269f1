use Rattle.std.proofs.Common.{inl, refl, arith}
use Rattle.av1_lrf.proofs.SmallFrames.{eight_zeros}
use Rattle.av1_lrf.proofs.tests.small_frame.Goals as goal

pub returns-clause-frame : goal.returns-clause-frame
returns-clause-frame c = record {
  width = (omega arith, omega arith);
  height = (omega arith, omega arith);
  depth = inl (refl, refl);
  superblock = refl;
  columns = refl;
  rows = refl;
  superblock_columns = refl;
  superblock_rows = refl;
  y_strengths = eight_zeros;
  uv_strengths = eight_zeros;
  damping = (omega arith, omega arith);
  tiling = (25, 1, 0, 0, c.in-Ok.ensures.tiling);
  large_units = λ large on. (omega arith, omega arith);
}
