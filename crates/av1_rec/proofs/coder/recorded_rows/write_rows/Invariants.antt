use Rattle.std.proofs.Common.{◌≡◌, length, map}
use Rattle.av1_block.specs.Cut.{with_cut}
use Rattle.av1_rec.specs.Recorded.{joined}
use Rattle.av1_rec.proofs.coder.recorded_rows.write_rows.Given as goal

-- The first y recorded rows are written.
abbrev pub invariant-loop-y : goal.invariant-loop-y
invariant-loop-y g l = record {
  value : map g.T.Pixel.number l.table ≡ with_cut (map g.T.Pixel.number l.initial.table) l.cols 0 0 l.width l.y (joined (map (λ row. map g.T.Pixel.number row.items) l.rows));
  long : length l.table ≡ length l.initial.table;
}
