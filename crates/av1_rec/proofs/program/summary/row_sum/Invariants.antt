use Rattle.std.proofs.Common.{◌≡◌, ◌≤◌, ◌*◌, take, map}
use Rattle.av1_rec.specs.Summary.{row_sum}
use Rattle.av1_rec.proofs.program.summary.row_sum.Given as goal

-- The first samples are added up, each of at most 16 bits.
abbrev pub invariant-loop-sample : goal.invariant-loop-sample
invariant-loop-sample g l = record {
  value : l.sum ≡ row_sum (map g.T.Pixel.number (take l.sample-index l.row));
  most : l.sum ≤ 65536 * l.sample-index;
}
