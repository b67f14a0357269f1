use Rattle.std.proofs.Common.{◌≡◌, ◌≤◌, ◌*◌}
use Rattle.av1_plane.specs.Layout.{rows}
use Rattle.av1_plane.specs.Reading.{step_seen, area_seen, numbers_seen}
use Rattle.av1_rec.specs.Summary.{rows_sum}
use Rattle.av1_rec.proofs.program.summary.rows_sum.Given as goal

-- The first y rows are added up, each of at most 2^32.
abbrev pub invariant-loop-y : goal.invariant-loop-y
invariant-loop-y g l = record {
  value : l.sum ≡ rows_sum (rows (step_seen l.region) (area_seen l.region).width l.y (numbers_seen g.T.Pixel.number l.region));
  most : l.sum ≤ 4294967296 * l.y;
}
