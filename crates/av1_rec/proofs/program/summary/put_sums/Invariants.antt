use Rattle.std.proofs.Common.{◌≡◌, ◌++◌, take, map}
use Rattle.av1_rec.specs.Report.{region_rows}
use Rattle.av1_rec.specs.Summary.{sum_lines}
use Rattle.av1_rec.proofs.program.summary.put_sums.Given as goal

-- The sums of the first p planes are written.
abbrev pub invariant-loop-p : goal.invariant-loop-p
invariant-loop-p g l = l.out.items ≡ l.initial.out.items ++ sum_lines 0 (map (region_rows g.T.Pixel.number) (take l.p l.planes))
