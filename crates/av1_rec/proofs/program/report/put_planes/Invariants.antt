use Rattle.std.proofs.Common.{◌≡◌, ◌++◌, take, map}
use Rattle.av1_rec.specs.Report.{planes_text, region_rows}
use Rattle.av1_rec.proofs.program.report.put_planes.Given as goal

-- The text of the first p planes is written.
abbrev pub invariant-loop-p : goal.invariant-loop-p
invariant-loop-p g l = l.out.items ≡ l.initial.out.items ++ planes_text l.wide 0 (map (region_rows g.T.Pixel.number) (take l.p l.planes))
