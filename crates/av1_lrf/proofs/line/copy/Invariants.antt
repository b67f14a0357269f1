use Rattle.std.proofs.Common.{◌+◌, map}
use Rattle.av1_lrf.specs.Rows.{sample}
use Rattle.av1_lrf.specs.Runs.{HasSampleRun}
use Rattle.av1_lrf.proofs.line.copy.Given as goal

-- The first i samples of the row are copied.
abbrev pub invariant-loop-i : goal.invariant-loop-i
invariant-loop-i g l = HasSampleRun l.from l.i (λ i. sample (map g.T.Pixel.number l.row) (l.first + i)) l.initial.line l.line
