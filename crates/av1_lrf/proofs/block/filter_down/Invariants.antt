use Rattle.std.proofs.Common.{◌+◌, ◌*◌, map}
use Rattle.av1_lrf.specs.Rows.{sample}
use Rattle.av1_lrf.specs.Runs.{HasSampleRun}
use Rattle.av1_lrf.specs.Wiener.{reduced, tapped}
use Rattle.av1_lrf.specs.Taps.{seven, rounding_of}
use Rattle.av1_lrf.proofs.block.filter_down.Given as goal

-- The first i samples of the row are filtered down.
abbrev pub invariant-loop-i : goal.invariant-loop-i
invariant-loop-i g l = HasSampleRun l.at l.i (λ i. reduced (rounding_of l.l) (tapped (seven l.t) (λ k. sample l.cells (l.first + i + k * 64)))) (map g.T.Pixel.number l.initial.out) (map g.T.Pixel.number l.out)
