use Rattle.std.proofs.Common.{◌+◌, map}
use Rattle.std.specs.Prelude.{unsigned_abs}
use Rattle.av1_lrf.specs.Rows.{sample}
use Rattle.av1_lrf.specs.Runs.{HasSampleRun}
use Rattle.av1_lrf.specs.Guides.{guided_sample}
use Rattle.av1_lrf.proofs.guided.finish_row.Given as goal

-- The first i samples of the row are guided.
abbrev pub invariant-loop-i : goal.invariant-loop-i
invariant-loop-i g l = HasSampleRun l.at l.i (λ i. guided_sample l.m l.odd l.a2 l.b2 l.a1 l.b1 (l.p + i) (l.q + i) (unsigned_abs (sample (map g.T.Pixel.number l.xs) (l.from + i)))) (map g.T.Pixel.number l.initial.out) (map g.T.Pixel.number l.out)
