use Rattle.std.proofs.Common.{◌+◌, ◌*◌}
use Rattle.av1_lrf.specs.Rows.{sample}
use Rattle.av1_lrf.specs.Runs.{HasSampleRun}
use Rattle.av1_lrf.specs.Wiener.{reduced, tapped}
use Rattle.av1_lrf.specs.Taps.{seven, rounding_of}
use Rattle.av1_lrf.proofs.line.filter_across.Given as goal

-- The first i samples of the line are filtered across.
abbrev pub invariant-loop-i : goal.invariant-loop-i
invariant-loop-i l = HasSampleRun l.at l.i (λ i. reduced (rounding_of l.l) (tapped (seven l.t) (λ k. sample l.line (i + k * 1)))) l.initial.cells l.cells
