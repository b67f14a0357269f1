use Rattle.std.proofs.Common.{◌≡◌, ◌+◌, ◌*◌, ℕ, drop, subst, ap, ◌∙◌, arith}
use Rattle.av1_deblock.specs.Edges.{BlockTable}
use Rattle.av1_deblock.specs.Frames.{frame_shape}
use Rattle.av1_deblock.specs.Choice.{AreLevels, measured_frame}
use Rattle.av1_frame.proofs.levels.optimize.Goals as goal

pub returns-clause-levels : goal.returns-clause-levels
returns-clause-levels g c =
    let p = c.args.fi.now in
    let b = c.args.blocks.now in
    let first : 0 * b.cols + 0 ≡ 0 = omega arith in
    let entries = c.new-table.ensures.entries ∙ ap (λ (n : ℕ). drop n b.entries) first in
    subst (λ (t : BlockTable). AreLevels p t (measured_frame g.T.Pixel.number (frame_shape c.args.width c.args.height p.sequence.bit_depth) c.args.rec.now c.args.source.now) c.deblock_filter_optimize.result)
    (λ i. record { entries = entries i; step = c.new-table.ensures.step i }) c.deblock_filter_optimize.ensures
