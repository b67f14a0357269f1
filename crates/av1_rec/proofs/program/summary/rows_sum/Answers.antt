use Rattle.std.proofs.Common.{◌+◌, ap, ◌∙◌, arith}
use Rattle.av1_plane.specs.Reading.{step_seen, area_seen, samples_seen}
use Rattle.av1_rec.proofs.Sums.{rows_none, row_more}
use Rattle.av1_rec.proofs.program.summary.rows_sum.Goals as goal

pub loop-y-init : goal.loop-y-init
loop-y-init g c =
    let region = c.args.region.now in
    record { value = rows_none g.T.Pixel.number (step_seen region) (area_seen region).width (samples_seen region); most = omega arith }

pub loop-y-preserved : goal.loop-y-preserved
loop-y-preserved g c =
    let region = c.args.region.now in
    let so_far = c.loop-y.invariant.most in
    let here = c.row_sum-sum.ensures.most in
    record {
      value = ap (λ n. c.loop-y.sum + n) c.row_sum-sum.ensures.value
          ∙ row_more g.T.Pixel.number (step_seen region) (area_seen region).width c.loop-y.y c.loop-y.sum (samples_seen region) c.row.result.now c.row.ensures.value c.loop-y.invariant.value;
      most = omega (arith, so_far, here);
    }
