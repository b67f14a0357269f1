use Rattle.std.proofs.Common.{◌≡◌, ◌+◌, ap, ◌∙◌, rules, arith}
use Rattle.std.proofs.lemmas.Grind.{common_steps}
use Rattle.av1_rec.specs.Report.{natural}
use Rattle.av1_rec.proofs.Sums.{sample_more}
use Rattle.av1_rec.proofs.program.summary.row_sum.Goals as goal

pub loop-sample-preserved : goal.loop-sample-preserved
loop-sample-preserved g c =
    let is : c.from-sum.result ≡ natural (g.T.Pixel.number c.sample-item.result) = search rules in
    record {
      value = ap (λ n. n + c.from-sum.result) c.loop-sample.invariant.value ∙ sample_more g.T.Pixel.number c.args.row.now c.loop-sample.sample-index c.from-sum.result c.sample-item.result c.loop-sample-test.true c.sample-item.is is;
      most = grind (arith, common_steps, c.loop-sample.invariant.most);
    }
