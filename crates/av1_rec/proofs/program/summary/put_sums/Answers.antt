use Rattle.std.proofs.Common.{subst, sym}
use Rattle.av1_rec.specs.Report.{region_rows}
use Rattle.av1_rec.specs.Summary.{IsSmall}
use Rattle.av1_rec.proofs.Sums.{sums_more}
use Rattle.av1_rec.proofs.program.summary.put_sums.Goals as goal

pub put_sum-requires : goal.put_sum-requires
put_sum-requires g c =
    subst (λ r. IsSmall r) (sym c.index-planes-p.is) (c.requires c.loop-p.p c.index-planes-p.result c.loop-p-test.true)

pub loop-p-preserved : goal.loop-p-preserved
loop-p-preserved g c =
    let one = sums_more (region_rows g.T.Pixel.number) c.args.planes.now c.index-planes-p.result c.args.out.now.items c.loop-p.p c.loop-p-test.true c.index-planes-p.is in
    rw (c.in_ok-put_sum.ensures, c.loop-p.invariant) one
