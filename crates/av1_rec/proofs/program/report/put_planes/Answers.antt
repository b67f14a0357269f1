use Rattle.av1_rec.specs.Report.{region_rows}
use Rattle.av1_rec.proofs.RegionRows.{planes_more}
use Rattle.av1_rec.proofs.program.report.put_planes.Goals as goal

pub loop-p-preserved : goal.loop-p-preserved
loop-p-preserved g c =
    let one = planes_more (region_rows g.T.Pixel.number) c.args.wide c.args.planes.now c.index-planes-p.result c.args.out.now.items c.loop-p.p c.loop-p-test.true c.index-planes-p.is in
    rw (c.in_ok-put_plane.ensures, c.loop-p.invariant) one
