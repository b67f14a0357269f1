use Rattle.av1_rec.proofs.Pictures.{held}
use Rattle.av1_rec.proofs.frame.picture.source_frame.Goals as goal

pub returns : goal.returns
returns g c =
    held g.T.Pixel.number c.args.format.now c.in_ok-frame.frame c.in_ok-frame.ensures c.fill_plane.new.plane c.fill_plane-2.new.plane c.fill_plane-3.new.plane c.deref.result.now c.deref-2.result.now c.deref-3.result.now c.args.source.now
    c.deref.ensures.value c.deref-2.ensures.value c.deref-3.ensures.value c.fill_plane.ensures c.fill_plane-2.ensures c.fill_plane-3.ensures
