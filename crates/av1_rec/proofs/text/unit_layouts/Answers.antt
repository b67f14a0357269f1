use Rattle.av1_rec.proofs.Begins.{frame_made}
use Rattle.av1_rec.proofs.text.unit_layouts.Goals as goal

pub new-requires-2-clause-frame : goal.new-requires-2-clause-frame
new-requires-2-clause-frame g c =
    frame_made g.T.Pixel.limit c.in_ok-fi.fi c.args.header.now c.args.tiling c.in_ok-fi.ensures c.requires.header c.requires.tiling c.requires.depth
