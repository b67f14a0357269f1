use Rattle.av1_cdef.proofs.Made.{frame_read}
use Rattle.av1_cdef.proofs.analysis.cdef_analyze_superblock.Goals as goal

pub fill_directions-requires-clause-held : goal.fill_directions-requires-clause-held
fill_directions-requires-clause-held g c =
    let made = frame_read g.T.Pixel.number g.T.Pixel.limit c.args.fi.now c.args.in_frame.now c.args.blocks.now c.requires.frame c.requires.input c.requires.blocks in
    c.source_of-source.ensures.held _ made.luma.deep
