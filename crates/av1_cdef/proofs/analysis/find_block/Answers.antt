use Rattle.av1_cdef.specs.Picture.{cdef_picture_of}
use Rattle.av1_cdef.proofs.Analyses.{block_room, block_deep}
use Rattle.av1_cdef.proofs.analysis.find_block.Goals as goal

pub direction_at-requires-clause-inside : goal.direction_at-requires-clause-inside
direction_at-requires-clause-inside g c = block_room _ _ _ _ _ c.args.bx c.args.by c.requires.held.inside c.requires.bx c.requires.by

pub direction_at-requires-clause-depth : goal.direction_at-requires-clause-depth
direction_at-requires-clause-depth g c = block_deep _ _ (cdef_picture_of g.T.Pixel.number c.args.source.now) c.args.bx c.args.by c.requires.held c.requires.bx c.requires.by
