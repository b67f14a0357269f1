use Rattle.std.proofs.Common.{◌+◌, ◌*◌}
use Rattle.av1_cdef.specs.Analysis.{deblocked_of, HasRange}
use Rattle.av1_cdef.proofs.analysis.cdef_analyze_superblock_range.Given as goal

-- The list has the directions of the superblocks of the first rows.
abbrev pub invariant-loop-y : goal.invariant-loop-y
invariant-loop-y g l =
    HasRange (deblocked_of g.T.Pixel.number l.fi l.in_frame l.blocks) l.sb_w (l.y * l.sb_w) l.all.items

-- The list has the directions of the rows above and of the first superblocks of row y.
abbrev pub invariant-loop-x : goal.invariant-loop-x
invariant-loop-x g l =
    HasRange (deblocked_of g.T.Pixel.number l.fi l.in_frame l.blocks) l.sb_w (l.y * l.sb_w + l.x) l.all.items
