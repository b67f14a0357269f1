use Rattle.av1_cdef.specs.Picture.{cdef_picture_of}
use Rattle.av1_cdef.specs.Analysis.{deblocked_by, HasDirectionColumns}
use Rattle.av1_cdef.proofs.analysis.fill_directions.Given as goal

-- The table has the directions of the columns before i.
abbrev pub invariant-loop-i : goal.invariant-loop-i
invariant-loop-i g l =
    HasDirectionColumns (deblocked_by l.fi (cdef_picture_of g.T.Pixel.number l.source) l.blocks l.tx l.ty) l.left l.top l.i 0 l.dirs

-- The table has the directions of the columns before i and of the first blocks of column i.
abbrev pub invariant-loop-j : goal.invariant-loop-j
invariant-loop-j g l =
    HasDirectionColumns (deblocked_by l.fi (cdef_picture_of g.T.Pixel.number l.source) l.blocks l.tx l.ty) l.left l.top l.i l.j l.dirs
