use Rattle.av1_plane.specs.Region.{numbers_under, first_place, row_step, IsSamePart}
use Rattle.av1_cdef.specs.Cells.{HasBlock}
use Rattle.av1_cdef.specs.Picture.{cdef_picture_of}
use Rattle.av1_cdef.specs.Part.{copied_at}
use Rattle.av1_cdef.proofs.part.copy_block.Given as goal

-- The first rows of the block are copied, and the region keeps its place.
abbrev pub invariant-loop-i : goal.invariant-loop-i
invariant-loop-i g l = record {
  part : IsSamePart l.initial.p l.p;
  value : HasBlock (first_place l.initial.p) (row_step l.initial.p) l.to_x l.to_y g.row.W l.i (copied_at (cdef_picture_of g.T.Pixel.number l.source) l.x l.y) (numbers_under g.T.Pixel.number l.initial.p) (numbers_under g.T.Pixel.number l.p);
}
