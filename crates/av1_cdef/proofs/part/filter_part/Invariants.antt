use Rattle.av1_plane.specs.Region.{numbers_under, first_place, row_step, IsSamePart}
use Rattle.av1_block.specs.Tables.{view_entries, view_step}
use Rattle.av1_cdef.specs.Done.{HasFilteredBlocks}
use Rattle.av1_cdef.specs.Picture.{cdef_picture_of}
use Rattle.av1_cdef.specs.Part.{part_sample}
use Rattle.av1_cdef.proofs.part.filter_part.Given as goal

-- The blocks of the rows before v are filtered.
abbrev pub invariant-loop-v : goal.invariant-loop-v
invariant-loop-v g l = record {
  part : IsSamePart l.fn.p l.p;
  value : HasFilteredBlocks (first_place l.fn.p) (row_step l.fn.p) g.row.W g.row.H l.left l.right l.top l.left l.v (part_sample (cdef_picture_of g.T.Pixel.number l.source) (view_entries l.blocks) (view_step l.blocks) l.plan l.dirs l.tx l.ty g.row.W g.row.H l.left l.top) (numbers_under g.T.Pixel.number l.fn.p) (numbers_under g.T.Pixel.number l.p);
}

-- The blocks of the rows before v and the first blocks of row v are filtered.
abbrev pub invariant-loop-u : goal.invariant-loop-u
invariant-loop-u g l = record {
  part : IsSamePart l.fn.p l.p;
  value : HasFilteredBlocks (first_place l.fn.p) (row_step l.fn.p) g.row.W g.row.H l.left l.right l.top l.u l.v (part_sample (cdef_picture_of g.T.Pixel.number l.source) (view_entries l.blocks) (view_step l.blocks) l.plan l.dirs l.tx l.ty g.row.W g.row.H l.left l.top) (numbers_under g.T.Pixel.number l.fn.p) (numbers_under g.T.Pixel.number l.p);
}
