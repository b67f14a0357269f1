use Rattle.av1_cdef.specs.Analysis.{deblocked_of}
use Rattle.av1_cdef.specs.Superblock.{channel_of}
use Rattle.av1_cdef.specs.Tile.{IsFilteredTo}
use Rattle.av1_cdef.proofs.tile.cdef_filter_tile.Given as goal

-- The superblocks of the rows before y are filtered in each plane.
abbrev pub invariant-loop-y : goal.invariant-loop-y
invariant-loop-y g l =
    let d = deblocked_of g.T.Pixel.number l.fi l.input l.tb in
    record {
      y : IsFilteredTo g.T.Pixel.number d 0 l.y (channel_of g.T.Pixel.number 0 l.input.planes.y) l.fn.output.planes.y l.output.planes.y;
      u : IsFilteredTo g.T.Pixel.number d 0 l.y (channel_of g.T.Pixel.number 1 l.input.planes.u) l.fn.output.planes.u l.output.planes.u;
      v : IsFilteredTo g.T.Pixel.number d 0 l.y (channel_of g.T.Pixel.number 2 l.input.planes.v) l.fn.output.planes.v l.output.planes.v;
    }

-- The superblocks of the rows before y and the first ones of row y are filtered in each plane.
abbrev pub invariant-loop-x : goal.invariant-loop-x
invariant-loop-x g l =
    let d = deblocked_of g.T.Pixel.number l.fi l.input l.tb in
    record {
      y : IsFilteredTo g.T.Pixel.number d l.x l.y (channel_of g.T.Pixel.number 0 l.input.planes.y) l.fn.output.planes.y l.output.planes.y;
      u : IsFilteredTo g.T.Pixel.number d l.x l.y (channel_of g.T.Pixel.number 1 l.input.planes.u) l.fn.output.planes.u l.output.planes.u;
      v : IsFilteredTo g.T.Pixel.number d l.x l.y (channel_of g.T.Pixel.number 2 l.input.planes.v) l.fn.output.planes.v l.output.planes.v;
    }
