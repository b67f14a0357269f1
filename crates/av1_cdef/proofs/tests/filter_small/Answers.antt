use Rattle.std.proofs.Common.{◌∙◌, ap}
use Rattle.av1_plane.specs.Place.{from_origin}
use Rattle.av1_cdef.proofs.SmallFrames.{indices_made, small_holds}
use Rattle.av1_cdef.proofs.tests.filter_small.Goals as goal

pub cdef_filter_tile-requires-clause-indices : goal.cdef_filter_tile-requires-clause-indices
cdef_filter_tile-requires-clause-indices c = indices_made c.as_tile_blocks-table.result c.args.blocks.now.entries c.as_tile_blocks-table.ensures.entries c.requires.indices

pub cdef_filter_tile-requires-clause-output : goal.cdef_filter_tile-requires-clause-output
cdef_filter_tile-requires-clause-output c =
    let lent = c.as_region_mut-y.ensures.region in
    small_holds c.args.input.now c.as_tile_blocks-table.result _ c.requires.layout (lent.shown ∙ ap from_origin c.requires.output) lent.stored
    (c.as_tile_blocks-table.ensures.cols ∙ c.requires.blocks.0) (c.as_tile_blocks-table.ensures.rows ∙ c.requires.blocks.1)
