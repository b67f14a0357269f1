use Rattle.std.proofs.Common.{◌≡◌, ◌+◌, ◌*◌, ◌/◌, min, arith}
use Rattle.av1_block.specs.Tables.{view_cols, view_rows}
use Rattle.av1_cdef.proofs.Made.{frame_read, y_filtered, u_filtered, v_filtered}
use Rattle.av1_cdef.proofs.superblock.cdef_filter_superblock.Goals as goal

pub filter_plane-requires-clause-read : goal.filter_plane-requires-clause-read
filter_plane-requires-clause-read g c =
    frame_read g.T.Pixel.number g.T.Pixel.limit c.args.fi.now c.args.input.now c.args.blocks.now c.requires.frame c.requires.input c.requires.blocks

pub filter_plane-requires-clause-can : goal.filter_plane-requires-clause-can
filter_plane-requires-clause-can g c =
    y_filtered g.T.Pixel.number g.T.Pixel.limit _ _ c.args.fi.now c.args.input.now c.args.blocks.now c.args.output.now.planes.y c.requires.frame c.requires.input c.requires.output.y (omega arith) (omega arith)

pub filter_plane-requires-2-clause-read : goal.filter_plane-requires-2-clause-read
filter_plane-requires-2-clause-read g c =
    frame_read g.T.Pixel.number g.T.Pixel.limit c.args.fi.now c.args.input.now c.args.blocks.now c.requires.frame c.requires.input c.requires.blocks

pub filter_plane-requires-2-clause-can : goal.filter_plane-requires-2-clause-can
filter_plane-requires-2-clause-can g c =
    u_filtered g.T.Pixel.number g.T.Pixel.limit _ _ c.args.fi.now c.args.input.now c.args.blocks.now c.args.output.now.planes.u c.requires.frame c.requires.input c.requires.output.u (omega arith) (omega arith)

pub filter_plane-requires-3-clause-read : goal.filter_plane-requires-3-clause-read
filter_plane-requires-3-clause-read g c =
    frame_read g.T.Pixel.number g.T.Pixel.limit c.args.fi.now c.args.input.now c.args.blocks.now c.requires.frame c.requires.input c.requires.blocks

pub filter_plane-requires-3-clause-can : goal.filter_plane-requires-3-clause-can
filter_plane-requires-3-clause-can g c =
    v_filtered g.T.Pixel.number g.T.Pixel.limit _ _ c.args.fi.now c.args.input.now c.args.blocks.now c.args.output.now.planes.v c.requires.frame c.requires.input c.requires.output.v (omega arith) (omega arith)

pub returns : goal.returns
returns g c =
    let right : c.min-right.result ≡ min (8 * c.args.tile_sbo.0.x + 8) (view_cols c.args.blocks.now / 2) = omega arith in
    let bottom : c.min-bottom.result ≡ min (8 * c.args.tile_sbo.0.y + 8) (view_rows c.args.blocks.now / 2) = omega arith in
    let index : c.from-index.result ≡ c.args.cdef_index = omega arith in
    record {
      y = rw (right, bottom, index) at c.filter_plane.ensures;
      u = rw (right, bottom, index) at c.filter_plane-2.ensures;
      v = rw (right, bottom, index) at c.filter_plane-3.ensures;
    }
