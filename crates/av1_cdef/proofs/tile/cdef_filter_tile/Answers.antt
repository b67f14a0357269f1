use Rattle.std.proofs.Common.{◌/◌, arith}
use Rattle.av1_block.specs.Tables.{view_cols, view_rows}
use Rattle.av1_cdef.specs.Analysis.{deblocked_of}
use Rattle.av1_cdef.specs.Superblock.{channel_of}
use Rattle.av1_cdef.proofs.Made.{y_filtered, u_filtered, v_filtered}
use Rattle.av1_cdef.proofs.Tiles.{holds_still, to_more, to_row, to_all}
use Rattle.av1_cdef.proofs.WholeFrames.{whole_filtered}
use Rattle.av1_cdef.proofs.tile.cdef_filter_tile.Goals as goal

pub cdef_filter_superblock-requires-clause-output : goal.cdef_filter_superblock-requires-clause-output
cdef_filter_superblock-requires-clause-output g c =
    holds_still _ _ _ _ c.loop-x.invariant.y.part c.loop-x.invariant.u.part c.loop-x.invariant.v.part c.requires.output

pub loop-x-preserved : goal.loop-x-preserved
loop-x-preserved g c =
    let number = g.T.Pixel.number in
    let f = c.args.input.now in
    let b = c.args.tb.now in
    let d = deblocked_of number c.args.fi.now f b in
    let left = c.requires.blocks.left in
    let top = c.requires.blocks.top in
    record {
      y = to_more number d c.loop-x.x c.loop-y.y _ (channel_of number 0 f.planes.y) c.args.output.now.planes.y _ _ (omega arith) (omega arith) c.get_cdef-index.ensures
          (λ some. let k = y_filtered number g.T.Pixel.limit (view_cols b / 2) (view_rows b / 2) c.args.fi.now f b c.args.output.now.planes.y c.requires.frame c.requires.input c.requires.output.y (omega arith) (omega arith) some in
          record { stored = k.stored; width = k.to_width })
          c.loop-x.invariant.y c.cdef_filter_superblock.ensures.y;
      u = to_more number d c.loop-x.x c.loop-y.y _ (channel_of number 1 f.planes.u) c.args.output.now.planes.u _ _ (omega arith) (omega arith) c.get_cdef-index.ensures
          (λ some. let k = u_filtered number g.T.Pixel.limit (view_cols b / 2) (view_rows b / 2) c.args.fi.now f b c.args.output.now.planes.u c.requires.frame c.requires.input c.requires.output.u (omega arith) (omega arith) some in
          record { stored = k.stored; width = k.to_width })
          c.loop-x.invariant.u c.cdef_filter_superblock.ensures.u;
      v = to_more number d c.loop-x.x c.loop-y.y _ (channel_of number 2 f.planes.v) c.args.output.now.planes.v _ _ (omega arith) (omega arith) c.get_cdef-index.ensures
          (λ some. let k = v_filtered number g.T.Pixel.limit (view_cols b / 2) (view_rows b / 2) c.args.fi.now f b c.args.output.now.planes.v c.requires.frame c.requires.input c.requires.output.v (omega arith) (omega arith) some in
          record { stored = k.stored; width = k.to_width })
          c.loop-x.invariant.v c.cdef_filter_superblock.ensures.v;
    }

pub loop-y-preserved : goal.loop-y-preserved
loop-y-preserved g c = record {
  y = to_row _ _ _ _ _ _ _ (omega arith) c.loop-x.invariant.y;
  u = to_row _ _ _ _ _ _ _ (omega arith) c.loop-x.invariant.u;
  v = to_row _ _ _ _ _ _ _ (omega arith) c.loop-x.invariant.v;
}

pub returns-clause-filtered : goal.returns-clause-filtered
returns-clause-filtered g c = record {
  y = to_all _ _ _ _ _ _ (omega arith) c.loop-y.invariant.y;
  u = to_all _ _ _ _ _ _ (omega arith) c.loop-y.invariant.u;
  v = to_all _ _ _ _ _ _ (omega arith) c.loop-y.invariant.v;
}

pub returns-clause-frame : goal.returns-clause-frame
returns-clause-frame g c = λ whole.
    whole_filtered g.T.Pixel.number g.T.Pixel.limit c.args.fi.now c.args.input.now c.args.tb.now _ _ c.requires.frame c.requires.input c.requires.blocks c.requires.output whole (returns-clause-filtered g c)
