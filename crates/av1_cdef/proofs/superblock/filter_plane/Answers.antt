use Rattle.std.proofs.Common.{arith}
use Rattle.std.specs.Prelude.{◌==◌}
use Rattle.av1_plane.specs.Region.{numbers_under, first_place, row_step}
use Rattle.av1_cdef.specs.Frame.{cdef_block_width, cdef_block_height}
use Rattle.av1_cdef.specs.Part.{part_sample}
use Rattle.av1_cdef.specs.Analysis.{deblocked_of}
use Rattle.av1_cdef.specs.Superblock.{plan_with, channel_of, view_cdef}
use Rattle.av1_cdef.proofs.Superblocks.{part_cdef, blocks_same, before_bottom}
use Rattle.av1_cdef.proofs.superblock.filter_plane.Goals as goal

pub returns-then-p-gt0 : goal.returns-then-p-gt0
returns-then-p-gt0 g c =
    let d = deblocked_of g.T.Pixel.number c.args.fi.now c.args.input.now c.args.blocks.now in
    let k = channel_of g.T.Pixel.number c.args.number c.args.p.now in
    let made = rw (c.plan_of-plan.ensures.value, c.x-tx.ensures, c.y-ty.ensures) at c.filter_sampled.ensures.value in
    let units = c.requires.units in
    let lines = c.requires.unit_rows in
    let columns = c.requires.columns in
    let rows = c.requires.lines in
    record {
      part = c.filter_sampled.ensures.part;
      blocks = λ some. blocks_same (first_place c.args.out.now) (row_step c.args.out.now) (cdef_block_width k) (cdef_block_height k) c.args.left c.args.right c.args.top c.args.left c.args.bottom
          (part_sample k.picture d.blocks d.step (plan_with d.header (k.pli == 0) (k.xdec == k.ydec) c.args.index) c.args.dirs.now d.x d.y (cdef_block_width k) (cdef_block_height k) c.args.left c.args.top)
          (view_cdef d k c.args.index)
          (numbers_under g.T.Pixel.number c.args.out.now) (numbers_under g.T.Pixel.number c.filter_sampled.new.out)
          (λ u v i j before li lj.
          let l = before.left in
          let r = before.right in
          let t = before.top in
          let b = before_bottom _ _ _ _ _ _ before in
          part_cdef d k c.args.index c.args.left c.args.top u v i j c.args.dirs.now c.requires.directions l (omega arith) t (omega arith) (omega arith) (omega arith))
          made;
      none = λ e. absurd (omega arith);
    }
