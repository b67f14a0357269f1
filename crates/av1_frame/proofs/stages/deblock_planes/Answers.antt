use Rattle.std.proofs.Common.{rules, ◌≡◌, ◌+◌, ◌*◌, ◌^◌, ◌≤◌, ℕ, drop, sym, ap, subst, ◌∙◌, arith}
use Rattle.av1_plane.specs.Numbers.{IsDepth}
use Rattle.av1_block.specs.declared.block.Block.{Block}
use Rattle.av1_block.specs.Rows.{Rows}
use Rattle.av1_block.specs.Tables.{view_entries, view_step}
use Rattle.av1_plane.specs.declared.plane.Plane.{Plane}
use Rattle.av1_tiling.specs.Views.{view_plane}
use Rattle.av1_tiling.specs.Frames.{Parameters}
use Rattle.av1_frame.specs.Planes.{IsPlaneFor}
use Rattle.av1_deblock.specs.Edges.{blocks_in}
use Rattle.av1_deblock.specs.Conditions.{CoversBlocks}
use Rattle.av1_deblock.specs.Frames.{frame_shape, deblocking, CanDeblock, IsDeblockedInFrame}
use Rattle.av1_frame.specs.Coding.{decimations_of}
use Rattle.av1_frame.specs.Reference.{plane_count}
use Rattle.av1_frame.proofs.BestLevels.{depth_is, depth_fits}
use Rattle.av1_frame.proofs.Deblocking.{covers_blocks, table_is, can_deblock, deblocked_is, deblocked_range}
use Rattle.av1_frame.proofs.stages.deblock_planes.Goals as goal

pub deblock_filter_frame-requires-clause-y : goal.deblock_filter_frame-requires-clause-y
deblock_filter_frame-requires-clause-y g c κs within =
    subst (λ (p : Parameters). CanDeblock g.T.Pixel.number (frame_shape p.width p.height p.sequence.bit_depth) 0 c.as_region_mut-y.result) (sym c.fi.view_is)
    (can_deblock g.T.Pixel.number c.args.fi.now 0 c.args.y.now c.as_region_mut-y.result c.as_region_mut-y.ensures.region c.requires.y)

pub deblock_filter_frame-requires-clause-u : goal.deblock_filter_frame-requires-clause-u
deblock_filter_frame-requires-clause-u g c κs within some =
    subst (λ (p : Parameters). CanDeblock g.T.Pixel.number (frame_shape p.width p.height p.sequence.bit_depth) 1 c.as_region_mut-u.result) (sym c.fi.view_is)
    (can_deblock g.T.Pixel.number c.args.fi.now 1 c.args.u.now c.as_region_mut-u.result c.as_region_mut-u.ensures.region c.requires.u)

pub deblock_filter_frame-requires-clause-v : goal.deblock_filter_frame-requires-clause-v
deblock_filter_frame-requires-clause-v g c κs within some =
    subst (λ (p : Parameters). CanDeblock g.T.Pixel.number (frame_shape p.width p.height p.sequence.bit_depth) 2 c.as_region_mut-v.result) (sym c.fi.view_is)
    (can_deblock g.T.Pixel.number c.args.fi.now 2 c.args.v.now c.as_region_mut-v.result c.as_region_mut-v.ensures.region c.requires.v)

pub deblock_filter_frame-requires-clause-blocks : goal.deblock_filter_frame-requires-clause-blocks
deblock_filter_frame-requires-clause-blocks g c κs within =
    let p = c.args.fi.now in
    let b = c.args.blocks.now in
    let d = decimations_of p.sequence.chroma_sampling in
    let first : 0 * b.cols + 0 ≡ 0 = omega arith in
    let entries = c.new-table.ensures.entries ∙ ap (λ (n : ℕ). drop n b.entries) first in
    subst (λ (q : Parameters). CoversBlocks q.width q.height c.new-table.result) (sym c.fi.view_is)
    (covers_blocks p.width p.height d.0 d.1 b.entries c.new-table.result entries (c.new-table.ensures.cols ∙ (ap (λ (r : Rows Block). r.cols) c.blocks-2.view_is ∙ (c.requires.blocks_for.columns ∙ c.requires.frame.columns)))
    (c.new-table.ensures.rows ∙ (ap (λ (r : Rows Block). r.rows) c.blocks-2.view_is ∙ (c.requires.blocks_for.rows ∙ c.requires.frame.rows))) c.requires.blocks)

pub deblock_filter_frame-requires-clause-depth : goal.deblock_filter_frame-requires-clause-depth
deblock_filter_frame-requires-clause-depth g c κs within =
    subst (λ (q : Parameters). IsDepth q.sequence.bit_depth) (sym c.fi.view_is) (depth_is g.T.Pixel.limit c.args.fi.now.sequence.bit_depth c.requires.frame.depth)

pub deblock_filter_frame-requires-clause-limit : goal.deblock_filter_frame-requires-clause-limit
deblock_filter_frame-requires-clause-limit g c κs within =
    subst (λ (q : Parameters). 2 ^ q.sequence.bit_depth ≤ g.T.Pixel.limit) (sym c.fi.view_is) (depth_fits g.T.Pixel.limit c.args.fi.now.sequence.bit_depth c.requires.frame.depth)

pub returns-clause-y : goal.returns-clause-y
returns-clause-y g c =
    let p = c.args.fi.now in
    let b = c.args.blocks.now in
    let d = c.args.deblock.now in
    let first : 0 * b.cols + 0 ≡ 0 = omega arith in
    let entries = c.new-table.ensures.entries ∙ ap (λ (n : ℕ). drop n b.entries) first in
    let table = table_is p b.entries (view_entries c.new-table.result) (view_step c.new-table.result) entries (c.new-table.ensures.step ∙ c.requires.blocks_for.columns) in
    let count = c.plane_count-planes.ensures.value ∙ ap (λ (q : Parameters). plane_count q.sequence.chroma_sampling) c.fi.view_is in
    let left = subst (λ (q : Parameters). IsDeblockedInFrame g.T.Pixel.number (deblocking d (blocks_in c.new-table.result) (frame_shape q.width q.height q.sequence.bit_depth)) c.plane_count-planes.result 0 c.as_region_mut-y.result c.deblock_filter_frame.new.tile.planes.y) c.fi.view_is c.deblock_filter_frame.ensures.y in
    let made = deblocked_is g.T.Pixel.number p 0 c.args.y.now c.as_region_mut-y.result c.as_region_mut-y.ensures.region c.plane_count-planes.result d b.entries (blocks_in c.new-table.result) c.deblock_filter_frame.new.tile.planes.y count table left in
    let same : c.y-1.given.0 ≡ c.deblock_filter_frame.new.tile.planes.y.plane.now = search rules in
    ap (view_plane g.T.Pixel.number) same ∙ made

pub returns-clause-y_range : goal.returns-clause-y_range
returns-clause-y_range g c =
    let p = c.args.fi.now in
    let d = c.args.deblock.now in
    let left = subst (λ (q : Parameters). IsDeblockedInFrame g.T.Pixel.number (deblocking d (blocks_in c.new-table.result) (frame_shape q.width q.height q.sequence.bit_depth)) c.plane_count-planes.result 0 c.as_region_mut-y.result c.deblock_filter_frame.new.tile.planes.y) c.fi.view_is c.deblock_filter_frame.ensures.y in
    let made = deblocked_range g.T.Pixel.number p 0 c.args.y.now c.as_region_mut-y.result c.as_region_mut-y.ensures.region c.plane_count-planes.result d (blocks_in c.new-table.result) c.deblock_filter_frame.new.tile.planes.y left c.requires.y in
    let same : c.y-1.given.0 ≡ c.deblock_filter_frame.new.tile.planes.y.plane.now = search rules in
    subst (λ (q : Plane g.row.T.Denot). IsPlaneFor p 0 (view_plane g.T.Pixel.number q)) (sym same) made

pub returns-clause-u : goal.returns-clause-u
returns-clause-u g c =
    let p = c.args.fi.now in
    let b = c.args.blocks.now in
    let d = c.args.deblock.now in
    let first : 0 * b.cols + 0 ≡ 0 = omega arith in
    let entries = c.new-table.ensures.entries ∙ ap (λ (n : ℕ). drop n b.entries) first in
    let table = table_is p b.entries (view_entries c.new-table.result) (view_step c.new-table.result) entries (c.new-table.ensures.step ∙ c.requires.blocks_for.columns) in
    let count = c.plane_count-planes.ensures.value ∙ ap (λ (q : Parameters). plane_count q.sequence.chroma_sampling) c.fi.view_is in
    let left = subst (λ (q : Parameters). IsDeblockedInFrame g.T.Pixel.number (deblocking d (blocks_in c.new-table.result) (frame_shape q.width q.height q.sequence.bit_depth)) c.plane_count-planes.result 1 c.as_region_mut-u.result c.deblock_filter_frame.new.tile.planes.u) c.fi.view_is c.deblock_filter_frame.ensures.u in
    let made = deblocked_is g.T.Pixel.number p 1 c.args.u.now c.as_region_mut-u.result c.as_region_mut-u.ensures.region c.plane_count-planes.result d b.entries (blocks_in c.new-table.result) c.deblock_filter_frame.new.tile.planes.u count table left in
    let same : c.u-1.given.0 ≡ c.deblock_filter_frame.new.tile.planes.u.plane.now = search rules in
    ap (view_plane g.T.Pixel.number) same ∙ made

pub returns-clause-u_range : goal.returns-clause-u_range
returns-clause-u_range g c =
    let p = c.args.fi.now in
    let d = c.args.deblock.now in
    let left = subst (λ (q : Parameters). IsDeblockedInFrame g.T.Pixel.number (deblocking d (blocks_in c.new-table.result) (frame_shape q.width q.height q.sequence.bit_depth)) c.plane_count-planes.result 1 c.as_region_mut-u.result c.deblock_filter_frame.new.tile.planes.u) c.fi.view_is c.deblock_filter_frame.ensures.u in
    let made = deblocked_range g.T.Pixel.number p 1 c.args.u.now c.as_region_mut-u.result c.as_region_mut-u.ensures.region c.plane_count-planes.result d (blocks_in c.new-table.result) c.deblock_filter_frame.new.tile.planes.u left c.requires.u in
    let same : c.u-1.given.0 ≡ c.deblock_filter_frame.new.tile.planes.u.plane.now = search rules in
    subst (λ (q : Plane g.row.T.Denot). IsPlaneFor p 1 (view_plane g.T.Pixel.number q)) (sym same) made

pub returns-clause-v : goal.returns-clause-v
returns-clause-v g c =
    let p = c.args.fi.now in
    let b = c.args.blocks.now in
    let d = c.args.deblock.now in
    let first : 0 * b.cols + 0 ≡ 0 = omega arith in
    let entries = c.new-table.ensures.entries ∙ ap (λ (n : ℕ). drop n b.entries) first in
    let table = table_is p b.entries (view_entries c.new-table.result) (view_step c.new-table.result) entries (c.new-table.ensures.step ∙ c.requires.blocks_for.columns) in
    let count = c.plane_count-planes.ensures.value ∙ ap (λ (q : Parameters). plane_count q.sequence.chroma_sampling) c.fi.view_is in
    let left = subst (λ (q : Parameters). IsDeblockedInFrame g.T.Pixel.number (deblocking d (blocks_in c.new-table.result) (frame_shape q.width q.height q.sequence.bit_depth)) c.plane_count-planes.result 2 c.as_region_mut-v.result c.deblock_filter_frame.new.tile.planes.v) c.fi.view_is c.deblock_filter_frame.ensures.v in
    let made = deblocked_is g.T.Pixel.number p 2 c.args.v.now c.as_region_mut-v.result c.as_region_mut-v.ensures.region c.plane_count-planes.result d b.entries (blocks_in c.new-table.result) c.deblock_filter_frame.new.tile.planes.v count table left in
    let same : c.v-1.given.0 ≡ c.deblock_filter_frame.new.tile.planes.v.plane.now = search rules in
    ap (view_plane g.T.Pixel.number) same ∙ made

pub returns-clause-v_range : goal.returns-clause-v_range
returns-clause-v_range g c =
    let p = c.args.fi.now in
    let d = c.args.deblock.now in
    let left = subst (λ (q : Parameters). IsDeblockedInFrame g.T.Pixel.number (deblocking d (blocks_in c.new-table.result) (frame_shape q.width q.height q.sequence.bit_depth)) c.plane_count-planes.result 2 c.as_region_mut-v.result c.deblock_filter_frame.new.tile.planes.v) c.fi.view_is c.deblock_filter_frame.ensures.v in
    let made = deblocked_range g.T.Pixel.number p 2 c.args.v.now c.as_region_mut-v.result c.as_region_mut-v.ensures.region c.plane_count-planes.result d (blocks_in c.new-table.result) c.deblock_filter_frame.new.tile.planes.v left c.requires.v in
    let same : c.v-1.given.0 ≡ c.deblock_filter_frame.new.tile.planes.v.plane.now = search rules in
    subst (λ (q : Plane g.row.T.Denot). IsPlaneFor p 2 (view_plane g.T.Pixel.number q)) (sym same) made
