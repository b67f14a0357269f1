use Rattle.std.proofs.Common.{rules, ◌≡◌, ◌+◌, ◌*◌, ℕ, List, drop, ap, ◌∙◌, arith}
use Rattle.av1_plane.specs.Region.{numbers_under}
use Rattle.av1_block.specs.declared.block.Block.{Block}
use Rattle.av1_block.specs.Rows.{Rows}
use Rattle.av1_block.specs.Tables.{view_entries}
use Rattle.av1_tiling.specs.Views.{view_plane, view_frame}
use Rattle.av1_cdef.specs.Whole.{whole_frame, view_picture, cdef_frame}
use Rattle.av1_frame.specs.Coding.{decimations_of}
use Rattle.av1_frame.proofs.Enhancing.{has_indices, holds_lent, whole_lent, enhanced_is}
use Rattle.av1_frame.proofs.stages.cdef_planes.Goals as goal

pub cdef_filter_tile-requires-clause-blocks : goal.cdef_filter_tile-requires-clause-blocks
cdef_filter_tile-requires-clause-blocks g c =
    let b = c.args.blocks.now in
    let cols = c.requires.blocks_for.columns ∙ c.requires.frame.columns in
    let rows = c.requires.blocks_for.rows ∙ c.requires.frame.rows in
    let wide = c.new-table.ensures.cols ∙ ap (λ (r : Rows Block). r.cols) c.blocks-2.view_is in
    let high = c.new-table.ensures.rows ∙ ap (λ (r : Rows Block). r.rows) c.blocks-2.view_is in
    let x = c.new-table.ensures.x in
    let y = c.new-table.ensures.y in
    record {
      table_cols = c.new-table.ensures.frame_cols ∙ c.requires.blocks_for.columns;
      table_rows = c.new-table.ensures.frame_rows ∙ c.requires.blocks_for.rows;
      left = omega arith;
      top = omega arith;
      cols = omega arith;
      rows = omega arith;
    }

pub cdef_filter_tile-requires-clause-indices : goal.cdef_filter_tile-requires-clause-indices
cdef_filter_tile-requires-clause-indices g c =
    let b = c.args.blocks.now in
    let d = decimations_of c.args.fi.now.sequence.chroma_sampling in
    let first : 0 * b.cols + 0 ≡ 0 = omega arith in
    has_indices d.0 d.1 b.entries c.new-table.result (c.new-table.ensures.entries ∙ ap (λ (n : ℕ). drop n b.entries) first) c.requires.blocks

pub cdef_filter_tile-requires-clause-output : goal.cdef_filter_tile-requires-clause-output
cdef_filter_tile-requires-clause-output g c =
    let b = c.args.blocks.now in
    let wide = c.new-table.ensures.cols ∙ (ap (λ (r : Rows Block). r.cols) c.blocks-2.view_is ∙ c.requires.blocks_for.columns) in
    let high = c.new-table.ensures.rows ∙ (ap (λ (r : Rows Block). r.rows) c.blocks-2.view_is ∙ c.requires.blocks_for.rows) in
    holds_lent g.T.Pixel.number g.T.Pixel.limit c.args.fi.now c.args.deblocked.now c.args.y.now c.args.u.now c.args.v.now c.new-table.result
    (record { planes = record { y = c.as_region_mut-y.result; u = c.as_region_mut-u.result; v = c.as_region_mut-v.result } })
    c.requires.frame c.requires.deblocked c.requires.same_y c.requires.same_u c.requires.same_v
    c.as_region_mut-y.ensures.region c.as_region_mut-u.ensures.region c.as_region_mut-v.ensures.region wide high

pub returns-clause-y : goal.returns-clause-y
returns-clause-y g c =
    let number = g.T.Pixel.number in
    let p = c.args.fi.now in
    let b = c.args.blocks.now in
    let f = c.args.deblocked.now in
    let first : 0 * b.cols + 0 ≡ 0 = omega arith in
    let entries : view_entries c.new-table.result ≡ b.entries = c.new-table.ensures.entries ∙ ap (λ (n : ℕ). drop n b.entries) first in
    let wide = c.new-table.ensures.cols ∙ (ap (λ (r : Rows Block). r.cols) c.blocks-2.view_is ∙ c.requires.blocks_for.columns) in
    let high = c.new-table.ensures.rows ∙ (ap (λ (r : Rows Block). r.rows) c.blocks-2.view_is ∙ c.requires.blocks_for.rows) in
    let whole = whole_lent number g.T.Pixel.limit p f c.args.y.now c.args.u.now c.args.v.now c.new-table.result
    (record { planes = record { y = c.as_region_mut-y.result; u = c.as_region_mut-u.result; v = c.as_region_mut-v.result } })
    c.requires.frame c.requires.deblocked c.requires.same_y c.requires.same_u c.requires.same_v
    c.as_region_mut-y.ensures.region c.as_region_mut-u.ensures.region c.as_region_mut-v.ensures.region wide high (c.new-table.ensures.step ∙ c.requires.blocks_for.columns) in
    let after = c.cdef_filter_tile.new.output.planes.y in
    let samples : numbers_under number after ≡ (cdef_frame p b.entries (view_frame number f)).y.samples =
    (c.cdef_filter_tile.ensures.frame whole).y ∙ ap (λ (bs : List Block). (cdef_frame p bs (view_frame number f)).y.samples) entries in
    let same : c.y-1.given.0 ≡ after.plane.now = search rules in
    ap (view_plane number) same
    ∙ enhanced_is number (whole_frame p b.entries (view_picture (view_frame number f).y)) 0 f.planes.y c.args.y.now c.as_region_mut-y.result after c.requires.same_y c.as_region_mut-y.ensures.region c.cdef_filter_tile.ensures.filtered.y.part samples

pub returns-clause-u : goal.returns-clause-u
returns-clause-u g c =
    let number = g.T.Pixel.number in
    let p = c.args.fi.now in
    let b = c.args.blocks.now in
    let f = c.args.deblocked.now in
    let first : 0 * b.cols + 0 ≡ 0 = omega arith in
    let entries : view_entries c.new-table.result ≡ b.entries = c.new-table.ensures.entries ∙ ap (λ (n : ℕ). drop n b.entries) first in
    let wide = c.new-table.ensures.cols ∙ (ap (λ (r : Rows Block). r.cols) c.blocks-2.view_is ∙ c.requires.blocks_for.columns) in
    let high = c.new-table.ensures.rows ∙ (ap (λ (r : Rows Block). r.rows) c.blocks-2.view_is ∙ c.requires.blocks_for.rows) in
    let whole = whole_lent number g.T.Pixel.limit p f c.args.y.now c.args.u.now c.args.v.now c.new-table.result
    (record { planes = record { y = c.as_region_mut-y.result; u = c.as_region_mut-u.result; v = c.as_region_mut-v.result } })
    c.requires.frame c.requires.deblocked c.requires.same_y c.requires.same_u c.requires.same_v
    c.as_region_mut-y.ensures.region c.as_region_mut-u.ensures.region c.as_region_mut-v.ensures.region wide high (c.new-table.ensures.step ∙ c.requires.blocks_for.columns) in
    let after = c.cdef_filter_tile.new.output.planes.u in
    let samples : numbers_under number after ≡ (cdef_frame p b.entries (view_frame number f)).u.samples =
    (c.cdef_filter_tile.ensures.frame whole).u ∙ ap (λ (bs : List Block). (cdef_frame p bs (view_frame number f)).u.samples) entries in
    let same : c.u-1.given.0 ≡ after.plane.now = search rules in
    ap (view_plane number) same
    ∙ enhanced_is number (whole_frame p b.entries (view_picture (view_frame number f).y)) 1 f.planes.u c.args.u.now c.as_region_mut-u.result after c.requires.same_u c.as_region_mut-u.ensures.region c.cdef_filter_tile.ensures.filtered.u.part samples

pub returns-clause-v : goal.returns-clause-v
returns-clause-v g c =
    let number = g.T.Pixel.number in
    let p = c.args.fi.now in
    let b = c.args.blocks.now in
    let f = c.args.deblocked.now in
    let first : 0 * b.cols + 0 ≡ 0 = omega arith in
    let entries : view_entries c.new-table.result ≡ b.entries = c.new-table.ensures.entries ∙ ap (λ (n : ℕ). drop n b.entries) first in
    let wide = c.new-table.ensures.cols ∙ (ap (λ (r : Rows Block). r.cols) c.blocks-2.view_is ∙ c.requires.blocks_for.columns) in
    let high = c.new-table.ensures.rows ∙ (ap (λ (r : Rows Block). r.rows) c.blocks-2.view_is ∙ c.requires.blocks_for.rows) in
    let whole = whole_lent number g.T.Pixel.limit p f c.args.y.now c.args.u.now c.args.v.now c.new-table.result
    (record { planes = record { y = c.as_region_mut-y.result; u = c.as_region_mut-u.result; v = c.as_region_mut-v.result } })
    c.requires.frame c.requires.deblocked c.requires.same_y c.requires.same_u c.requires.same_v
    c.as_region_mut-y.ensures.region c.as_region_mut-u.ensures.region c.as_region_mut-v.ensures.region wide high (c.new-table.ensures.step ∙ c.requires.blocks_for.columns) in
    let after = c.cdef_filter_tile.new.output.planes.v in
    let samples : numbers_under number after ≡ (cdef_frame p b.entries (view_frame number f)).v.samples =
    (c.cdef_filter_tile.ensures.frame whole).v ∙ ap (λ (bs : List Block). (cdef_frame p bs (view_frame number f)).v.samples) entries in
    let same : c.v-1.given.0 ≡ after.plane.now = search rules in
    ap (view_plane number) same
    ∙ enhanced_is number (whole_frame p b.entries (view_picture (view_frame number f).y)) 2 f.planes.v c.args.v.now c.as_region_mut-v.result after c.requires.same_v c.as_region_mut-v.ensures.region c.cdef_filter_tile.ensures.filtered.v.part samples
