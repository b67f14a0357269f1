use Rattle.std.proofs.Common.{◌≡◌, ◌-◌, to_z, of_z, w32, ap, ◌∙◌, arith}
use Rattle.av1_plane.proofs.Places.{signed}
use Rattle.std.specs.Int.RustNames.{unsigned_abs}
use Rattle.av1_cdef.specs.Part.{settings_by, table_direction, table_variance}
use Rattle.av1_block.specs.Tables.{view_entries, view_step}
use Rattle.av1_cdef.specs.Picture.{cdef_picture_of}
use Rattle.av1_cdef.proofs.Windows.{block_same}
use Rattle.av1_cdef.proofs.Parts.{part_is, block_of, block_fits}
use Rattle.av1_cdef.proofs.part.part_block.Goals as goal

pub put_block-requires-clause-block : goal.put_block-requires-clause-block
put_block-requires-clause-block g c = rw c.sides_of-sides.ensures (block_of (cdef_picture_of g.T.Pixel.number c.args.source.now) g.row.W g.row.H _ _ c.args.cols c.args.rows c.requires.some_width c.requires.some_height c.requires.cols c.requires.rows c.requires.u c.requires.v)

pub put_block-requires-clause-x : goal.put_block-requires-clause-x
put_block-requires-clause-x g c = block_fits g.row.W _ c.args.cols _ c.requires.u c.requires.cols

pub put_block-requires-clause-y : goal.put_block-requires-clause-y
put_block-requires-clause-y g c = block_fits g.row.H _ c.args.rows _ c.requires.v c.requires.rows

pub returns-clause-value : goal.returns-clause-value
returns-clause-value g c =
    let a = c.args in
    let dir : c.from-direction.result ≡ table_direction a.dirs.now (a.u - a.left) (a.v - a.top) = cc in
    let plain : to_z w32 (of_z w32 c.var.result) ≡ c.var.result = grind (arith, signed) in
    let var : c.unsigned_abs-variance.result ≡ unsigned_abs (table_variance a.dirs.now (a.u - a.left) (a.v - a.top)) =
    c.unsigned_abs-variance.ensures.value ∙ ap unsigned_abs (plain ∙ c.var.ensures) in
    let settings : c.settings_at-settings.result ≡ settings_by a.plan (table_direction a.dirs.now (a.u - a.left) (a.v - a.top)) (unsigned_abs (table_variance a.dirs.now (a.u - a.left) (a.v - a.top))) =
    c.settings_at-settings.ensures.value
    ∙ ap (λ n. settings_by a.plan n c.unsigned_abs-variance.result) dir
    ∙ ap (λ n. settings_by a.plan (table_direction a.dirs.now (a.u - a.left) (a.v - a.top)) n) var in
    block_same _ _ _ _ _ _ _ _ _ _
    (λ i j li lj. part_is (cdef_picture_of g.T.Pixel.number a.source.now) (view_entries a.blocks.now) (view_step a.blocks.now) a.plan a.dirs.now a.tx a.ty g.row.W g.row.H a.left a.top a.u a.v i j _ _ c.is_skipped-skip.ensures settings)
    c.put_block.ensures.value
