use Rattle.std.proofs.Common.{◌≡◌, ap, arith, sym, ◌∙◌}
use Rattle.av1_tiling.specs.Frames.{Parameters}
use Rattle.av1_block.specs.Tables.{view_entries, view_step, view_cols, view_rows}
use Rattle.av1_cdef.specs.Picture.{cdef_picture_of}
use Rattle.av1_cdef.specs.Analysis.{deblocked_by}
use Rattle.av1_cdef.proofs.Analyses.{filtered_inside, direction_some, direction_none, variance_some, variance_none}
use Rattle.av1_cdef.proofs.analysis.find_filtered.Goals as goal

pub find_block-direction-requires-clause-bx : goal.find_block-direction-requires-clause-bx
find_block-direction-requires-clause-bx g c =
    let b = c.args.blocks.now in
    let inside = (filtered_inside (view_entries b) (view_step b) (view_cols b) (view_rows b) c.args.u c.args.v (sym c.filters.ensures ∙ c.if-filters.true)).0 in
    let w = c.requires.width in omega arith

pub find_block-direction-requires-clause-by : goal.find_block-direction-requires-clause-by
find_block-direction-requires-clause-by g c =
    let b = c.args.blocks.now in
    let inside = (filtered_inside (view_entries b) (view_step b) (view_cols b) (view_rows b) c.args.u c.args.v (sym c.filters.ensures ∙ c.if-filters.true)).1 in
    let h = c.requires.height in omega arith

pub returns-then-filters-clause-direction : goal.returns-then-filters-clause-direction
returns-then-filters-clause-direction g c =
    let b = c.args.blocks.now in
    let depth : c.fi.inside.sequence.bit_depth ≡ c.args.fi.now.sequence.bit_depth = ap (λ (p : Parameters). p.sequence.bit_depth) c.fi.view_is in
    (rw depth at c.find_block-direction.ensures.direction) ∙ direction_some (deblocked_by c.args.fi.now (cdef_picture_of g.T.Pixel.number c.args.source.now) b c.args.tx c.args.ty) c.args.u c.args.v (sym c.filters.ensures ∙ c.if-filters.true)

pub returns-then-filters-clause-variance : goal.returns-then-filters-clause-variance
returns-then-filters-clause-variance g c =
    let b = c.args.blocks.now in
    let depth : c.fi.inside.sequence.bit_depth ≡ c.args.fi.now.sequence.bit_depth = ap (λ (p : Parameters). p.sequence.bit_depth) c.fi.view_is in
    (rw depth at c.find_block-direction.ensures.variance) ∙ variance_some (deblocked_by c.args.fi.now (cdef_picture_of g.T.Pixel.number c.args.source.now) b c.args.tx c.args.ty) c.args.u c.args.v (sym c.filters.ensures ∙ c.if-filters.true)

pub returns-else-filters-clause-direction : goal.returns-else-filters-clause-direction
returns-else-filters-clause-direction g c =
    let b = c.args.blocks.now in
    direction_none (deblocked_by c.args.fi.now (cdef_picture_of g.T.Pixel.number c.args.source.now) b c.args.tx c.args.ty) c.args.u c.args.v (sym c.filters.ensures ∙ c.if-filters.false)

pub returns-else-filters-clause-variance : goal.returns-else-filters-clause-variance
returns-else-filters-clause-variance g c =
    let b = c.args.blocks.now in
    variance_none (deblocked_by c.args.fi.now (cdef_picture_of g.T.Pixel.number c.args.source.now) b c.args.tx c.args.ty) c.args.u c.args.v (sym c.filters.ensures ∙ c.if-filters.false)
