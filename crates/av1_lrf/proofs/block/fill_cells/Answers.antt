use Rattle.std.proofs.Common.{◌+◌, ◌*◌, map, arith, ap, ◌∙◌}
use Rattle.av1_lrf.specs.Rows.{stripe_source}
use Rattle.av1_lrf.specs.Taps.{scene_by}
use Rattle.av1_lrf.proofs.CellFacts.{cells_more, across_made, line_source}
use Rattle.av1_lrf.proofs.PictureFacts.{look_of}
use Rattle.av1_lrf.proofs.block.fill_cells.Goals as goal

pub source_row-row-requires : goal.source_row-row-requires
source_row-row-requires g c = look_of g.T.Pixel.number c.args.e c.args.cdeffed.now c.args.deblocked.now c.requires.scene

pub fill_line-requires-clause-range : goal.fill_line-requires-clause-range
fill_line-requires-clause-range g c = c.source_row-row.ensures.range 32768 c.requires.scene.enhanced c.requires.scene.deblocked

pub loop-j-preserved : goal.loop-j-preserved
loop-j-preserved g c =
    let s = scene_by g.T.Pixel.number c.args.e c.args.cdeffed.now c.args.deblocked.now in
    let y = c.args.y + c.loop-j.j in
    cells_more c.args.n c.loop-j.j _ _ _ _ c.requires.n c.loop-j.invariant c.filter_across.ensures
    (λ i l. across_made _ _ s (c.args.x + i) y _
    (λ k lk. line_source s (map g.T.Pixel.number c.source_row-row.result.now) c.fill_line.new.line c.args.x y (i + k * 1) _ (omega arith) (omega arith) c.source_row-row.ensures.long c.source_row-row.ensures.value c.fill_line.ensures
    ∙ ap (λ at. stripe_source s at y) (omega arith)))
