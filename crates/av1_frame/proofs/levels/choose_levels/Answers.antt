use Rattle.std.proofs.Common.{◌/◌, ◌≤◌, refl, sym, ap, subst, ◌∙◌}
use Rattle.av1_plane.specs.Layout.{rounded}
use Rattle.av1_plane.specs.declared.plane.PlaneConfig.{PlaneConfig}
use Rattle.av1_plane.specs.declared.three.Three.{Three}
use Rattle.av1_tiling.specs.Frames.{Parameters}
use Rattle.av1_tiling.specs.Views.{view_frame}
use Rattle.av1_deblock.specs.Frames.{frame_shape}
use Rattle.av1_deblock.specs.Choice.{CanTally, measured_frame}
use Rattle.av1_frame.proofs.BestLevels.{y_for, u_for, v_for, depth_is, can_tally, measured_is, levels_are, levels_low}
use Rattle.av1_frame.proofs.levels.choose_levels.Goals as goal

pub optimize-requires-clause-wide : goal.optimize-requires-clause-wide
optimize-requires-clause-wide g c = subst (λ (p : Parameters). p.width ≤ 65536) (sym c.fi.view_is) c.requires.frame.width.1

pub optimize-requires-clause-high : goal.optimize-requires-clause-high
optimize-requires-clause-high g c = subst (λ (p : Parameters). p.height ≤ 65536) (sym c.fi.view_is) c.requires.frame.height.1

pub optimize-requires-clause-columns : goal.optimize-requires-clause-columns
optimize-requires-clause-columns g c =
    c.requires.blocks.columns ∙ (c.requires.frame.columns ∙ ap (λ (p : Parameters). rounded p.width / 4) (sym c.fi.view_is))

pub optimize-requires-clause-rows : goal.optimize-requires-clause-rows
optimize-requires-clause-rows g c =
    c.requires.blocks.rows ∙ (c.requires.frame.rows ∙ ap (λ (p : Parameters). rounded p.height / 4) (sym c.fi.view_is))

pub optimize-requires-clause-y : goal.optimize-requires-clause-y
optimize-requires-clause-y g c =
    let number = g.T.Pixel.number in
    let p = c.args.fi.now in
    let bd = p.sequence.bit_depth in
    let plane = c.args.coded.now.planes.y in
    let source = c.args.input.now.planes.y in
    let layout = ap (λ (l : Three PlaneConfig). l.y) c.requires.coded.layout in
    let begun = ap (λ (l : Three PlaneConfig). l.y) c.requires.input.layout in
    let fits = y_for p (view_frame number c.args.coded.now) c.requires.frame.width.0 c.requires.frame.height.0 c.requires.coded in
    subst (λ (q : Parameters). CanTally number (frame_shape q.width q.height bd) 0 c.whole-rec.result.planes.y c.whole-source.result.planes.y) (sym c.fi.view_is)
    (can_tally number p.width p.height bd 0 plane source c.whole-rec.result.planes.y c.whole-source.result.planes.y (begun ∙ sym layout) fits.layout c.whole-rec.ensures.y c.whole-source.ensures.y
    c.requires.coded.y_range c.requires.input.y_range)

pub optimize-requires-clause-u : goal.optimize-requires-clause-u
optimize-requires-clause-u g c =
    let number = g.T.Pixel.number in
    let p = c.args.fi.now in
    let bd = p.sequence.bit_depth in
    let plane = c.args.coded.now.planes.u in
    let source = c.args.input.now.planes.u in
    let layout = ap (λ (l : Three PlaneConfig). l.u) c.requires.coded.layout in
    let begun = ap (λ (l : Three PlaneConfig). l.u) c.requires.input.layout in
    let fits = u_for p (view_frame number c.args.coded.now) c.requires.frame.width.0 c.requires.frame.height.0 c.requires.coded in
    subst (λ (q : Parameters). CanTally number (frame_shape q.width q.height bd) 1 c.whole-rec.result.planes.u c.whole-source.result.planes.u) (sym c.fi.view_is)
    (can_tally number p.width p.height bd 1 plane source c.whole-rec.result.planes.u c.whole-source.result.planes.u (begun ∙ sym layout) fits.layout c.whole-rec.ensures.u c.whole-source.ensures.u
    c.requires.coded.u_range c.requires.input.u_range)

pub optimize-requires-clause-v : goal.optimize-requires-clause-v
optimize-requires-clause-v g c =
    let number = g.T.Pixel.number in
    let p = c.args.fi.now in
    let bd = p.sequence.bit_depth in
    let plane = c.args.coded.now.planes.v in
    let source = c.args.input.now.planes.v in
    let layout = ap (λ (l : Three PlaneConfig). l.v) c.requires.coded.layout in
    let begun = ap (λ (l : Three PlaneConfig). l.v) c.requires.input.layout in
    let fits = v_for p (view_frame number c.args.coded.now) c.requires.frame.width.0 c.requires.frame.height.0 c.requires.coded in
    subst (λ (q : Parameters). CanTally number (frame_shape q.width q.height bd) 2 c.whole-rec.result.planes.v c.whole-source.result.planes.v) (sym c.fi.view_is)
    (can_tally number p.width p.height bd 2 plane source c.whole-rec.result.planes.v c.whole-source.result.planes.v (begun ∙ sym layout) fits.layout c.whole-rec.ensures.v c.whole-source.ensures.v
    c.requires.coded.v_range c.requires.input.v_range)

pub returns-clause-value : goal.returns-clause-value
returns-clause-value g c =
    let number = g.T.Pixel.number in
    let p = c.args.fi.now in
    let bd = p.sequence.bit_depth in
    let rec = c.whole-rec.result in
    let source = c.whole-source.result in
    let wide = ap (λ (q : Parameters). q.width) (sym c.fi.view_is) in
    let high = ap (λ (q : Parameters). q.height) (sym c.fi.view_is) in
    let w = c.fi.inside.width in
    let h = c.fi.inside.height in
    let y = measured_is number w h bd 0 p wide high refl c.args.coded.now.planes.y c.args.input.now.planes.y rec.planes.y source.planes.y c.whole-rec.ensures.y c.whole-source.ensures.y in
    let u = measured_is number w h bd 1 p wide high refl c.args.coded.now.planes.u c.args.input.now.planes.u rec.planes.u source.planes.u c.whole-rec.ensures.u c.whole-source.ensures.u in
    let v = measured_is number w h bd 2 p wide high refl c.args.coded.now.planes.v c.args.input.now.planes.v rec.planes.v source.planes.v c.whole-rec.ensures.v c.whole-source.ensures.v in
    levels_are p c.args.blocks.now.entries (view_frame number c.args.coded.now) (view_frame number c.args.input.now)
    (record { entries = c.args.blocks.now.entries; step = c.args.blocks.now.cols }) (measured_frame number (frame_shape w h bd) rec source) c.optimize.result
    (λ i. record { entries = c.args.blocks.now.entries; step = c.requires.blocks.columns i }) (λ i. record { y = y i; u = u i; v = v i })
    c.optimize.ensures.four c.optimize.ensures.levels

pub returns-clause-high : goal.returns-clause-high
returns-clause-high g c =
    let p = c.args.fi.now in
    levels_low p (record { entries = c.args.blocks.now.entries; step = c.args.blocks.now.cols })
    (measured_frame g.T.Pixel.number (frame_shape c.fi.inside.width c.fi.inside.height p.sequence.bit_depth) c.whole-rec.result c.whole-source.result) c.optimize.result
    c.optimize.ensures.four c.optimize.ensures.levels

pub optimize-requires-clause-depth : goal.optimize-requires-clause-depth
optimize-requires-clause-depth g c = depth_is g.T.Pixel.limit c.args.fi.now.sequence.bit_depth c.requires.frame.depth
