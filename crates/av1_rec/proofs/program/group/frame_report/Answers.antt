use Rattle.std.proofs.Common.{rules, ◌≡◌, ℕ, ◌<◌, Some, ap, sym, subst, ◌∙◌}
use Rattle.av1_plane.specs.Layout.{frame_layout}
use Rattle.av1_plane.specs.Sampling.{decimation}
use Rattle.av1_plane.specs.declared.plane.PlaneConfig.{PlaneConfig}
use Rattle.av1_plane.specs.declared.plane.Plane.{Plane}
use Rattle.av1_plane.specs.declared.three.Three.{Three}
use Rattle.av1_tiling.specs.Views.{view_frame}
use Rattle.av1_tiling.specs.Frames.{Parameters, layouts}
use Rattle.av1_rec.proofs.ChromaPlanes.{chroma_filled}
use Rattle.av1_rec.proofs.program.group.frame_report.Goals as goal

pub picture_region-v-requires-clause-some : goal.picture_region-v-requires-clause-some
picture_region-v-requires-clause-some g c =
    let p = c.args.fi.now in
    let s = p.sequence.chroma_sampling in
    let d : ℕ × ℕ = (c.in-Some.xdec, c.in-Some.ydec) in
    let rec : view_frame g.T.Pixel.number c.deref-3.result.now ≡ c.args.fs.now.rec = search rules in
    let layout : layouts (view_frame g.T.Pixel.number c.deref-3.result.now) ≡ frame_layout p.width p.height s = ap layouts rec ∙ c.requires.state.rec in
    let halved : decimation s ≡ Some d = ap (λ (q : Parameters). decimation q.sequence.chroma_sampling) (sym c.fi.view_is) ∙ (sym c.get_decimation.ensures ∙ c.in-Some.is) in
    let filled = chroma_filled p.width p.height s d c.requires.frame.width.0 c.requires.frame.height.0 halved in
    let plane : c.index-3.result.now.cfg ≡ (frame_layout p.width p.height s).v = ap (λ (q : Plane _). q.cfg) c.index-3.ensures ∙ ap (λ (t : Three PlaneConfig). t.v) layout in
    subst (λ (k : PlaneConfig). (0 < k.width) × (0 < k.height)) (sym plane) filled
