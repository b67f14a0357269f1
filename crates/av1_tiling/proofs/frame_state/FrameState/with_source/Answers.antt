use Rattle.std.proofs.Common.{rules, ◌≡◌, replicate, ap, sym, subst, ◌∙◌}
use Rattle.std.specs.Arc.{arc_value}
use Rattle.av1_tiling.specs.Views.{view_frame, view_plane}
use Rattle.av1_tiling.specs.Motion.{blank_motion}
use Rattle.av1_tiling.specs.Restoration.{units_in}
use Rattle.av1_tiling.specs.UnitSizes.{start_units}
use Rattle.av1_plane.specs.Planes.{IsBlank}
use Rattle.av1_tiling.specs.Frames.{Parameters, blank_frame, IsStateFor}
use Rattle.av1_tiling.proofs.Blank.{blank_view, start_made}
use Rattle.av1_tiling.proofs.frame_state.FrameState.with_source.Goals as goal

pub returns-clause-start : goal.returns-clause-start
returns-clause-start g c =
    let number = g.T.Pixel.number in
    let fi = c.args.fi.now in
    let blank : IsBlank number fi.width fi.height fi.sequence.chroma_sampling c.in_ok-rec.rec =
    subst (λ (p : Parameters). IsBlank number p.width p.height p.sequence.chroma_sampling c.in_ok-rec.rec) c.fi.view_is c.in_ok-rec.ensures in
    let shared : arc_value c.in_ok-new.field-0 ≡ c.in_ok-rec.rec = search rules in
    let rec : view_frame number (arc_value c.in_ok-new.field-0) ≡ blank_frame fi.width fi.height fi.sequence.chroma_sampling =
    ap (view_frame number) shared ∙ blank_view number fi.width fi.height fi.sequence.chroma_sampling c.in_ok-rec.rec blank in
    let motion : c.in_ok-frame_me_stats.frame_me_stats.items ≡ replicate 8 (blank_motion fi.w_in_b fi.h_in_b) =
    subst (λ (p : Parameters). c.in_ok-frame_me_stats.frame_me_stats.items ≡ replicate 8 (blank_motion p.w_in_b p.h_in_b)) c.fi.view_is c.in_ok-frame_me_stats.ensures in
    let units : units_in c.in_ok-restoration.restoration ≡ start_units fi = c.in_ok-restoration.ensures in
    λ i. record {
      input = view_frame number (arc_value c.args.input);
      input_hres = view_plane number (arc_value c.args.input_hres);
      input_qres = view_plane number (arc_value c.args.input_qres);
      rec = rec i;
      context_update_tile_id = 0;
      max_tile_size_bytes = 0;
      deblock = c.default.ensures i;
      segmentation = c.default-2.ensures i;
      restoration = units i;
      frame_me_stats = motion i;
    }

pub returns-clause-made_for : goal.returns-clause-made_for
returns-clause-made_for g c =
    let number = g.T.Pixel.number in
    let p = c.args.fi.now in
    let input = view_frame number (arc_value c.args.input) in
    let hres = view_plane number (arc_value c.args.input_hres) in
    let qres = view_plane number (arc_value c.args.input_qres) in
    subst (IsStateFor p) (sym (returns-clause-start g c)) (start_made p input hres qres c.requires.input)
