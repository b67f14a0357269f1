use Rattle.std.proofs.Common.{◌≡◌, ℕ, ◌+◌, ◌/◌, ◌^◌, ◌≤◌, sym, ap, ◌∙◌, subst}
use Rattle.std.specs.Int.{div_ceil}
use Rattle.av1_plane.specs.declared.frame.Frame.{Frame}
use Rattle.av1_plane.specs.declared.plane.PlaneConfig.{PlaneConfig}
use Rattle.av1_plane.specs.declared.tile_rect.TileRect.{TileRect}
use Rattle.av1_plane.specs.declared.three.Three.{Three}
use Rattle.av1_tiling.specs.Frames.{State, AreMotionTables, PartFits, frame_parts, part_places, unit_parts, motion_parts}
use Rattle.av1_tiling.specs.Restoration.{layouts_of}
use Rattle.av1_tiling.specs.UnitInfos.{blank_infos}
use Rattle.av1_tiling.specs.TileRects.{samples_rect, motion_rect}
use Rattle.av1_tiling.specs.Views.{PlaneView, view_frame, view_plane, view_parts, view_units}
use Rattle.av1_tiling.specs.declared.tile_parts.TileParts.{TileParts}
use Rattle.av1_tiling.proofs.Fits.{fits_y, fits_u, fits_v, motion_sides, motion_across, motion_down}
use Rattle.av1_tiling.proofs.tile_state.TileStateMut.new.Goals as goal

pub take-requires-clause-tables : goal.take-requires-clause-tables
take-requires-clause-tables g c =
    let fs = c.args.fs.now in
    let layout : fs.rec.y.cfg ≡ c.deref-2.result.now.planes.y.cfg =
    ap (λ (s : State). s.rec.y.cfg) (sym c.fs.view_is) ∙ ap (λ (f : Frame g.row.T.Denot). f.planes.y.cfg) (sym c.deref-2.ensures) in
    let tables : fs.frame_me_stats ≡ c.deref-3.result.now = ap (λ (s : State). s.frame_me_stats) (sym c.fs.view_is) ∙ sym c.deref-3.ensures.value in
    subst (λ (cfg : PlaneConfig). AreMotionTables (cfg.width / 4) (cfg.height / 4) c.deref-3.result.now) layout
    (subst (λ ts. AreMotionTables (fs.rec.y.cfg.width / 4) (fs.rec.y.cfg.height / 4) ts) tables (motion_sides fs (c.args.sbo.0.x, c.args.sbo.0.y) c.args.sb_size_log2 c.args.width c.args.height c.requires.tile c.requires.superblock))

pub take-requires-clause-across : goal.take-requires-clause-across
take-requires-clause-across g c =
    let fs = c.args.fs.now in
    let layout : fs.rec.y.cfg ≡ c.deref-2.result.now.planes.y.cfg =
    ap (λ (s : State). s.rec.y.cfg) (sym c.fs.view_is) ∙ ap (λ (f : Frame g.row.T.Denot). f.planes.y.cfg) (sym c.deref-2.ensures) in
    subst (λ (cfg : PlaneConfig). c.motion_rect.result.x + c.motion_rect.result.width ≤ cfg.width / 4) layout
    (subst (λ (r : TileRect). r.x + r.width ≤ fs.rec.y.cfg.width / 4) (sym c.motion_rect.ensures) (motion_across fs (c.args.sbo.0.x, c.args.sbo.0.y) c.args.sb_size_log2 c.args.width c.args.height c.requires.tile c.requires.superblock))

pub take-requires-clause-down : goal.take-requires-clause-down
take-requires-clause-down g c =
    let fs = c.args.fs.now in
    let layout : fs.rec.y.cfg ≡ c.deref-2.result.now.planes.y.cfg =
    ap (λ (s : State). s.rec.y.cfg) (sym c.fs.view_is) ∙ ap (λ (f : Frame g.row.T.Denot). f.planes.y.cfg) (sym c.deref-2.ensures) in
    subst (λ (cfg : PlaneConfig). c.motion_rect.result.y + c.motion_rect.result.height ≤ cfg.height / 4) layout
    (subst (λ (r : TileRect). r.y + r.height ≤ fs.rec.y.cfg.height / 4) (sym c.motion_rect.ensures) (motion_down fs (c.args.sbo.0.x, c.args.sbo.0.y) c.args.sb_size_log2 c.args.width c.args.height c.requires.tile c.requires.superblock))

pub part_places-requires-clause-y : goal.part_places-requires-clause-y
part_places-requires-clause-y g c =
    let fs = c.args.fs.now in
    let layout : fs.rec.y.cfg ≡ c.deref-4.result.now.planes.y.cfg =
    ap (λ (s : State). s.rec.y.cfg) (sym c.fs.view_is) ∙ ap (λ (f : Frame g.row.T.Denot). f.planes.y.cfg) (sym c.deref-4.ensures) in
    subst (λ (cfg : PlaneConfig). PartFits cfg c.samples_rect-luma.result) layout
    (subst (λ (r : TileRect). PartFits fs.rec.y.cfg r) (sym c.samples_rect-luma.ensures)
    (subst (λ (k : _). PartFits fs.rec.y.cfg (samples_rect (c.args.sbo.0.x, c.args.sbo.0.y) k c.args.width c.args.height)) c.requires.superblock (fits_y fs (c.args.sbo.0.x, c.args.sbo.0.y) c.args.sb_size_log2 c.args.width c.args.height c.requires.tile c.requires.superblock)))

pub part_places-requires-clause-u : goal.part_places-requires-clause-u
part_places-requires-clause-u g c =
    let fs = c.args.fs.now in
    let layout : fs.rec.u.cfg ≡ c.deref-4.result.now.planes.u.cfg =
    ap (λ (s : State). s.rec.u.cfg) (sym c.fs.view_is) ∙ ap (λ (f : Frame g.row.T.Denot). f.planes.u.cfg) (sym c.deref-4.ensures) in
    subst (λ (cfg : PlaneConfig). PartFits cfg c.samples_rect-luma.result) layout
    (subst (λ (r : TileRect). PartFits fs.rec.u.cfg r) (sym c.samples_rect-luma.ensures)
    (subst (λ (k : _). PartFits fs.rec.u.cfg (samples_rect (c.args.sbo.0.x, c.args.sbo.0.y) k c.args.width c.args.height)) c.requires.superblock (fits_u fs (c.args.sbo.0.x, c.args.sbo.0.y) c.args.sb_size_log2 c.args.width c.args.height c.requires.tile c.requires.superblock)))

pub part_places-requires-clause-v : goal.part_places-requires-clause-v
part_places-requires-clause-v g c =
    let fs = c.args.fs.now in
    let layout : fs.rec.v.cfg ≡ c.deref-4.result.now.planes.v.cfg =
    ap (λ (s : State). s.rec.v.cfg) (sym c.fs.view_is) ∙ ap (λ (f : Frame g.row.T.Denot). f.planes.v.cfg) (sym c.deref-4.ensures) in
    subst (λ (cfg : PlaneConfig). PartFits cfg c.samples_rect-luma.result) layout
    (subst (λ (r : TileRect). PartFits fs.rec.v.cfg r) (sym c.samples_rect-luma.ensures)
    (subst (λ (k : _). PartFits fs.rec.v.cfg (samples_rect (c.args.sbo.0.x, c.args.sbo.0.y) k c.args.width c.args.height)) c.requires.superblock (fits_v fs (c.args.sbo.0.x, c.args.sbo.0.y) c.args.sb_size_log2 c.args.width c.args.height c.requires.tile c.requires.superblock)))

pub returns : goal.returns
returns g c =
    let fs = c.args.fs.now in
    let number = g.T.Pixel.number in
    let superblock : ℕ × ℕ = (c.args.sbo.0.x, c.args.sbo.0.y) in
    let width = c.args.width in
    let height = c.args.height in
    let built = sym c.requires.superblock in
    let view = c.fs.view_is in
    let luma = c.samples_rect-luma.ensures ∙ ap (λ (k : ℕ). samples_rect superblock k width height) built in
    let motion = c.motion_rect.ensures ∙ ap (λ (k : ℕ). motion_rect superblock k width height) built in
    let sb_width = c.div_ceil-sb_width.ensures ∙ ap (λ (k : ℕ). div_ceil width (2 ^ k)) built in
    let sb_height = c.div_ceil-sb_height.ensures ∙ ap (λ (k : ℕ). div_ceil height (2 ^ k)) built in
    let frame = ap (view_frame number) c.deref.ensures ∙ ap (λ (s : State). s.rec) view in
    let frame_2 = ap (view_frame number) c.deref-2.ensures ∙ ap (λ (s : State). s.rec) view in
    let frame_4 = ap (view_frame number) c.deref-4.ensures ∙ ap (λ (s : State). s.rec) view in
    let tables = c.deref-3.ensures.value ∙ ap (λ (s : State). s.frame_me_stats) view in
    let units = ap (λ (s : State). s.restoration) view in
    let input = ap (view_frame number) c.in_ok-try_clone.ensures ∙ ap (λ (s : State). s.input) view in
    let hres = ap (view_plane number) c.in_ok-try_clone-2.ensures ∙ ap (λ (s : State). s.input_hres) view in
    let qres = ap (view_plane number) c.in_ok-try_clone-3.ensures ∙ ap (λ (s : State). s.input_qres) view in
    let rec = c.in_ok-rec.ensures ∙ (λ i. frame_parts (frame i) (luma i)) in
    let places = c.part_places.ensures ∙ (λ i. part_places (frame_4 i) (luma i)) in
    let unit_cuts = c.in_ok-units.ensures ∙ (λ i. unit_parts (units i) superblock (sb_width i, sb_height i)) in
    let unit_layouts = c.layouts.ensures ∙ ap layouts_of units in
    let me_stats = c.in_ok-me_stats.ensures.parts ∙ (λ i. motion_parts (tables i) (motion i)) in
    let cols = c.in_ok-me_stats.ensures.cols ∙ ap (λ (f : Three PlaneView). f.y.cfg.width / 4) frame_2 in
    let rows = c.in_ok-me_stats.ensures.rows ∙ ap (λ (f : Three PlaneView). f.y.cfg.height / 4) frame_2 in
    let info = c.in_ok-coded_block_info.ensures in
    let kept = c.in_ok-parts.ensures.ok in
    let infos : c.in_ok-coded_block_info.coded_block_info ≡ blank_infos (width / 4) (height / 4) = λ i. record { entries = info.infos i; cols = info.cols i; rows = info.rows i } in
    λ i. record {
      superblock = superblock;
      sb_size_log2 = c.args.sb_size_log2;
      sb_width = sb_width i;
      sb_height = sb_height i;
      mi_width = width / 4;
      mi_height = height / 4;
      width = width;
      height = height;
      input = input i;
      input_hres = hres i;
      input_qres = qres i;
      deblock = ap (λ (s : State). s.deblock) view i;
      segmentation = ap (λ (s : State). s.segmentation) view i;
      coded_block_info = infos i;
      rec = (ap (λ (p : TileParts _). view_parts number p.rec) kept ∙ rec) i;
      places = (ap (λ (p : TileParts _). p.places) kept ∙ places) i;
      units = (ap (λ (p : TileParts _). view_units p.units) kept ∙ unit_cuts) i;
      unit_layouts = (ap (λ (p : TileParts _). p.unit_layouts) kept ∙ unit_layouts) i;
      me_stats = (ap (λ (p : TileParts _). p.me_stats.parts) kept ∙ me_stats) i;
      mi_cols = (ap (λ (p : TileParts _). p.me_stats.mi_cols) kept ∙ cols) i;
      mi_rows = (ap (λ (p : TileParts _). p.me_stats.mi_rows) kept ∙ rows) i;
    }
