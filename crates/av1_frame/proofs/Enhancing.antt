-- A copy of a deblocked frame, lent plane by plane, can be filtered by CDEF into the enhanced frame.
use Rattle.std.proofs.Common.{◌≡◌, ℕ, ℤ, ◌+◌, ◌-◌, ◌*◌, ◌/◌, ◌^◌, ◌<◌, ◌≤◌, inl, inr, List, length, map, get_or, All, refl, sym, ap, ◌∙◌, subst, arith}
use Rattle.std.proofs.lemmas.Bool.{cases_lt}
use Rattle.std.proofs.lemmas.List.{get_or_past}
use Rattle.std.proofs.lemmas.List.Elements.{All-get_or}
use Rattle.av1_plane.specs.declared.plane.PlaneConfig.{PlaneConfig}
use Rattle.av1_plane.specs.declared.plane.Plane.{Plane}
use Rattle.av1_plane.specs.declared.frame.Frame.{Frame}
use Rattle.av1_plane.specs.declared.region.Rect.{Rect}
use Rattle.av1_plane.specs.declared.region_mut.PlaneRegionMut.{PlaneRegionMut}
use Rattle.av1_plane.specs.declared.tile_mut.TileMut.{TileMut}
use Rattle.av1_plane.specs.Layout.{rounded}
use Rattle.av1_plane.specs.Place.{origin_place, from_origin}
use Rattle.av1_plane.specs.Planes.{SamePlane, SameFrame}
use Rattle.av1_plane.specs.Region.{area, numbers_under, IsSamePart}
use Rattle.av1_plane.specs.Regions.{LendsPlane}
use Rattle.av1_block.specs.declared.block.Block.{Block}
use Rattle.av1_block.specs.Block.{default_block}
use Rattle.av1_block.specs.Rule.{IsBlock}
use Rattle.av1_block.specs.Tables.{TileBlocks, view_entries, view_step, view_cols, view_rows, entry_at}
use Rattle.av1_tiling.specs.Views.{PlaneView, view_plane, view_frame}
use Rattle.av1_tiling.specs.Frames.{Parameters, IsFrame, IsInputFor}
use Rattle.av1_cdef.specs.Conditions.{HasIndices, HasViewRoom, HoldsView}
use Rattle.av1_cdef.specs.Frame.{Deblocked}
use Rattle.av1_cdef.specs.Whole.{LiesOn, IsWholeFrame, cdef_plane}
use Rattle.av1_cdef.proofs.Made.{IsPlaneLayout, y_made, u_made, v_made}

-- each entry of a table of blocks has an index of strengths, and so has the block past its end
each_index : (xdec ydec : ℕ) (blocks : List Block) (k : ℕ) → All (IsBlock xdec ydec) blocks → (get_or blocks k default_block).cdef_index ≤ 7
each_index xdec ydec blocks k h = elim (cases_lt k (length blocks)) [
  | inl below ↦ (All-get_or (IsBlock xdec ydec) blocks k default_block below h).cdef
  | inr past ↦ subst (λ (b : Block). b.cdef_index ≤ 7) (sym (get_or_past blocks k default_block past)) (omega arith)
]

-- the blocks of the whole table have an index of strengths
pub has_indices : (xdec ydec : ℕ) (blocks : List Block) (t : TileBlocks) → view_entries t ≡ blocks → All (IsBlock xdec ydec) blocks → HasIndices t
has_indices xdec ydec blocks t same each = record {
  each = λ x y lx ly. subst (λ (bs : List Block). (entry_at bs (view_step t) x y).cdef_index ≤ 7) (sym same) (each_index xdec ydec blocks (y * view_step t + x) each);
}

-- a plane that is lent from its origin on has room for all blocks
room_lent : {X : Type 0} (w h : ℕ) (p q : Plane X) (b : TileBlocks) (r : PlaneRegionMut X) → SamePlane p q → IsPlaneLayout w h p.cfg → LendsPlane q r
    → view_cols b ≡ rounded w / 4 → view_rows b ≡ rounded h / 4 → HasViewRoom p.cfg b r
room_lent w h p q b r same made lent ec er =
    let wide = p.wide in
    let high = p.high in
    let shown : area r ≡ from_origin p.cfg = lent.shown ∙ ap from_origin same.cfg in
    let width : (area r).width ≡ p.cfg.stride - p.cfg.xorigin = ap (λ (a : Rect). a.width) shown in
    let height : (area r).height ≡ p.cfg.alloc_height - p.cfg.yorigin = ap (λ (a : Rect). a.height) shown in
    let mw = made.width in
    let mh = made.height in
    let cols : 4 * (rounded w / 4) ≡ rounded w = omega arith in
    let rows : 4 * (rounded h / 4) ≡ rounded h = omega arith in
    let across : 4 * view_cols b / 2 ^ p.cfg.xdec ≡ rounded w / 2 ^ p.cfg.xdec = ap (λ (n : ℕ). n / 2 ^ p.cfg.xdec) (ap (λ (n : ℕ). 4 * n) ec ∙ cols) in
    let down : 4 * view_rows b / 2 ^ p.cfg.ydec ≡ rounded h / 2 ^ p.cfg.ydec = ap (λ (n : ℕ). n / 2 ^ p.cfg.ydec) (ap (λ (n : ℕ). 4 * n) er ∙ rows) in
    record { stored = lent.stored; width = omega arith; height = omega arith }

-- a plane that is lent from its origin on lies on the plane's samples
lies_lent : {X : Type 0} (number : X → ℤ) (w h : ℕ) (p q : Plane X) (r : PlaneRegionMut X) → SamePlane p q → (0 < p.cfg.width → IsPlaneLayout w h p.cfg) → LendsPlane q r → LiesOn number p r
lies_lent number w h p q r same made lent = record {
  start = λ some.
      let filled = (made some).some in
      let high = q.high in
      let height : q.cfg.height ≡ p.cfg.height = ap (λ (c : PlaneConfig). c.height) same.cfg in
      lent.start (omega arith) ∙ ap origin_place same.cfg;
  step = ap (λ (z : Plane _). z.cfg.stride) lent.plane ∙ ap (λ (c : PlaneConfig). c.stride) same.cfg;
  samples = ap (λ (z : Plane _). map number z.samples.items) lent.plane ∙ ap (map number) same.samples;
}

module _ {X : Type 0} (number : X → ℤ) (limit : ℕ) (params : Parameters) (f : Frame X) (y u v : Plane X) (b : TileBlocks) (t : TileMut X)
    (h : IsFrame limit params) (i : IsInputFor params (view_frame number f))
    (same_y : SamePlane f.planes.y y) (same_u : SamePlane f.planes.u u) (same_v : SamePlane f.planes.v v)
    (lent_y : LendsPlane y t.planes.y) (lent_u : LendsPlane u t.planes.u) (lent_v : LendsPlane v t.planes.v)
    (ec : view_cols b ≡ params.w_in_b) (er : view_rows b ≡ params.h_in_b) where
  -- three planes that are copies of a frame's have room for its whole table
  pub holds_lent : HoldsView f b t
  holds_lent = record {
    y = λ some. room_lent params.width params.height f.planes.y y b t.planes.y same_y (y_made number limit params f h i) lent_y (ec ∙ h.columns) (er ∙ h.rows);
    u = λ some. room_lent params.width params.height f.planes.u u b t.planes.u same_u (u_made number limit params f h i some) lent_u (ec ∙ h.columns) (er ∙ h.rows);
    v = λ some. room_lent params.width params.height f.planes.v v b t.planes.v same_v (v_made number limit params f h i some) lent_v (ec ∙ h.columns) (er ∙ h.rows);
  }

  -- three planes that are copies of a frame's are the whole frame
  pub whole_lent : view_step b ≡ params.w_in_b → IsWholeFrame number params f b t
  whole_lent es = record {
    cols = ec;
    rows = er;
    table = es;
    y = lies_lent number params.width params.height f.planes.y y t.planes.y same_y (λ some. y_made number limit params f h i) lent_y;
    u = lies_lent number params.width params.height f.planes.u u t.planes.u same_u (λ some. u_made number limit params f h i some) lent_u;
    v = lies_lent number params.width params.height f.planes.v v t.planes.v same_v (λ some. v_made number limit params f h i some) lent_v;
  }

-- CDEF keeps the layout of a plane
pub cdef_cfg : (d : Deblocked) (pli : ℕ) (p : PlaneView) → (cdef_plane d pli p).cfg ≡ p.cfg
unfolding cdef_plane
cdef_cfg d pli p = refl

-- the plane under a region that has the samples of a filtered plane
pub enhanced_is : {X : Type 0} (number : X → ℤ) (d : Deblocked) (pli : ℕ) (p q : Plane X) (a b : PlaneRegionMut X) → SamePlane p q → LendsPlane q a → IsSamePart a b
    → numbers_under number b ≡ (cdef_plane d pli (view_plane number p)).samples → view_plane number b.plane.now ≡ cdef_plane d pli (view_plane number p)
enhanced_is number d pli p q a b same lent part left =
    let cfg : b.plane.now.cfg ≡ (cdef_plane d pli (view_plane number p)).cfg =
    part.layout ∙ (ap (λ (z : Plane _). z.cfg) lent.plane ∙ (same.cfg ∙ sym (cdef_cfg d pli (view_plane number p)))) in
    λ i. record { cfg = cfg i; samples = left i }

-- a copy of a frame has the planes of the frame
pub copy_is : {X : Type 0} (number : X → ℤ) (f g : Frame X) → SameFrame f g → view_frame number g ≡ view_frame number f
copy_is number f g same = λ i. record {
  y = record { cfg = same.y.cfg i; samples = map number (same.y.samples i) };
  u = record { cfg = same.u.cfg i; samples = map number (same.u.samples i) };
  v = record { cfg = same.v.cfg i; samples = map number (same.v.samples i) };
}
