-- A frame that is lent whole holds the samples of a view of its whole table.
use Rattle.std.proofs.Common.{◌≡◌, ℕ, ℤ, pos, ◌*◌, ◌/◌, ◌^◌, ◌<◌, map, refl, ◌∙◌, ap, arith, inl, inr, ◌⊎◌}
use Rattle.std.proofs.lemmas.Int.{ints}
use Rattle.av1_plane.specs.Layout.{rounded}
use Rattle.av1_plane.specs.Place.{stored_at, origin_place, rect_start}
use Rattle.av1_plane.specs.Planes.{SamePlane, SameFrame}
use Rattle.av1_plane.specs.Region.{area}
use Rattle.av1_plane.specs.Regions.{LendsRect}
use Rattle.av1_plane.specs.Tiles.{plane_rect, IsTileUnder}
use Rattle.av1_plane.specs.declared.plane.Plane.{Plane}
use Rattle.av1_plane.specs.declared.plane.PlaneConfig.{PlaneConfig}
use Rattle.av1_plane.specs.declared.frame.Frame.{Frame}
use Rattle.av1_plane.specs.declared.tile_rect.TileRect.{TileRect}
use Rattle.av1_plane.specs.declared.tile_mut.TileMut.{TileMut}
use Rattle.av1_plane.specs.declared.region_mut.PlaneRegionMut.{PlaneRegionMut}
use Rattle.av1_block.specs.Tables.{TileBlocks, view_step, view_cols, view_rows}
use Rattle.av1_tiling.specs.Views.{view_frame}
use Rattle.av1_tiling.specs.Frames.{Parameters, IsFrame, IsInputFor}
use Rattle.av1_cdef.specs.Conditions.{HasViewRoom, HoldsView}
use Rattle.av1_cdef.specs.Whole.{LiesOn, IsWholeFrame}
use Rattle.av1_cdef.proofs.Made.{IsPlaneLayout, y_made, u_made, v_made}

-- the luma rectangle of a frame of these sides
abbrev pub whole : ℕ → ℕ → TileRect
whole w h = record { x = 0; y = 0; width = rounded w; height = rounded h }

-- the origin is stored at itself
at_origin : (o : ℕ) → stored_at o (pos 0) ≡ o
at_origin o = omega (arith, ints)

-- a rectangle from the origin on starts at the origin
starts_whole : (w h : ℕ) (cfg : PlaneConfig) → IsPlaneLayout w h cfg → rect_start cfg (plane_rect cfg (whole w h)) ≡ origin_place cfg
starts_whole w h cfg made =
    let x0 : (dec : ℕ) → (dec ≡ 0) ⊎ (dec ≡ 1) → 0 / 2 ^ dec ≡ 0 = λ dec k. elim k [ inl e ↦ rw e (omega arith) | inr e ↦ rw e (omega arith) ] in
    let x : (cfg.xdec ≡ 0) ⊎ (cfg.xdec ≡ 1) = elim made.sampling [ inl a ↦ inl a.0 | inr k ↦ elim k [ inl a ↦ inr a.0 | inr a ↦ inr a.0 ] ] in
    let y : (cfg.ydec ≡ 0) ⊎ (cfg.ydec ≡ 1) = elim made.sampling [ inl a ↦ inl a.1 | inr k ↦ elim k [ inl a ↦ inl a.1 | inr a ↦ inr a.1 ] ] in
    rw (x0 cfg.xdec x, x0 cfg.ydec y, at_origin cfg.xorigin, at_origin cfg.yorigin) refl

-- a plane that is lent whole has room for all blocks
room_whole : {X : Type 0} (w h : ℕ) (p q : Plane X) (b : TileBlocks) (r : PlaneRegionMut X) → SamePlane p q → IsPlaneLayout w h p.cfg → 0 < p.cfg.width
    → LendsRect q (plane_rect q.cfg (whole w h)) r → view_cols b ≡ rounded w / 4 → view_rows b ≡ rounded h / 4 → HasViewRoom p.cfg b r
room_whole w h p q b r same made some lent ec er =
    let high = made.some in
    let shown : area r ≡ plane_rect p.cfg (whole w h) = lent.shown (rw same.cfg some) (rw same.cfg high) ∙ ap (λ (c : PlaneConfig). plane_rect c (whole w h)) same.cfg in
    record {
      stored = lent.stored;
      width = rw (shown, ec) (let e : 4 * (rounded w / 4) ≡ rounded w = omega arith in rw e (omega arith));
      height = rw (shown, er) (let e : 4 * (rounded h / 4) ≡ rounded h = omega arith in rw e (omega arith));
    }

-- a plane that is lent whole lies on the plane's samples
lies_whole : {X : Type 0} (number : X → ℤ) (w h : ℕ) (p q : Plane X) (r : PlaneRegionMut X) → SamePlane p q → (0 < p.cfg.width → IsPlaneLayout w h p.cfg)
    → LendsRect q (plane_rect q.cfg (whole w h)) r → LiesOn number p r
lies_whole number w h p q r same made lent = record {
  start = λ some.
      let m = made some in
      let high = m.some in
      let rows : 0 < rounded h / 2 ^ q.cfg.ydec = rw same.cfg (let e = m.height in omega arith) in
      lent.start (rw same.cfg some) (rw same.cfg high) rows ∙ ap (λ (c : PlaneConfig). rect_start c (plane_rect c (whole w h))) same.cfg ∙ starts_whole w h p.cfg m;
  step = ap (λ (z : Plane _). z.cfg.stride) lent.plane ∙ ap (λ (c : PlaneConfig). c.stride) same.cfg;
  samples = ap (λ (z : Plane _). map number z.samples.items) lent.plane ∙ ap (map number) same.samples;
}

-- a copy of the input that is lent whole has room for a view of the whole table
pub holds_whole : {X : Type 0} (number : X → ℤ) (limit : ℕ) (params : Parameters) (f g : Frame X) (b : TileBlocks) (t : TileMut X)
    → IsFrame limit params → IsInputFor params (view_frame number f) → SameFrame f g → IsTileUnder g (whole params.width params.height) t
    → view_cols b ≡ params.w_in_b → view_rows b ≡ params.h_in_b → HoldsView f b t
holds_whole number limit params f g b t h i same lent ec er = record {
  y = λ some. room_whole params.width params.height f.planes.y g.planes.y b t.planes.y same.y (y_made number limit params f h i) some lent.y (ec ∙ h.columns) (er ∙ h.rows);
  u = λ some. room_whole params.width params.height f.planes.u g.planes.u b t.planes.u same.u (u_made number limit params f h i some) some lent.u (ec ∙ h.columns) (er ∙ h.rows);
  v = λ some. room_whole params.width params.height f.planes.v g.planes.v b t.planes.v same.v (v_made number limit params f h i some) some lent.v (ec ∙ h.columns) (er ∙ h.rows);
}

-- a copy of the input that is lent whole is the whole frame
pub is_whole : {X : Type 0} (number : X → ℤ) (limit : ℕ) (params : Parameters) (f g : Frame X) (b : TileBlocks) (t : TileMut X)
    → IsFrame limit params → IsInputFor params (view_frame number f) → SameFrame f g → IsTileUnder g (whole params.width params.height) t
    → view_cols b ≡ params.w_in_b → view_rows b ≡ params.h_in_b → view_step b ≡ params.w_in_b → IsWholeFrame number params f b t
is_whole number limit params f g b t h i same lent ec er es = record {
  cols = ec;
  rows = er;
  table = es;
  y = lies_whole number params.width params.height f.planes.y g.planes.y t.planes.y same.y (λ some. y_made number limit params f h i) lent.y;
  u = lies_whole number params.width params.height f.planes.u g.planes.u t.planes.u same.u (λ some. u_made number limit params f h i some) lent.u;
  v = lies_whole number params.width params.height f.planes.v g.planes.v t.planes.v same.v (λ some. v_made number limit params f h i some) lent.v;
}
