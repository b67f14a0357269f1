-- The planes of a frame, lent whole, can be deblocked, and are the deblocked planes afterwards.
use Rattle.std.proofs.Common.{◌≡◌, ℕ, ℤ, pos, ◌+◌, ◌-◌, ◌*◌, ◌/◌, ◌^◌, ◌<◌, inl, inr, List, length, map, get_or, All, Bool, true, false, refl, sym, ap, ◌∙◌, subst, arith}
use Rattle.std.specs.Prelude.{nat_lt, ◌&&◌, ◌||◌, ◌==◌, not, if◌then◌else◌}
use Rattle.std.proofs.lemmas.Bool.{cases_lt}
use Rattle.std.proofs.lemmas.List.{get_or_past}
use Rattle.std.proofs.lemmas.List.Elements.{All-get_or}
use Rattle.std.proofs.Math.Nat.{add-mul}
use Rattle.av1_plane.specs.declared.plane.PlaneConfig.{PlaneConfig}
use Rattle.av1_plane.specs.declared.three.Three.{Three}
use Rattle.av1_plane.specs.declared.plane.Plane.{Plane}
use Rattle.av1_plane.specs.declared.region.Rect.{Rect}
use Rattle.av1_plane.specs.declared.region_mut.PlaneRegionMut.{PlaneRegionMut}
use Rattle.av1_plane.specs.Numbers.{InDepth, sample}
use Rattle.av1_plane.specs.Layout.{rounded, at}
use Rattle.av1_plane.specs.Place.{origin_place}
use Rattle.av1_plane.specs.Region.{spot, area, first_place, row_step, numbers_under}
use Rattle.av1_plane.specs.Regions.{LendsPlane}
use Rattle.av1_block.specs.declared.block.Block.{Block}
use Rattle.av1_block.specs.declared.ref_type.RefType.TheVariants.{INTRA_FRAME}
use Rattle.av1_block.specs.Block.{default_block}
use Rattle.av1_block.specs.Rule.{IsBlock}
use Rattle.av1_block.specs.Tables.{TileBlocks, view_entries, view_step, view_cols, view_rows, entry_at}
use Rattle.av1_block.proofs.Rules.{not_none}
use Rattle.av1_tiling.specs.declared.deblock_state.DeblockState.{DeblockState}
use Rattle.av1_tiling.specs.Views.{PlaneView, view_plane}
use Rattle.av1_tiling.specs.Frames.{Parameters, IsInputFor, layouts}
use Rattle.av1_deblock.specs.Edges.{BlockTable}
use Rattle.av1_deblock.specs.Levels.{HasReference, by_state}
use Rattle.av1_deblock.specs.Passes.{Raster, FramePlane, frame_plane, is_empty, has_luma_level, has_level, deblocked_plane, deblocked_in_frame, raster_under, passed, plane_cols, plane_rows, block_edges, PartBelow}
use Rattle.av1_deblock.specs.Conditions.{HasDepth, CoversBlocks, rounded_width, rounded_height}
use Rattle.av1_deblock.specs.Frames.{frame_shape, deblocking, CanDeblock, IsDeblockedInFrame}
use Rattle.av1_frame.specs.Planes.{FitsFrame, IsPlaneFor}
use Rattle.av1_frame.specs.Reference.{deblocked_in, deblocked, block_table, plane_count, raster_of}

-- The blocks.

-- each entry of a table of blocks is predicted from a frame, and so is the block past its end
each_predicted : (xdec ydec : ℕ) (blocks : List Block) (k : ℕ) → All (IsBlock xdec ydec) blocks → HasReference (get_or blocks k default_block)
each_predicted xdec ydec blocks k h = elim (cases_lt k (length blocks)) [
  | inl below ↦ (All-get_or (IsBlock xdec ydec) blocks k default_block below h).reference
  | inr past ↦ subst HasReference (sym (get_or_past blocks k default_block past)) (not_none INTRA_FRAME (omega arith))
]

-- the whole table of a frame has the blocks that its planes need
pub covers_blocks : (w h xdec ydec : ℕ) (blocks : List Block) (t : TileBlocks) → view_entries t ≡ blocks → view_cols t ≡ rounded w / 4 → view_rows t ≡ rounded h / 4
    → All (IsBlock xdec ydec) blocks → CoversBlocks w h t
covers_blocks w h xdec ydec blocks t same wide high each = record {
  wide = omega arith;
  high = omega arith;
  refs = λ x y lx ly. subst (λ (bs : List Block). HasReference (entry_at bs (view_step t) x y)) (sym same) (each_predicted xdec ydec blocks (y * view_step t + x) each);
}

-- a view of all blocks shows the frame's table of blocks
pub table_is : (p : Parameters) (blocks : List Block) (entries : List Block) (step : ℕ) → entries ≡ blocks → step ≡ p.w_in_b
    → record { entries = entries; step = step } ≡ block_table p blocks
table_is p blocks entries step same wide = λ i. record { entries = same i; step = wide i }

-- The planes.

-- a plane without columns or rows stays
empty_stays : (planes : ℕ) (d : DeblockState) (p : FramePlane) (t : BlockTable) (r : Raster) → is_empty p.cfg ≡ true → deblocked_in_frame planes d p t r ≡ r.numbers
unfolding deblocked_plane
empty_stays planes d p t r e = by (has_luma_level d && nat_lt p.pli planes) (has_level d p.pli)
  where
    by : (a b : Bool) → (if a then (if b && not (is_empty p.cfg) then passed r (plane_cols p) (plane_rows p) (block_edges p (by_state d) t) else r.numbers) else r.numbers) ≡ r.numbers
    by true true = rw e refl
    by true false = refl
    by false b = refl

module _ {X : Type 0} (number : X → ℤ) (p : Parameters) (pli : ℕ) (plane : Plane X) (r : PlaneRegionMut X) (lent : LendsPlane plane r) where
  -- where a sample of the plane stands under its region
  lent_place : (x y : ℕ) → y < plane.cfg.height → sample (numbers_under number r) (spot (first_place r) (row_step r) x y) ≡ at (map number plane.samples.items) plane.cfg.stride (plane.cfg.xorigin + x) (plane.cfg.yorigin + y)
  lent_place x y ly =
      let high = plane.high in
      let start : first_place r ≡ origin_place plane.cfg = lent.start (omega arith) in
      let step : row_step r ≡ plane.cfg.stride = ap (λ (q : Plane X). q.cfg.stride) lent.plane in
      let numbers : numbers_under number r ≡ map number plane.samples.items = ap (λ (q : Plane X). map number q.samples.items) lent.plane in
      let split : (plane.cfg.yorigin + y) * plane.cfg.stride ≡ plane.cfg.yorigin * plane.cfg.stride + y * plane.cfg.stride = add-mul plane.cfg.yorigin y plane.cfg.stride in
      let place : spot (origin_place plane.cfg) plane.cfg.stride x y ≡ (plane.cfg.yorigin + y) * plane.cfg.stride + (plane.cfg.xorigin + x) = omega arith in
      (λ i. get_or (numbers i) (spot (start i) (step i) x y) (pos 0)) ∙ ap (λ (k : ℕ). get_or (map number plane.samples.items) k (pos 0)) place

  -- the plane's rounded part is in depth under its region
  lent_depth : IsPlaneFor p pli (view_plane number plane) → HasDepth p.sequence.bit_depth p.width p.height number r
  lent_depth made = subst (λ (c : PlaneConfig). PartBelow (2 ^ p.sequence.bit_depth) (first_place r) (row_step r) (rounded_width c p.width) (rounded_height c p.height) (numbers_under number r)) (sym lent.cfg) (record {
    each = λ x y lx ly.
        let wide = made.layout.wide in
        let high = made.layout.high in
        subst (InDepth (2 ^ p.sequence.bit_depth)) (sym (lent_place x y (omega arith))) (made.range x y (omega arith) (omega arith));
  })

  -- the plane can be deblocked
  pub can_deblock : IsPlaneFor p pli (view_plane number plane) → CanDeblock number (frame_shape p.width p.height p.sequence.bit_depth) pli r
  can_deblock made =
      let wide = plane.wide in
      let high = plane.high in
      let w = made.layout.wide in
      let h = made.layout.high in
      let width : (area r).width ≡ plane.cfg.stride - plane.cfg.xorigin = ap (λ (a : Rect). a.width) lent.shown in
      let height : (area r).height ≡ plane.cfg.alloc_height - plane.cfg.yorigin = ap (λ (a : Rect). a.height) lent.shown in
      let same_width : rounded_width r.plane_cfg p.width ≡ rounded_width plane.cfg p.width = ap (λ (c : PlaneConfig). rounded_width c p.width) lent.cfg in
      let same_height : rounded_height r.plane_cfg p.height ≡ rounded_height plane.cfg p.height = ap (λ (c : PlaneConfig). rounded_height c p.height) lent.cfg in
      record {
        decimated = rw lent.cfg made.layout.decimated;
        region = record { stored = lent.stored; wide = omega arith; high = omega arith };
        range = lent_depth made;
      }

  -- a plane that was deblocked in its region is the deblocked plane
  pub deblocked_is : (planes : ℕ) (d : DeblockState) (blocks : List Block) (t : BlockTable) (b : PlaneRegionMut X) → planes ≡ plane_count p.sequence.chroma_sampling → t ≡ block_table p blocks
      → IsDeblockedInFrame number (deblocking d t (frame_shape p.width p.height p.sequence.bit_depth)) planes pli r b
      → view_plane number b.plane.now ≡ deblocked_in p d blocks pli (view_plane number plane)
  deblocked_is planes d blocks t b count table h =
      let cfg : b.plane.now.cfg ≡ plane.cfg = h.part.layout ∙ ap (λ (q : Plane X). q.cfg) lent.plane in
      let step : row_step r ≡ plane.cfg.stride = ap (λ (q : Plane X). q.cfg.stride) lent.plane in
      let numbers : numbers_under number r ≡ map number plane.samples.items = ap (λ (q : Plane X). map number q.samples.items) lent.plane in
      let bd = p.sequence.bit_depth in
      let fp = frame_plane pli plane.cfg p.width p.height in
      let samples : map number b.plane.now.samples.items ≡ deblocked_in_frame (plane_count p.sequence.chroma_sampling) d fp (block_table p blocks) (raster_of p (view_plane number plane)) =
      h.value ∙ (λ i. deblocked_in_frame (count i) d (frame_plane pli (lent.cfg i) p.width p.height) (table i) (raster_under bd number r))
      ∙ elim (cases_lt plane.cfg.yorigin plane.cfg.alloc_height) [
        | inl some ↦ let start = lent.start some in
            (λ i. deblocked_in_frame (plane_count p.sequence.chroma_sampling) d fp (block_table p blocks) (record { depth = bd; origin = start i; step = step i; numbers = numbers i }))
        | inr none ↦
            let high = plane.high in
            let flat : plane.cfg.height ≡ 0 = omega arith in
            let empty : is_empty plane.cfg ≡ true = rw flat (by_flat (plane.cfg.width == 0)) in
            empty_stays (plane_count p.sequence.chroma_sampling) d fp (block_table p blocks) (raster_under bd number r) empty
            ∙ (numbers ∙ sym (empty_stays (plane_count p.sequence.chroma_sampling) d fp (block_table p blocks) (raster_of p (view_plane number plane)) empty))
      ] in
      λ i. record { cfg = cfg i; samples = samples i }
    where
      by_flat : (b : Bool) → (b || true) ≡ true
      by_flat true = refl
      by_flat false = refl

  -- a plane that was deblocked in its region is in depth again
  pub deblocked_range : (planes : ℕ) (d : DeblockState) (t : BlockTable) (b : PlaneRegionMut X)
      → IsDeblockedInFrame number (deblocking d t (frame_shape p.width p.height p.sequence.bit_depth)) planes pli r b
      → IsPlaneFor p pli (view_plane number plane) → IsPlaneFor p pli (view_plane number b.plane.now)
  deblocked_range planes d t b h made =
      let cfg : b.plane.now.cfg ≡ plane.cfg = h.part.layout ∙ ap (λ (q : Plane X). q.cfg) lent.plane in
      let region : b.plane_cfg ≡ plane.cfg = h.part.cfg ∙ lent.cfg in
      let deep = h.range (lent_depth made) in
      record {
        layout = subst (FitsFrame pli p.width p.height) (sym cfg) made.layout;
        range = subst (λ (c : PlaneConfig). (x y : ℕ) → x < c.width → y < c.height → InDepth (2 ^ p.sequence.bit_depth) (at (map number b.plane.now.samples.items) c.stride (c.xorigin + x) (c.yorigin + y))) (sym cfg)
            (λ x y lx ly.
            let high = plane.high in
            let wide_is = made.layout.wide in
            let high_is = made.layout.high in
            let w : rounded_width b.plane_cfg p.width ≡ rounded_width plane.cfg p.width = ap (λ (c : PlaneConfig). rounded_width c p.width) region in
            let k : rounded_height b.plane_cfg p.height ≡ rounded_height plane.cfg p.height = ap (λ (c : PlaneConfig). rounded_height c p.height) region in
            let start : first_place b ≡ origin_place plane.cfg = h.part.start ∙ lent.start (omega arith) in
            let step : row_step b ≡ plane.cfg.stride = ap (λ (c : PlaneConfig). c.stride) cfg in
            let split : (plane.cfg.yorigin + y) * plane.cfg.stride ≡ plane.cfg.yorigin * plane.cfg.stride + y * plane.cfg.stride = add-mul plane.cfg.yorigin y plane.cfg.stride in
            let place : spot (origin_place plane.cfg) plane.cfg.stride x y ≡ (plane.cfg.yorigin + y) * plane.cfg.stride + (plane.cfg.xorigin + x) = omega arith in
            let read : sample (numbers_under number b) (spot (first_place b) (row_step b) x y) ≡ at (map number b.plane.now.samples.items) plane.cfg.stride (plane.cfg.xorigin + x) (plane.cfg.yorigin + y) =
            (λ i. get_or (map number b.plane.now.samples.items) (spot (start i) (step i) x y) (pos 0)) ∙ ap (λ (n : ℕ). get_or (map number b.plane.now.samples.items) n (pos 0)) place in
            subst (InDepth (2 ^ p.sequence.bit_depth)) read (deep.each x y (omega arith) (omega arith)));
      }

-- a deblocked frame is an input for the parameters of the frame
pub deblocked_input : (p : Parameters) (f g : Three PlaneView) (d : DeblockState) (blocks : List Block) → IsInputFor p f → g ≡ deblocked p d blocks f
    → IsPlaneFor p 0 g.y → IsPlaneFor p 1 g.u → IsPlaneFor p 2 g.v → IsInputFor p g
deblocked_input p f g d blocks i same y u v = record {
  layout = ap layouts same ∙ i.layout;
  y_range = y.range;
  u_range = u.range;
  v_range = v.range;
}
