-- A frame made for its parameters, and a view of its blocks, meet what the filters ask.
use Rattle.std.proofs.Common.{◌≡◌, ℕ, ℤ, pos, ◌+◌, ◌-◌, ◌*◌, ◌/◌, ◌^◌, ◌<◌, ◌≤◌, List, length, get_or, map, All, refl, sym, ◌∙◌, ap, subst, arith, inl, inr, ◌⊎◌}
use Rattle.std.proofs.lemmas.Nat.{pow-add}
use Rattle.std.proofs.lemmas.Bool.{cases_lt}
use Rattle.std.proofs.lemmas.List.{get_or_past}
use Rattle.std.proofs.lemmas.List.Elements.{All-get_or}
use Rattle.av1_plane.specs.Numbers.{InDepth}
use Rattle.av1_plane.specs.Place.{origin_place}
use Rattle.av1_plane.specs.Layout.{rounded, plane_layout, chroma_layout}
use Rattle.av1_plane.specs.Sampling.{decimation}
use Rattle.av1_plane.specs.Region.{area}
use Rattle.av1_plane.specs.declared.three.Three.{Three}
use Rattle.av1_plane.specs.declared.plane.Plane.{Plane}
use Rattle.av1_plane.specs.declared.plane.PlaneConfig.{PlaneConfig}
use Rattle.av1_plane.specs.declared.frame.Frame.{Frame}
use Rattle.av1_plane.specs.declared.sampling.ChromaSampling.{ChromaSampling}
use Rattle.av1_plane.specs.declared.sampling.ChromaSampling.TheVariants.{Cs420, Cs422, Cs444, Cs400}
use Rattle.av1_plane.specs.declared.region_mut.PlaneRegionMut.{PlaneRegionMut}
use Rattle.av1_block.specs.Tables.{TileBlocks, view_cols, view_rows}
use Rattle.av1_tiling.specs.Views.{view_plane, view_frame}
use Rattle.av1_tiling.specs.Frames.{Parameters, FitsDepth, IsFrame, IsInputFor, IsInRange}
use Rattle.av1_cdef.specs.Analysis.{plane_picture, header_of, IsDeep}
use Rattle.av1_cdef.specs.Superblock.{IsCdefHeader, CanReadFrame, CanFilter}
use Rattle.av1_cdef.specs.Conditions.{IsViewFor, HasViewRoom}

-- Depths and strengths.

-- a bit depth is at least 8
depth_low : (limit depth : ℕ) → FitsDepth limit depth → 8 ≤ depth
depth_low limit depth (inl h) = let e = h.0 in omega arith
depth_low limit depth (inr h) = elim h.0 [ inl e ↦ omega arith | inr e ↦ omega arith ]

-- a bit depth is at most 12
depth_high : (limit depth : ℕ) → FitsDepth limit depth → depth ≤ 12
depth_high limit depth (inl h) = let e = h.0 in omega arith
depth_high limit depth (inr h) = elim h.0 [ inl e ↦ omega arith | inr e ↦ omega arith ]

-- the sample type holds the samples of the depth
fits_depth : (limit depth : ℕ) → FitsDepth limit depth → 256 * 2 ^ (depth - 8) ≤ limit
fits_depth limit depth (inl h) = rw (h.0, h.1) (omega arith)
fits_depth limit depth (inr h) = elim h.0 [ inl e ↦ rw (e, h.1) (omega arith) | inr e ↦ rw (e, h.1) (omega arith) ]

-- a bound on samples, from the bound at 8 bits
power_split : (depth : ℕ) → 8 ≤ depth → 2 ^ depth ≡ 256 * 2 ^ (depth - 8)
power_split depth l = let e : 8 + (depth - 8) ≡ depth = omega arith in sym (ap (λ n. 2 ^ n) e) ∙ pow-add 2 8 (depth - 8)

-- a bound on all entries is one on every read
each_below : (xs : List ℕ) (b k : ℕ) → All (λ s. s ≤ b) xs → get_or xs k 0 ≤ b
each_below xs b k h = elim (cases_lt k (length xs)) [
  | inl l ↦ All-get_or (λ s. s ≤ b) xs k 0 l h
  | inr m ↦ rw (get_or_past xs k 0 m) (omega arith)
]

-- the parameters of a frame hold strengths and dampings that occur
header_made : (limit : ℕ) (p : Parameters) → IsFrame limit p → IsCdefHeader (header_of p)
header_made limit p h = record {
  low = depth_low limit p.sequence.bit_depth h.depth;
  high = depth_high limit p.sequence.bit_depth h.depth;
  damping = h.damping.0;
  most = h.damping.1;
  luma = λ k l. each_below p.cdef_y_strengths 63 k h.y_strengths;
  chroma = λ k l. each_below p.cdef_uv_strengths 63 k h.uv_strengths;
}

-- Planes.

-- a plane whose samples are in range shows a picture in range
deep_made : {X : Type 0} (number : X → ℤ) (depth : ℕ) (p : Plane X) → 8 ≤ depth → IsInRange (2 ^ depth) (view_plane number p) → IsDeep (256 * 2 ^ (depth - 8)) (plane_picture number p)
deep_made number depth p l h = record {
  each = λ x y lx ly.
      let place : (p.cfg.yorigin + y) * p.cfg.stride + (p.cfg.xorigin + x) ≡ origin_place p.cfg + y * p.cfg.stride + x = grind arith in
      subst (λ k. InDepth (256 * 2 ^ (depth - 8)) (get_or (map number p.samples.items) k (pos 0))) place
      (subst (λ n. InDepth n (get_or (map number p.samples.items) ((p.cfg.yorigin + y) * p.cfg.stride + (p.cfg.xorigin + x)) (pos 0))) (power_split depth l) (h x y lx ly));
}

-- the layout of a plane with samples, of a frame of these sides
pub record IsPlaneLayout (w h : ℕ) (cfg : PlaneConfig) : Type 0 where
  pub sampling : ((cfg.xdec ≡ 0) × (cfg.ydec ≡ 0)) ⊎ ((cfg.xdec ≡ 1) × (cfg.ydec ≡ 0)) ⊎ ((cfg.xdec ≡ 1) × (cfg.ydec ≡ 1))
  pub width : cfg.width ≡ rounded w / 2 ^ cfg.xdec
  pub height : cfg.height ≡ rounded h / 2 ^ cfg.ydec
  pub narrow : cfg.stride < 2 ^ 32
  pub some : 0 < cfg.height

-- the luma plane of a frame has the layout of a plane with samples
luma_layout : (w h : ℕ) (cfg : PlaneConfig) → w ≤ 65536 → 1 ≤ h → cfg ≡ plane_layout (rounded w) (rounded h) 0 0 88 88 → IsPlaneLayout w h cfg
luma_layout w h cfg lw lh e = rw e record { sampling = inl (refl, refl); width = omega arith; height = omega arith; narrow = omega arith; some = omega arith }

-- a chroma plane of a frame has the layout of a plane with samples, where it has a column
chroma_made : (w h : ℕ) (s : ChromaSampling) (cfg : PlaneConfig) → w ≤ 65536 → 1 ≤ h → cfg ≡ chroma_layout (rounded w) (rounded h) (decimation s) → 0 < cfg.width → IsPlaneLayout w h cfg
chroma_made w h Cs420 cfg lw lh e some = rw e record { sampling = inr (inr (refl, refl)); width = refl; height = refl; narrow = omega arith; some = omega arith }
chroma_made w h Cs422 cfg lw lh e some = rw e record { sampling = inr (inl (refl, refl)); width = refl; height = refl; narrow = omega arith; some = omega arith }
chroma_made w h Cs444 cfg lw lh e some = rw e record { sampling = inl (refl, refl); width = refl; height = refl; narrow = omega arith; some = omega arith }
chroma_made w h Cs400 cfg lw lh e some = let none : cfg.width ≡ 0 = ap (λ (c : PlaneConfig). c.width) e in absurd (omega arith)

-- a side of a plane is a whole number of blocks
side_blocks : (dec side size : ℕ) → (dec ≡ 0) ⊎ (dec ≡ 1) → size ≡ rounded side / 2 ^ dec → size ≡ 8 / 2 ^ dec * (rounded side / 8)
side_blocks dec side size (inl e) h = h ∙ (rw e (omega arith))
side_blocks dec side size (inr e) h = h ∙ (rw e (omega arith))

-- room for a view's units is room for its blocks
side_room : (dec n units size : ℕ) → (dec ≡ 0) ⊎ (dec ≡ 1) → n ≤ units / 2 → 4 * units / 2 ^ dec ≤ size → 8 / 2 ^ dec * n ≤ size
side_room dec n units size (inl e) l h = let k : 4 * units / 2 ^ 0 ≤ size = subst (λ d. 4 * units / 2 ^ d ≤ size) e h in rw e (omega arith)
side_room dec n units size (inr e) l h = let k : 4 * units / 2 ^ 1 ≤ size = subst (λ d. 4 * units / 2 ^ d ≤ size) e h in rw e (omega arith)

-- a plane of the frame can be read, and a region with room for the view written
plane_made : {X : Type 0} (number : X → ℤ) (depth w h right bottom : ℕ) (luma p : Plane X) (b : TileBlocks) (r : PlaneRegionMut X) → 8 ≤ depth
    → luma.cfg.width ≡ rounded w → luma.cfg.height ≡ rounded h → IsPlaneLayout w h p.cfg → IsInRange (2 ^ depth) (view_plane number p) → HasViewRoom p.cfg b r
    → right ≤ view_cols b / 2 → bottom ≤ view_rows b / 2
    → CanFilter number (2 ^ (depth - 8)) (luma.cfg.width / 8) (luma.cfg.height / 8) right bottom p r
plane_made number depth w h right bottom luma p b r ld ew eh made range room lr lb =
    let x : (p.cfg.xdec ≡ 0) ⊎ (p.cfg.xdec ≡ 1) = elim made.sampling [ inl a ↦ inl a.0 | inr k ↦ elim k [ inl a ↦ inr a.0 | inr a ↦ inr a.0 ] ] in
    let y : (p.cfg.ydec ≡ 0) ⊎ (p.cfg.ydec ≡ 1) = elim made.sampling [ inl a ↦ inl a.1 | inr k ↦ elim k [ inl a ↦ inl a.1 | inr a ↦ inr a.1 ] ] in
    record {
      narrow = made.narrow;
      some = made.some;
      deep = deep_made number depth p ld range;
      sampling = made.sampling;
      width = rw ew (side_blocks p.cfg.xdec w p.cfg.width x made.width);
      height = rw eh (side_blocks p.cfg.ydec h p.cfg.height y made.height);
      stored = room.stored;
      to_width = side_room p.cfg.xdec right (view_cols b) (area r).width x lr room.width;
      to_height = side_room p.cfg.ydec bottom (view_rows b) (area r).height y lb room.height;
    }

-- Frames.

-- the luma plane of an input has the layout of the frame's luma
y_layout : {X : Type 0} (number : X → ℤ) (params : Parameters) (f : Frame X) → IsInputFor params (view_frame number f)
    → f.planes.y.cfg ≡ plane_layout (rounded params.width) (rounded params.height) 0 0 88 88
y_layout number params f i = ap (λ (t : Three PlaneConfig). t.y) i.layout

-- the luma plane of a frame has a layout and a range that CDEF can read
pub y_made : {X : Type 0} (number : X → ℤ) (limit : ℕ) (params : Parameters) (f : Frame X) → IsFrame limit params → IsInputFor params (view_frame number f)
    → IsPlaneLayout params.width params.height f.planes.y.cfg
y_made number limit params f h i = luma_layout params.width params.height f.planes.y.cfg h.width.1 h.height.0 (y_layout number params f i)

-- the U plane of a frame, where it has samples, has a layout and a range that CDEF can read
pub u_made : {X : Type 0} (number : X → ℤ) (limit : ℕ) (params : Parameters) (f : Frame X) → IsFrame limit params → IsInputFor params (view_frame number f)
    → 0 < f.planes.u.cfg.width → IsPlaneLayout params.width params.height f.planes.u.cfg
u_made number limit params f h i some =
    chroma_made params.width params.height params.sequence.chroma_sampling f.planes.u.cfg h.width.1 h.height.0 (ap (λ (t : Three PlaneConfig). t.u) i.layout) some

-- the V plane of a frame, where it has samples, has a layout and a range that CDEF can read
pub v_made : {X : Type 0} (number : X → ℤ) (limit : ℕ) (params : Parameters) (f : Frame X) → IsFrame limit params → IsInputFor params (view_frame number f)
    → 0 < f.planes.v.cfg.width → IsPlaneLayout params.width params.height f.planes.v.cfg
v_made number limit params f h i some =
    chroma_made params.width params.height params.sequence.chroma_sampling f.planes.v.cfg h.width.1 h.height.0 (ap (λ (t : Three PlaneConfig). t.v) i.layout) some

-- a frame made for its parameters can be read with a view made for it
pub frame_read : {X : Type 0} (number : X → ℤ) (limit : ℕ) (params : Parameters) (f : Frame X) (b : TileBlocks)
    → IsFrame limit params → IsInputFor params (view_frame number f) → IsViewFor params b → CanReadFrame number limit params f.planes.y b
frame_read number limit params f b h i v =
    let low = depth_low limit params.sequence.bit_depth h.depth in
    let layout = y_layout number params f i in
    let wide : f.planes.y.cfg.width ≡ rounded params.width = ap (λ (c : PlaneConfig). c.width) layout in
    let high : f.planes.y.cfg.height ≡ rounded params.height = ap (λ (c : PlaneConfig). c.height) layout in
    let step : f.planes.y.cfg.stride ≡ rounded params.width + 2 * 88 = ap (λ (c : PlaneConfig). c.stride) layout in
    let w0 = h.width.0 in
    let w1 = h.width.1 in
    let h0 = h.height.0 in
    let h1 = h.height.1 in
    let ew = h.columns in
    let eh = h.rows in
    let ec = v.table_cols in
    let er = v.table_rows in
    let across = b.across in
    let down = b.down in
    record {
      header = header_made limit params h;
      fits = fits_depth limit params.sequence.bit_depth h.depth;
      luma = record {
        low = low;
        high = depth_high limit params.sequence.bit_depth h.depth;
        narrow = omega arith;
        some = omega arith;
        deep = deep_made number params.sequence.bit_depth f.planes.y low i.y_range;
        left = v.left;
        top = v.top;
        cols = v.cols;
        rows = v.rows;
        width = omega arith;
        height = omega arith;
        few_cols = omega arith;
        few_rows = omega arith;
      };
    }

-- the luma plane of a frame made for its parameters can be filtered
pub y_filtered : {X : Type 0} (number : X → ℤ) (limit right bottom : ℕ) (params : Parameters) (f : Frame X) (b : TileBlocks) (r : PlaneRegionMut X)
    → IsFrame limit params → IsInputFor params (view_frame number f) → (0 < f.planes.y.cfg.width → HasViewRoom f.planes.y.cfg b r) → right ≤ view_cols b / 2 → bottom ≤ view_rows b / 2 → 0 < f.planes.y.cfg.width
    → CanFilter number (2 ^ (params.sequence.bit_depth - 8)) (f.planes.y.cfg.width / 8) (f.planes.y.cfg.height / 8) right bottom f.planes.y r
y_filtered number limit right bottom params f b r h i room lr lb some =
    let layout = y_layout number params f i in
    plane_made number params.sequence.bit_depth params.width params.height right bottom f.planes.y f.planes.y b r
    (depth_low limit params.sequence.bit_depth h.depth) (ap (λ (c : PlaneConfig). c.width) layout) (ap (λ (c : PlaneConfig). c.height) layout)
    (y_made number limit params f h i) i.y_range (room some) lr lb

-- the U plane of a frame made for its parameters can be filtered
pub u_filtered : {X : Type 0} (number : X → ℤ) (limit right bottom : ℕ) (params : Parameters) (f : Frame X) (b : TileBlocks) (r : PlaneRegionMut X)
    → IsFrame limit params → IsInputFor params (view_frame number f) → (0 < f.planes.u.cfg.width → HasViewRoom f.planes.u.cfg b r) → right ≤ view_cols b / 2 → bottom ≤ view_rows b / 2 → 0 < f.planes.u.cfg.width
    → CanFilter number (2 ^ (params.sequence.bit_depth - 8)) (f.planes.y.cfg.width / 8) (f.planes.y.cfg.height / 8) right bottom f.planes.u r
u_filtered number limit right bottom params f b r h i room lr lb some =
    let layout = y_layout number params f i in
    plane_made number params.sequence.bit_depth params.width params.height right bottom f.planes.y f.planes.u b r
    (depth_low limit params.sequence.bit_depth h.depth) (ap (λ (c : PlaneConfig). c.width) layout) (ap (λ (c : PlaneConfig). c.height) layout)
    (u_made number limit params f h i some) i.u_range (room some) lr lb

-- the V plane of a frame made for its parameters can be filtered
pub v_filtered : {X : Type 0} (number : X → ℤ) (limit right bottom : ℕ) (params : Parameters) (f : Frame X) (b : TileBlocks) (r : PlaneRegionMut X)
    → IsFrame limit params → IsInputFor params (view_frame number f) → (0 < f.planes.v.cfg.width → HasViewRoom f.planes.v.cfg b r) → right ≤ view_cols b / 2 → bottom ≤ view_rows b / 2 → 0 < f.planes.v.cfg.width
    → CanFilter number (2 ^ (params.sequence.bit_depth - 8)) (f.planes.y.cfg.width / 8) (f.planes.y.cfg.height / 8) right bottom f.planes.v r
v_filtered number limit right bottom params f b r h i room lr lb some =
    let layout = y_layout number params f i in
    plane_made number params.sequence.bit_depth params.width params.height right bottom f.planes.y f.planes.v b r
    (depth_low limit params.sequence.bit_depth h.depth) (ap (λ (c : PlaneConfig). c.width) layout) (ap (λ (c : PlaneConfig). c.height) layout)
    (v_made number limit params f h i some) i.v_range (room some) lr lb

-- a frame has half as many blocks as units in a row
pub blocks_wide : {X : Type 0} (number : X → ℤ) (limit : ℕ) (params : Parameters) (f : Frame X) → IsFrame limit params → IsInputFor params (view_frame number f) → f.planes.y.cfg.width / 8 ≡ params.w_in_b / 2
blocks_wide number limit params f h i =
    let wide : f.planes.y.cfg.width ≡ rounded params.width = ap (λ (c : PlaneConfig). c.width) (y_layout number params f i) in
    let units = h.columns in
    omega arith

-- a column of blocks is half a column of units
pub blocks_high : {X : Type 0} (number : X → ℤ) (limit : ℕ) (params : Parameters) (f : Frame X) → IsFrame limit params → IsInputFor params (view_frame number f) → f.planes.y.cfg.height / 8 ≡ params.h_in_b / 2
blocks_high number limit params f h i =
    let high : f.planes.y.cfg.height ≡ rounded params.height = ap (λ (c : PlaneConfig). c.height) (y_layout number params f i) in
    let units = h.rows in
    omega arith
