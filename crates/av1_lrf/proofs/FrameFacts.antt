-- Frames that can be restored, and restored ones.
use Rattle.std.proofs.Common.{◌≡◌, ℕ, ℤ, zero, suc, pos, ◌+◌, ◌-◌, ◌*◌, ◌/◌, ◌%◌, ◌^◌, ◌<◌, ◌≤◌, List, length, map, refl, sym, ap, subst, ◌∙◌, arith, mul_comm}
use Rattle.std.specs.Prelude.{◌&&◌, nat_le, nat_lt, if◌then◌else◌, unwrap_or, IsSome, Option, None}
use Rattle.std.specs.List.{range_with_len}
use Rattle.std.proofs.lemmas.List.FromFn.{fill_by_all}
use Rattle.std.proofs.lemmas.List.{length-map}
use Rattle.std.proofs.lemmas.Nat.{div-add-mod', mod-mul-add, div-mul-add}
use Rattle.std.proofs.lemmas.Bool.Decides.{nat_tests}
use Rattle.av1_plane.specs.declared.plane.PlaneConfig.{PlaneConfig}
use Rattle.av1_plane.specs.declared.plane.Plane.{Plane}
use Rattle.av1_plane.specs.declared.frame.Frame.{Frame}
use Rattle.av1_plane.specs.declared.three.Three.{Three}
use Rattle.av1_plane.specs.declared.sampling.ChromaSampling.{ChromaSampling}
use Rattle.av1_plane.specs.declared.sampling.ChromaSampling.TheVariants.{Cs420, Cs422, Cs444, Cs400}
use Rattle.av1_plane.specs.Sampling.{decimation}
use Rattle.av1_plane.specs.Numbers.{InDepth}
use Rattle.av1_plane.specs.Layout.{visible, rounded, plane_layout, chroma_layout}
use Rattle.av1_plane.specs.Place.{origin_place}
use Rattle.av1_plane.specs.Planes.{plane_numbers}
use Rattle.av1_tiling.specs.declared.restoration_plane.RestorationPlaneConfig.{RestorationPlaneConfig}
use Rattle.av1_tiling.specs.Views.{PlaneView, view_plane, view_frame}
use Rattle.av1_tiling.specs.Frames.{Parameters, IsFrame, IsInputFor, IsInRange}
use Rattle.av1_tiling.specs.Restoration.{Units, HasLayout, AreUnits, AreFrameUnits}
use Rattle.av1_tiling.specs.UnitSizes.{unit_sizes, unit_layout, unit_count, AreUnitsFor}
use Rattle.av1_tiling.proofs.UnitSizeFacts.{IsUnitSide, count_fits, count_reaches, luma_side, chroma_side}
use Rattle.av1_lrf.specs.Rows.{sample, HasStripePicture}
use Rattle.av1_lrf.specs.Runs.{HasArea}
use Rattle.av1_lrf.specs.Restore.{restored, stored_sample, with_restored_picture, plane_settings, picture_in, restored_plane, restored_frame}
use Rattle.av1_lrf.specs.Units.{FitPicture}
use Rattle.av1_lrf.specs.Frames.{CanRestore, CanRestoreFrame, IsRestoredPlane, IsRestoredFrame}

-- a value inside a rectangle and another outside, by the rectangle's four sides
choice : (xo yo w h x y : ℕ) (a v o : ℤ) → (xo ≤ x → x < xo + w → yo ≤ y → y < yo + h → a ≡ v) → (x < xo → a ≡ o) → (xo + w ≤ x → a ≡ o) → (y < yo → a ≡ o) → (yo + h ≤ y → a ≡ o) →
    a ≡ (if (nat_le xo x && nat_lt x (xo + w)) && (nat_le yo y && nat_lt y (yo + h)) then v else o)
choice xo yo w h x y a v o inside left right above below = grind (arith, nat_tests)

-- what stands in a list after an area was written, place by place
pub area_stored : (p : PlaneView) (w h : ℕ) (f : ℕ → ℕ → ℤ) (ys : List ℤ) → 0 < w → p.cfg.xorigin + w ≤ p.cfg.stride → HasArea (origin_place p.cfg) p.cfg.stride 0 w 0 h f p.samples ys → (k : ℕ) → sample ys k ≡ stored_sample p w h f k
area_stored p w h f ys some wide area k =
    choice p.cfg.xorigin p.cfg.yorigin w h (k % p.cfg.stride) (k / p.cfg.stride) (sample ys k) (f (k % p.cfg.stride - p.cfg.xorigin) (k / p.cfg.stride - p.cfg.yorigin)) (sample p.samples k)
    inside (λ l. outside (λ a b m n ex ey. omega arith)) (λ l. outside (λ a b m n ex ey. omega arith)) (λ l. outside (λ a b m n ex ey. omega arith)) (λ l. outside (λ a b m n ex ey. omega arith))
  where
    inside : p.cfg.xorigin ≤ k % p.cfg.stride → k % p.cfg.stride < p.cfg.xorigin + w → p.cfg.yorigin ≤ k / p.cfg.stride → k / p.cfg.stride < p.cfg.yorigin + h → sample ys k ≡ f (k % p.cfg.stride - p.cfg.xorigin) (k / p.cfg.stride - p.cfg.yorigin)
    inside lx hx ly hy =
        let all : k / p.cfg.stride * p.cfg.stride + k % p.cfg.stride ≡ k = div-add-mod' k p.cfg.stride in
        let row : k / p.cfg.stride ≡ p.cfg.yorigin + (k / p.cfg.stride - p.cfg.yorigin) = omega arith in
        let both : (p.cfg.yorigin + (k / p.cfg.stride - p.cfg.yorigin)) * p.cfg.stride ≡ p.cfg.yorigin * p.cfg.stride + (k / p.cfg.stride - p.cfg.yorigin) * p.cfg.stride = grind arith in
        let rows : k / p.cfg.stride * p.cfg.stride ≡ p.cfg.yorigin * p.cfg.stride + (k / p.cfg.stride - p.cfg.yorigin) * p.cfg.stride = ap (λ (n : ℕ). n * p.cfg.stride) row ∙ both in
        let at : k ≡ origin_place p.cfg + (k / p.cfg.stride - p.cfg.yorigin) * p.cfg.stride + (k % p.cfg.stride - p.cfg.xorigin) = omega arith in
        ap (λ (i : ℕ). sample ys i) at ∙ area.on (k % p.cfg.stride - p.cfg.xorigin) (k / p.cfg.stride - p.cfg.yorigin) (omega arith) (omega arith) (omega arith) (omega arith)

    outside : ((a b : ℕ) → a < w → b < h → k % p.cfg.stride ≡ p.cfg.xorigin + a → k / p.cfg.stride ≡ p.cfg.yorigin + b → ⊥) → sample ys k ≡ sample p.samples k
    outside none = area.off k (λ a b la ha lb hb e.
        let both : (p.cfg.yorigin + b) * p.cfg.stride ≡ p.cfg.yorigin * p.cfg.stride + b * p.cfg.stride = grind arith in
        let at : k ≡ (p.cfg.yorigin + b) * p.cfg.stride + (p.cfg.xorigin + a) = omega arith in
        let column : k % p.cfg.stride ≡ p.cfg.xorigin + a = ap (λ (n : ℕ). n % p.cfg.stride) at ∙ mod-mul-add (p.cfg.yorigin + b) p.cfg.stride (p.cfg.xorigin + a) (omega arith) in
        let row : k / p.cfg.stride ≡ p.cfg.yorigin + b = ap (λ (n : ℕ). n / p.cfg.stride) at ∙ div-mul-add (p.cfg.yorigin + b) p.cfg.stride (p.cfg.xorigin + a) (omega arith) in
        none a b ha hb column row)

-- a plane by its layout and its samples
plane_of : PlaneConfig → List ℤ → PlaneView
plane_of cfg samples = record { cfg = cfg; samples = samples }

-- a plane with the samples that a picture leaves at each place is the plane with the picture
with_picture_is : (p : PlaneView) (w h : ℕ) (f : ℕ → ℕ → ℤ) (cfg : PlaneConfig) (ys : List ℤ) → cfg ≡ p.cfg → length ys ≡ length p.samples → ((k : ℕ) → k < length p.samples → sample ys k ≡ stored_sample p w h f k) → plane_of cfg ys ≡ with_restored_picture p w h f
unfolding with_restored_picture plane_of
with_picture_is p w h f cfg ys e long each =
    let same : ys ≡ map (stored_sample p w h f) (range_with_len 0 (length p.samples)) = fill_by_all (stored_sample p w h f) ys (length p.samples) (pos 0) long each in
    ap (λ (k : PlaneConfig). plane_of k ys) e ∙ ap (λ (xs : List ℤ). plane_of p.cfg xs) same

-- a restored plane is that of the definition
pub restored_plane_is : {X : Type 0} → (number : X → ℤ) (p : Parameters) (u : Units) (d a b : Plane X) → 0 < visible p.width a.cfg.xdec → visible p.width a.cfg.xdec ≤ a.cfg.width → IsRestoredPlane number p.sequence.enable_cdef p.sequence.bit_depth p.width p.height u d a b → view_plane number b ≡ restored_plane p u (view_plane number d) (view_plane number a)
unfolding plane_of
restored_plane_is number p u d a b some wide h =
    let w : ℕ = visible p.width a.cfg.xdec in
    with_picture_is (view_plane number a) (visible p.width a.cfg.xdec) (visible p.height a.cfg.ydec)
    (restored (plane_settings p u a.cfg) (picture_in (visible p.width a.cfg.xdec) (visible p.height a.cfg.ydec) (view_plane number d)) (picture_in (visible p.width a.cfg.xdec) (visible p.height a.cfg.ydec) (view_plane number a)))
    b.cfg (plane_numbers number b) h.cfg h.samples.long
    (λ k l. area_stored (view_plane number a) (visible p.width a.cfg.xdec) (visible p.height a.cfg.ydec) _ (plane_numbers number b) some (omega (arith, a.wide)) h.samples k)

-- a plane without samples stays
empty_plane_is : {X : Type 0} → (number : X → ℤ) (p : Parameters) (u : Units) (d a : Plane X) → length a.samples.items ≡ 0 → view_plane number a ≡ restored_plane p u (view_plane number d) (view_plane number a)
unfolding plane_of
empty_plane_is number p u d a none =
    let none' : length (plane_numbers number a) ≡ 0 = length-map a.samples.items number ∙ none in
    with_picture_is (view_plane number a) (visible p.width a.cfg.xdec) (visible p.height a.cfg.ydec)
    (restored (plane_settings p u a.cfg) (picture_in (visible p.width a.cfg.xdec) (visible p.height a.cfg.ydec) (view_plane number d)) (picture_in (visible p.width a.cfg.xdec) (visible p.height a.cfg.ydec) (view_plane number a)))
    a.cfg (plane_numbers number a) refl refl (λ k l. absurd (omega arith))

-- the visible side of a plane is positive and at most 65536
record IsVisibleSide (side dec : ℕ) : Type 0 where
  some : 0 < visible side dec
  small : visible side dec ≤ 65536
  within : visible side dec ≤ rounded side / 2 ^ dec

-- the visible side of a plane lies in the rounded one
visible_side : (side dec : ℕ) → dec ≤ 1 → 1 ≤ side → side ≤ 65536 → IsVisibleSide side dec
visible_side side zero l some small = record { some = omega arith; small = omega arith; within = omega arith }
visible_side side (suc zero) l some small = record { some = omega arith; small = omega arith; within = omega arith }
visible_side side (suc (suc d)) l some small = absurd (omega arith)

-- a plane of a frame has the frame's picture
plane_picture : {X : Type 0} → (number : X → ℤ) (bound w h xdec ydec xpad ypad : ℕ) (p : Plane X) → p.cfg ≡ plane_layout (rounded w / 2 ^ xdec) (rounded h / 2 ^ ydec) xdec ydec xpad ypad → IsVisibleSide w xdec → IsVisibleSide h ydec → IsInRange bound (view_plane number p) → HasStripePicture number bound (visible w xdec) (visible h ydec) p
plane_picture number bound w h xdec ydec xpad ypad p e vw vh r =
    let wide : p.cfg.width ≡ rounded w / 2 ^ xdec = ap (λ (k : PlaneConfig). k.width) e in
    let high : p.cfg.height ≡ rounded h / 2 ^ ydec = ap (λ (k : PlaneConfig). k.height) e in
    record {
      some_width = vw.some;
      some_height = vh.some;
      wide = rw wide vw.within;
      high = rw high vh.within;
      small_width = vw.small;
      small_height = vh.small;
      range = λ x y lx ly.
          let hx : x < p.cfg.width = omega (arith, vw.within) in
          let hy : y < p.cfg.height = omega (arith, vh.within) in
          let both : (p.cfg.yorigin + y) * p.cfg.stride ≡ p.cfg.yorigin * p.cfg.stride + y * p.cfg.stride = grind arith in
          let at : (p.cfg.yorigin + y) * p.cfg.stride + (p.cfg.xorigin + x) ≡ origin_place p.cfg + y * p.cfg.stride + x = omega arith in
          subst (λ (i : ℕ). InDepth bound (sample (plane_numbers number p) i)) at (r x y hx hy);
    }

-- units of a frame fit the picture of their plane
units_fit : (p : Parameters) (unit xdec ydec : ℕ) (u : Units) → IsUnitSide unit → IsVisibleSide p.width xdec → HasLayout (unit_layout p unit (xdec, ydec)) u → AreUnits u → FitPicture u (visible p.width xdec) 392
units_fit p unit xdec ydec u side v h each =
    let size : u.cfg.unit_size ≡ unit = ap (λ (k : RestorationPlaneConfig). k.unit_size) h.layout in
    let cols : u.cfg.cols ≡ unit_count unit (visible p.width xdec) = ap (λ (k : RestorationPlaneConfig). k.cols) h.layout in
    let rows : u.cfg.rows ≡ unit_count unit (visible p.height ydec) = ap (λ (k : RestorationPlaneConfig). k.rows) h.layout in
    let fits : (unit_count unit (visible p.width xdec) - 1) * unit < visible p.width xdec = count_fits unit (visible p.width xdec) side.least v.some in
    let reaches : visible p.width xdec + 7 ≤ (unit_count unit (visible p.width xdec) - 1) * unit + 392 = count_reaches unit (visible p.width xdec) side.least side.most v.some in
    let places : (u.cfg.cols - 1) * u.cfg.unit_size ≡ (unit_count unit (visible p.width xdec) - 1) * unit = ap (λ (n : ℕ). (n - 1) * u.cfg.unit_size) cols ∙ ap (λ (n : ℕ). (unit_count unit (visible p.width xdec) - 1) * n) size in
    let turned : unit_count unit (visible p.width xdec) * unit_count unit (visible p.height ydec) ≡ unit_count unit (visible p.height ydec) * unit_count unit (visible p.width xdec) = mul_comm _ _ in
    record {
      units = record {
        some_cols = rw h.cols (omega arith);
        some_rows = rw h.rows (omega arith);
        some_size = omega (arith, side.least);
        cols = h.cols ∙ sym cols;
        rows = h.rows ∙ sym rows;
      };
      all = h.entries ∙ turned ∙ ap (λ (n : ℕ). n * unit_count unit (visible p.width xdec)) (sym h.rows) ∙ ap (λ (n : ℕ). u.rows * n) (sym h.cols);
      fits = omega (arith, fits);
      room = omega (arith, side.most);
      last = omega (arith, reaches);
      each = each;
    }

-- a plane that is made for its frame can be restored
plane_can : {X : Type 0} → (number : X → ℤ) (p : Parameters) (unit xdec ydec xpad ypad : ℕ) (u : Units) (d a : Plane X) → xdec ≤ 1 → ydec ≤ 1 → (1 ≤ p.width) × (p.width ≤ 65536) → (1 ≤ p.height) × (p.height ≤ 65536) → IsUnitSide unit
    → a.cfg ≡ plane_layout (rounded p.width / 2 ^ xdec) (rounded p.height / 2 ^ ydec) xdec ydec xpad ypad → d.cfg ≡ plane_layout (rounded p.width / 2 ^ xdec) (rounded p.height / 2 ^ ydec) xdec ydec xpad ypad
    → IsInRange (2 ^ p.sequence.bit_depth) (view_plane number a) → IsInRange (2 ^ p.sequence.bit_depth) (view_plane number d) → HasLayout (unit_layout p unit (xdec, ydec)) u → AreUnits u
    → CanRestore number p.sequence.bit_depth 392 p.width p.height u d a
plane_can number p unit xdec ydec xpad ypad u d a lx ly width height side ea ed ra rd h each =
    let vw = visible_side p.width xdec lx width.0 width.1 in
    let vh = visible_side p.height ydec ly height.0 height.1 in
    let ex : a.cfg.xdec ≡ xdec = ap (λ (k : PlaneConfig). k.xdec) ea in
    let ey : a.cfg.ydec ≡ ydec = ap (λ (k : PlaneConfig). k.ydec) ea in
    let pa = plane_picture number (2 ^ p.sequence.bit_depth) p.width p.height xdec ydec xpad ypad a ea vw vh ra in
    let pd = plane_picture number (2 ^ p.sequence.bit_depth) p.width p.height xdec ydec xpad ypad d ed vw vh rd in
    record {
      xdec = omega arith;
      ydec = omega arith;
      units = subst (λ (n : ℕ). FitPicture u (visible p.width n) 392) (sym ex) (units_fit p unit xdec ydec u side vw h each);
      enhanced = subst (λ (n : ℕ). HasStripePicture number (2 ^ p.sequence.bit_depth) (visible p.width n) (visible p.height a.cfg.ydec) a) (sym ex) (subst (λ (n : ℕ). HasStripePicture number (2 ^ p.sequence.bit_depth) (visible p.width xdec) (visible p.height n) a) (sym ey) pa);
      deblocked = subst (λ (n : ℕ). HasStripePicture number (2 ^ p.sequence.bit_depth) (visible p.width n) (visible p.height a.cfg.ydec) d) (sym ex) (subst (λ (n : ℕ). HasStripePicture number (2 ^ p.sequence.bit_depth) (visible p.width xdec) (visible p.height n) d) (sym ey) pd);
    }

-- a luma plane is not decimated
luma_layout : (w h xpad ypad : ℕ) → plane_layout w h 0 0 xpad ypad ≡ plane_layout (w / 2 ^ 0) (h / 2 ^ 0) 0 0 xpad ypad
luma_layout w h xpad ypad =
    let ew : w ≡ w / 2 ^ 0 = omega arith in
    let eh : h ≡ h / 2 ^ 0 = omega arith in
    ap (λ (n : ℕ). plane_layout n h 0 0 xpad ypad) ew ∙ ap (λ (n : ℕ). plane_layout (w / 2 ^ 0) n 0 0 xpad ypad) eh

-- the luma plane of a frame has the frame's picture
pub luma_plane_picture : {X : Type 0} → (number : X → ℤ) (limit : ℕ) (p : Parameters) (a : Frame X) → IsFrame limit p → IsInputFor p (view_frame number a) → HasStripePicture number (2 ^ p.sequence.bit_depth) (visible p.width 0) (visible p.height 0) a.planes.y
luma_plane_picture number limit p a f h =
    plane_picture number (2 ^ p.sequence.bit_depth) p.width p.height 0 0 88 88 a.planes.y (ap (λ (t : Three PlaneConfig). t.y) h.layout ∙ luma_layout (rounded p.width) (rounded p.height) 88 88)
    (visible_side p.width 0 (omega arith) f.width.0 f.width.1) (visible_side p.height 0 (omega arith) f.height.0 f.height.1) h.y_range

-- at 4:0:0 there is no decimation
no_chroma : IsSome (decimation Cs400) → ⊥
no_chroma h = cc

-- a chroma plane can be restored
chroma_can : {X : Type 0} → (number : X → ℤ) (p : Parameters) (unit : ℕ) (s : ChromaSampling) (u : Units) (d a : Plane X) → IsSome (decimation s) → (1 ≤ p.width) × (p.width ≤ 65536) → (1 ≤ p.height) × (p.height ≤ 65536) → IsUnitSide unit
    → a.cfg ≡ chroma_layout (rounded p.width) (rounded p.height) (decimation s) → d.cfg ≡ chroma_layout (rounded p.width) (rounded p.height) (decimation s)
    → IsInRange (2 ^ p.sequence.bit_depth) (view_plane number a) → IsInRange (2 ^ p.sequence.bit_depth) (view_plane number d) → HasLayout (unit_layout p unit (unwrap_or (decimation s) (0, 0))) u → AreUnits u
    → CanRestore number p.sequence.bit_depth 392 p.width p.height u d a
chroma_can number p unit Cs420 u d a some width height side ea ed ra rd h each = plane_can number p unit 1 1 44 44 u d a (omega arith) (omega arith) width height side ea ed ra rd h each
chroma_can number p unit Cs422 u d a some width height side ea ed ra rd h each = plane_can number p unit 1 0 44 88 u d a (omega arith) (omega arith) width height side ea ed ra rd h each
chroma_can number p unit Cs444 u d a some width height side ea ed ra rd h each = plane_can number p unit 0 0 88 88 u d a (omega arith) (omega arith) width height side ea ed ra rd h each
chroma_can number p unit Cs400 u d a some width height side ea ed ra rd h each = absurd (no_chroma some)

-- a frame that is made for its parameters can be restored
pub can_restore_frame : {X : Type 0} → (number : X → ℤ) (limit planes : ℕ) (p : Parameters) (s : Three Units) (d a : Frame X) → IsFrame limit p → AreUnitsFor p s → AreFrameUnits s → IsInputFor p (view_frame number d) → IsInputFor p (view_frame number a) → (1 < planes → IsSome (decimation p.sequence.chroma_sampling)) → CanRestoreFrame number p.sequence.bit_depth 392 p.width p.height planes s d a
can_restore_frame number limit planes p s d a f h each hd ha chroma = record {
  y = plane_can number p (unit_sizes p).luma 0 0 88 88 s.y d.planes.y a.planes.y (omega arith) (omega arith) f.width f.height (luma_side p)
      (ap (λ (t : Three PlaneConfig). t.y) ha.layout ∙ luma_layout (rounded p.width) (rounded p.height) 88 88) (ap (λ (t : Three PlaneConfig). t.y) hd.layout ∙ luma_layout (rounded p.width) (rounded p.height) 88 88) ha.y_range hd.y_range h.y each.y;
  u = λ l. chroma_can number p (unit_sizes p).chroma p.sequence.chroma_sampling s.u d.planes.u a.planes.u (chroma l) f.width f.height (chroma_side p)
      (ap (λ (t : Three PlaneConfig). t.u) ha.layout) (ap (λ (t : Three PlaneConfig). t.u) hd.layout) ha.u_range hd.u_range h.u each.u;
  v = λ l. chroma_can number p (unit_sizes p).chroma p.sequence.chroma_sampling s.v d.planes.v a.planes.v (chroma l) f.width f.height (chroma_side p)
      (ap (λ (t : Three PlaneConfig). t.v) ha.layout) (ap (λ (t : Three PlaneConfig). t.v) hd.layout) ha.v_range hd.v_range h.v each.v;
}

-- without chroma the chroma planes have no samples
no_samples : {X : Type 0} → (p : Parameters) (a : Plane X) → a.cfg ≡ chroma_layout (rounded p.width) (rounded p.height) (decimation p.sequence.chroma_sampling) → decimation p.sequence.chroma_sampling ≡ None → length a.samples.items ≡ 0
no_samples p a e none =
    let cfg : a.cfg ≡ plane_layout 0 0 0 0 0 0 = e ∙ ap (λ (m : Option (ℕ × ℕ)). chroma_layout (rounded p.width) (rounded p.height) m) none in
    let step : a.cfg.stride ≡ 0 = ap (λ (k : PlaneConfig). k.stride) cfg in
    let size : a.cfg.stride * a.cfg.alloc_height ≡ 0 = ap (λ (n : ℕ). n * a.cfg.alloc_height) step ∙ omega arith in
    a.stored ∙ size

-- a fact that holds of one plane and of more holds of each number of planes
one_or_more : (n : ℕ) {P : Type 0} → (n ≤ 1 → P) → (1 < n → P) → P
one_or_more zero f g = f (omega arith)
one_or_more (suc zero) f g = f (omega arith)
one_or_more (suc (suc n)) f g = g (omega arith)

-- a frame by its three planes
frame_of : PlaneView → PlaneView → PlaneView → Three PlaneView
frame_of y u v = record { y = y; u = u; v = v }

-- a restored frame is that of the definition
pub restored_frame_is : {X : Type 0} → (number : X → ℤ) (planes : ℕ) (p : Parameters) (s : Three Units) (d a b : Frame X) → IsInputFor p (view_frame number a) → CanRestoreFrame number p.sequence.bit_depth 392 p.width p.height planes s d a → (planes ≤ 1 → decimation p.sequence.chroma_sampling ≡ None) → IsRestoredFrame number p.sequence.enable_cdef p.sequence.bit_depth p.width p.height planes s d a b → view_frame number b ≡ restored_frame p s (view_frame number d) (view_frame number a)
unfolding frame_of
restored_frame_is number planes p s d a b ha can none h =
    let y : view_plane number b.planes.y ≡ restored_plane p s.y (view_plane number d.planes.y) (view_plane number a.planes.y) = restored_plane_is number p s.y d.planes.y a.planes.y b.planes.y can.y.enhanced.some_width can.y.enhanced.wide h.y in
    let u_more : 1 < planes → view_plane number b.planes.u ≡ restored_plane p s.u (view_plane number d.planes.u) (view_plane number a.planes.u) = λ l. restored_plane_is number p s.u d.planes.u a.planes.u b.planes.u (can.u l).enhanced.some_width (can.u l).enhanced.wide (h.u l) in
    let u_none : planes ≤ 1 → view_plane number b.planes.u ≡ restored_plane p s.u (view_plane number d.planes.u) (view_plane number a.planes.u) = λ l. ap (view_plane number) (h.same_u l) ∙ empty_plane_is number p s.u d.planes.u a.planes.u (no_samples p a.planes.u (ap (λ (t : Three PlaneConfig). t.u) ha.layout) (none l)) in
    let v_more : 1 < planes → view_plane number b.planes.v ≡ restored_plane p s.v (view_plane number d.planes.v) (view_plane number a.planes.v) = λ l. restored_plane_is number p s.v d.planes.v a.planes.v b.planes.v (can.v l).enhanced.some_width (can.v l).enhanced.wide (h.v l) in
    let v_none : planes ≤ 1 → view_plane number b.planes.v ≡ restored_plane p s.v (view_plane number d.planes.v) (view_plane number a.planes.v) = λ l. ap (view_plane number) (h.same_v l) ∙ empty_plane_is number p s.v d.planes.v a.planes.v (no_samples p a.planes.v (ap (λ (t : Three PlaneConfig). t.v) ha.layout) (none l)) in
    let u = one_or_more planes u_none u_more in
    let v = one_or_more planes v_none v_more in
    ap (λ (q : PlaneView). frame_of q (view_plane number b.planes.u) (view_plane number b.planes.v)) y
    ∙ ap (λ (q : PlaneView). frame_of (restored_plane p s.y (view_plane number d.planes.y) (view_plane number a.planes.y)) q (view_plane number b.planes.v)) u
    ∙ ap (λ (q : PlaneView). frame_of (restored_plane p s.y (view_plane number d.planes.y) (view_plane number a.planes.y)) (restored_plane p s.u (view_plane number d.planes.u) (view_plane number a.planes.u)) q) v
