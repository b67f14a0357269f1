-- Pictures in planes.
use Rattle.std.proofs.Common.{◌≡◌, ℕ, ℤ, ◌+◌, ◌*◌, ◌≤◌, List, length, ◌∙◌, ap, arith, ◌^◌, inl, inr, lit≤}
use Rattle.std.proofs.lemmas.Nat.{mul-le}
use Rattle.std.proofs.lemmas.Int.{ints}
use Rattle.av1_plane.specs.declared.plane.Plane.{Plane}
use Rattle.av1_plane.specs.Place.{origin_place}
use Rattle.av1_lrf.specs.declared.rows.Extent.{Extent}
use Rattle.av1_lrf.specs.Rows.{Scene, HasShape, HasStripePicture}
use Rattle.av1_lrf.specs.Runs.{HasRowRoom}
use Rattle.av1_tiling.specs.Restoration.{across_coeffs}
use Rattle.av1_lrf.specs.Wiener.{IsDepth, Rounding, wiener, down, taps, across_rounding, down_rounding}
use Rattle.av1_lrf.specs.declared.block.Filter.{Filter}
use Rattle.av1_lrf.specs.Taps.{seven, rounding_of, down_by, IsTapFilter, IsWiener, CanLook, CanReadStripe}

-- a picture has room in its plane
pub plane_room : {X : Type 0} → (p : Plane X) (width height : ℕ) → width ≤ p.cfg.width → height ≤ p.cfg.height → HasRowRoom (origin_place p.cfg) p.cfg.stride width height (length p.samples.items)
plane_room p width height w h =
    let rows : (p.cfg.yorigin + height) * p.cfg.stride ≤ p.cfg.alloc_height * p.cfg.stride = mul-le (p.cfg.yorigin + height) p.cfg.stride p.cfg.alloc_height p.cfg.stride (omega (arith, p.high)) (omega arith) in
    record { wide = omega (arith, p.wide); inside = omega (arith, p.wide, p.stored) }

-- the origin is a place of the samples
pub origin_bound : {X : Type 0} → (p : Plane X) → p.cfg.yorigin * p.cfg.stride ≤ length p.samples.items
origin_bound p =
    let rows : p.cfg.yorigin * p.cfg.stride ≤ p.cfg.alloc_height * p.cfg.stride = mul-le p.cfg.yorigin p.cfg.stride p.cfg.alloc_height p.cfg.stride (omega (arith, p.high)) (omega arith) in
    omega (arith, p.stored)

-- a plane with a picture in a range has the picture's shape
pub shape_of : {X : Type 0} → (number : X → ℤ) (bound width height : ℕ) (p : Plane X) → HasStripePicture number bound width height p → HasShape width height p
shape_of number bound width height p h = record { some_width = h.some_width; some_height = h.some_height; wide = h.wide; high = h.high; small_width = h.small_width; small_height = h.small_height }

-- a stripe that can be read can be looked at
pub look_of : {X : Type 0} → (number : X → ℤ) (e : Extent) (p d : Plane X) → CanReadStripe number e p d → CanLook e p d
look_of number e p d h = record { enhanced = shape_of number 32768 e.width e.height p h.enhanced; deblocked = shape_of number 32768 e.width e.height d h.deblocked; start = omega (arith, h.start); stop = omega (arith, h.stop); near = h.near }

-- a picture below a bound is below every greater bound
pub picture_below : {X : Type 0} → (number : X → ℤ) (a b width height : ℕ) (p : Plane X) → a ≤ b → HasStripePicture number a width height p → HasStripePicture number b width height p
picture_below number a b width height p l h = record {
  some_width = h.some_width;
  some_height = h.some_height;
  wide = h.wide;
  high = h.high;
  small_width = h.small_width;
  small_height = h.small_height;
  range = λ x y lx ly. let r = h.range x y lx ly in (r.0, grind (arith, ints, r.1));
}

-- a filter whose results are below a bound has them below every greater bound
pub filter_below : (a b : ℕ) (f : Filter) → a ≤ b → IsTapFilter a f → IsTapFilter b f
filter_below a b f l h = record { across = h.across; across_limits = h.across_limits; down = h.down; down_limits = h.down_limits; low = h.low; order = h.order; high = grind (arith, ints, h.high) }

-- a filter of coefficients gives what the definition says
pub filter_is : (bd : ℕ) (coeffs : List (List ℤ)) (f : Filter) (s : Scene) (x y : ℕ) → IsWiener bd coeffs f → down_by f s x y ≡ wiener bd coeffs s x y
filter_is bd coeffs f s x y h =
    ap (λ (r : Rounding). down r (seven f.across) (rounding_of f.down_limits) (seven f.down) s x y) h.across_limits
    ∙ ap (λ (ts : List ℤ). down (across_rounding bd) ts (rounding_of f.down_limits) (seven f.down) s x y) h.across
    ∙ ap (λ (r : Rounding). down (across_rounding bd) (taps (across_coeffs coeffs)) r (seven f.down) s x y) h.down_limits
    ∙ ap (λ (ts : List ℤ). down (across_rounding bd) (taps (across_coeffs coeffs)) (down_rounding bd) ts s x y) h.down

-- samples of a depth are below 32768
pub depth_below : (bd : ℕ) → IsDepth bd → 2 ^ bd ≤ 32768
depth_below bd h = elim h [ inl e ↦ rw e (lit≤ tt) | inr k ↦ elim k [ inl e ↦ rw e (lit≤ tt) | inr e ↦ rw e (lit≤ tt) ] ]

pub ruleset pictures = (plane_room, origin_bound)
