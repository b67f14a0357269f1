-- The stripes of a plane, and the samples that the filters of a stripe read (AV1 specification,
-- sections 7.17 and 7.17.6).
use Rattle.std.specs.Prelude.{ℕ, ℤ, ◌+◌, ◌-◌, ◌*◌, ◌/◌, ◌^◌, ◌<◌, ◌≤◌, min, max, List, nat_lt, if◌then◌else◌}
use Rattle.av1_plane.specs.declared.plane.Plane.{Plane}
use Rattle.av1_plane.specs.Numbers.{InDepth}
pub use Rattle.av1_plane.specs.Numbers.{sample}
use Rattle.av1_plane.specs.Place.{origin_place}
use Rattle.av1_plane.specs.Planes.{plane_numbers}

-- A picture in a list of numbers: row y is the `width` numbers from origin + y * step on.
pub record Picture : Type 0 where
  pub samples : List ℤ
  pub origin : ℕ
  pub step : ℕ
  pub width : ℕ
  pub height : ℕ

-- where column x of row y of a picture stands in its list
abbrev pub stripe_place : Picture → ℕ → ℕ → ℕ
stripe_place p x y = p.origin + y * p.step + x

-- the sample at column x of row y
abbrev pub pixel : Picture → ℕ → ℕ → ℤ
pixel p x y = sample p.samples (stripe_place p x y)

-- A stripe: its rows are those from `start` on, up to `stop`, which may lie below the picture.
pub record Stripe : Type 0 where
  pub start : ℕ
  pub stop : ℕ

-- the height of a stripe in a plane; in luma it is 64 rows
abbrev pub stripe_height : ℕ → ℕ
stripe_height ydec = 64 / 2 ^ ydec

-- how many rows higher than the superblocks the stripes of a plane lie; in luma 8
abbrev pub stripe_offset : ℕ → ℕ
stripe_offset ydec = 8 / 2 ^ ydec

-- stripe k of a plane
abbrev pub stripe : ℕ → ℕ → Stripe
stripe ydec k = record {
  start = k * stripe_height ydec - stripe_offset ydec;
  stop = (k + 1) * stripe_height ydec - stripe_offset ydec;
}

-- the number of the stripe that has row y
abbrev pub stripe_of : ℕ → ℕ → ℕ
stripe_of ydec y = (y + stripe_offset ydec) / stripe_height ydec

-- how many stripes a frame of that height has
abbrev pub stripe_count : ℕ → ℕ
stripe_count height = (height + 7) / 64 + 1

-- What a stripe's filters read: the deblocked picture, the enhanced one, which CDEF gave, and the stripe.
pub record Scene : Type 0 where
  pub deblocked : Picture
  pub enhanced : Picture
  pub stripe : Stripe

-- Filters reach three columns and rows past a sample. So their places count from 3 before the picture:
-- this is the column or row of the picture that is nearest to such a place.
abbrev pub nearest_in_stripe : ℕ → ℕ → ℕ
nearest_in_stripe side at = min (at - 3) (side - 1)

-- row y as a stripe reads it: deblocked rows for two above and two below it, in it the enhanced ones
unfoldable pub in_stripe : Scene → ℕ → ℕ → ℤ
in_stripe s x y =
    if nat_lt y s.stripe.start then pixel s.deblocked x (max y (s.stripe.start - 2))
    else if nat_lt y s.stripe.stop then pixel s.enhanced x y
    else pixel s.deblocked x (min y (s.stripe.stop + 1))

-- what a stripe's filters read at column x and row y, which count from 3 before the picture
abbrev pub stripe_source : Scene → ℕ → ℕ → ℤ
stripe_source s x y = in_stripe s (nearest_in_stripe s.enhanced.width x) (nearest_in_stripe s.enhanced.height y)

-- the visible part of a plane
abbrev pub picture_of : {X : Type 0} → (X → ℤ) → ℕ → ℕ → Plane X → Picture
picture_of number width height p = record { samples = plane_numbers number p; origin = origin_place p.cfg; step = p.cfg.stride; width = width; height = height }

-- what the filters read of a stripe of two planes
abbrev pub scene_in : {X : Type 0} → (X → ℤ) → ℕ → ℕ → ℕ → ℕ → Plane X → Plane X → Scene
scene_in number width height start stop e d = record { deblocked = picture_of number width height d; enhanced = picture_of number width height e; stripe = record { start = start; stop = stop } }

-- a plane has a visible part of these sides
pub record HasShape {X : Type 0} (width height : ℕ) (p : Plane X) : Type 0 where
  pub some_width : 0 < width
  pub some_height : 0 < height
  pub wide : width ≤ p.cfg.width
  pub high : height ≤ p.cfg.height
  pub small_width : width ≤ 65536
  pub small_height : height ≤ 65536

-- a plane has a visible part of these sides, with samples in a range
pub record HasStripePicture {X : Type 0} (number : X → ℤ) (bound width height : ℕ) (p : Plane X) : Type 0 where
  pub some_width : 0 < width
  pub some_height : 0 < height
  pub wide : width ≤ p.cfg.width
  pub high : height ≤ p.cfg.height
  pub small_width : width ≤ 65536
  pub small_height : height ≤ 65536
  pub range : (x y : ℕ) → x < width → y < height → InDepth bound (pixel (picture_of number width height p) x y)
