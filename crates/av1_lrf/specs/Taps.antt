-- The filter's numbers, as the code holds them.
use Rattle.std.specs.Prelude.{ℕ, ℤ, ◌+◌, ◌*◌, ◌<◌, pos, neg_ℤ, ◌/◌, ◌^◌, ◌≤◌, ◌≤ℤ◌, ◌<ℤ◌, ◌≡◌, List, [], ◌∷◌}
use Rattle.av1_lrf.specs.declared.taps.Taps.{Taps}
use Rattle.av1_lrf.specs.declared.taps.Limits.{Limits}
use Rattle.av1_plane.specs.declared.plane.Plane.{Plane}
use Rattle.av1_lrf.specs.declared.rows.Extent.{Extent}
use Rattle.av1_lrf.specs.declared.block.Filter.{Filter}
use Rattle.av1_lrf.specs.Rows.{sample, Scene, scene_in, HasShape, HasStripePicture}
use Rattle.av1_tiling.specs.Restoration.{across_coeffs, down_coeffs}
use Rattle.av1_lrf.specs.Wiener.{Rounding, down, taps, across_rounding, down_rounding}

-- all seven taps of a symmetric filter
abbrev pub seven : Taps → List ℤ
seven t = t.a ∷ t.b ∷ t.c ∷ t.middle ∷ t.c ∷ t.b ∷ t.a ∷ []

-- a number is at most m, on both sides of 0
pub record IsWithinBound (m : ℕ) (v : ℤ) : Type 0 where
  pub low : neg_ℤ (pos m) ≤ℤ v
  pub high : v ≤ℤ pos m

-- the taps are at most 256 on both sides of 0
pub record AreTaps (t : Taps) : Type 0 where
  pub a : IsWithinBound 256 t.a
  pub b : IsWithinBound 256 t.b
  pub c : IsWithinBound 256 t.c
  pub middle : IsWithinBound 256 t.middle

-- the rounding of these limits
abbrev pub rounding_of : Limits → Rounding
rounding_of l = record { bits = l.bits; low = l.low; high = l.high }

-- limits that hold for sums of seven products, and whose results 16 bits hold
pub record AreLimits (l : Limits) : Type 0 where
  pub bits : l.bits ≤ 11
  pub half : l.half ≡ pos (2 ^ l.bits / 2)
  pub small : IsWithinBound 1024 l.half
  pub low : IsWithinBound 32767 l.low
  pub high : IsWithinBound 32767 l.high

-- cells in rows of 64 have the values of the first n columns of the first m rows
pub record HasStripeCells (n m : ℕ) (value : ℕ → ℕ → ℤ) (cells : List ℤ) : Type 0 where
  pub each : (i j : ℕ) → i < n → j < m → sample cells (j * 64 + i) ≡ value i j

-- what the filters read of the stripe of an extent
abbrev pub scene_by : {X : Type 0} → (X → ℤ) → Extent → Plane X → Plane X → Scene
scene_by number e enhanced deblocked = scene_in number e.width e.height e.start e.stop enhanced deblocked

-- an extent's stripe of two planes that have a visible part of these sides
pub record CanLook {X : Type 0} (e : Extent) (p d : Plane X) : Type 0 where
  pub enhanced : HasShape e.width e.height p
  pub deblocked : HasShape e.width e.height d
  pub start : e.start ≤ e.height
  pub stop : e.start ≤ e.stop
  pub near : e.stop ≤ 131072

-- an extent's stripe of two planes whose visible samples 15 bits hold
pub record CanReadStripe {X : Type 0} (number : X → ℤ) (e : Extent) (p d : Plane X) : Type 0 where
  pub enhanced : HasStripePicture number 32768 e.width e.height p
  pub deblocked : HasStripePicture number 32768 e.width e.height d
  pub start : e.start < e.height
  pub stop : e.start < e.stop
  pub near : e.stop ≤ 131072

-- a sample of a stripe after a filter across and down
abbrev pub down_by : Filter → Scene → ℕ → ℕ → ℤ
down_by f s x y = down (rounding_of f.across_limits) (seven f.across) (rounding_of f.down_limits) (seven f.down) s x y

-- a filter whose taps and limits are small and whose results are below a limit
pub record IsTapFilter (limit : ℕ) (f : Filter) : Type 0 where
  pub across : AreTaps f.across
  pub across_limits : AreLimits f.across_limits
  pub down : AreTaps f.down
  pub down_limits : AreLimits f.down_limits
  pub low : pos 0 ≤ℤ f.down_limits.low
  pub order : f.down_limits.low ≤ℤ f.down_limits.high
  pub high : f.down_limits.high <ℤ pos limit

-- f is the filter of a unit's coefficients
pub record IsWiener (bd : ℕ) (coeffs : List (List ℤ)) (f : Filter) : Type 0 where
  pub across : seven f.across ≡ taps (across_coeffs coeffs)
  pub across_limits : rounding_of f.across_limits ≡ across_rounding bd
  pub down : seven f.down ≡ taps (down_coeffs coeffs)
  pub down_limits : rounding_of f.down_limits ≡ down_rounding bd
