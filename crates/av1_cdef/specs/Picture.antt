-- The samples of a plane that take part in CDEF, and the filtered samples of a block.
use Rattle.std.specs.Prelude.{ℕ, ℤ, pos, ◌≡◌, ◌<◌, ◌≤◌, ◌+◌, ◌-◌, ◌*◌, ◌^◌, true, false, ◌&&◌, nat_lt, nat_le, Option, Some, None, List, map, if◌then◌else◌}
use Rattle.std.specs.List.{slice_index_or}
use Rattle.av1_plane.specs.Numbers.{InDepth}
use Rattle.av1_cdef.specs.declared.settings.Settings.{Settings}
use Rattle.av1_cdef.specs.declared.source.Source.{Source}
use Rattle.av1_cdef.specs.declared.pad.Sides.{Sides}
use Rattle.av1_cdef.specs.Filter.{filtered_near}

-- width by height samples, the first of which stands at place `origin` of the list; rows begin `step` apart
pub record CdefPicture : Type 0 where
  pub samples : List ℤ
  pub origin : ℕ
  pub step : ℕ
  pub width : ℕ
  pub height : ℕ

-- the samples that a source shows
abbrev pub cdef_picture_of : {X : Type 0} → (X → ℤ) → Source X → CdefPicture
cdef_picture_of number s = record { samples = map number s.samples.now; origin = s.origin; step = s.step; width = s.width; height = s.height }

-- the sample at column x of row y
abbrev pub sample_at : CdefPicture → ℕ → ℕ → ℤ
sample_at p x y = slice_index_or p.samples (p.origin + y * p.step + x) (pos 0)

-- the samples near the one at column x of row y: row r and column c count from two rows above it and
-- two columns left of it
abbrev pub near : CdefPicture → ℕ → ℕ → ℕ → ℕ → Option ℤ
near p x y r c =
    if nat_le 2 (x + c) && nat_lt (x + c) (p.width + 2) && (nat_le 2 (y + r) && nat_lt (y + r) (p.height + 2))
    then Some (sample_at p (x + c - 2) (y + r - 2)) else None

-- the filtered sample at row i, column j of the block that starts at column x of row y
unfoldable pub filtered_at : CdefPicture → Settings → ℕ → ℕ → ℕ → ℕ → ℤ
filtered_at p s x y i j = filtered_near (near p (x + j) (y + i)) s (sample_at p (x + j) (y + i))

-- a list of n samples holds the picture, and each of its samples is below a bound
pub record IsHeld (bound n : ℕ) (p : CdefPicture) : Type 0 where
  pub narrow : p.step < 2 ^ 32
  pub wide : p.width ≤ p.step
  pub inside : p.origin + p.height * p.step + p.width ≤ n + p.step
  pub depth : (x y : ℕ) → x < p.width → y < p.height → InDepth bound (sample_at p x y)

-- a block of w by h samples at column x of row y, and on which sides the picture goes on: by two
-- samples at least, since blocks have four and more
pub record IsBlockOf (p : CdefPicture) (x y w h : ℕ) (s : Sides) : Type 0 where
  pub left : s.left ≡ true → 2 ≤ x
  pub no_left : s.left ≡ false → x ≡ 0
  pub right : s.right ≡ true → x + w + 2 ≤ p.width
  pub no_right : s.right ≡ false → x + w ≡ p.width
  pub top : s.top ≡ true → 2 ≤ y
  pub no_top : s.top ≡ false → y ≡ 0
  pub bottom : s.bottom ≡ true → y + h + 2 ≤ p.height
  pub no_bottom : s.bottom ≡ false → y + h ≡ p.height
