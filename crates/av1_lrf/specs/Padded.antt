-- Rows, and the rows of a stripe, as if they went on past their ends with what stands there (AV1 specification, section
-- 7.17.6).
use Rattle.std.specs.Prelude.{ℕ, zero, suc, ℤ, pos, ◌+◌, ◌-◌, ◌^◌, ◌≤◌, ◌+ℤ◌, min, max, nat_lt, if◌then◌else◌, List, [], ◌∷◌, ◌++◌, take, drop, length, unsigned_abs}
use Rattle.av1_plane.specs.declared.plane.Plane.{Plane}
use Rattle.av1_plane.specs.Place.{row_rest}
use Rattle.av1_lrf.specs.declared.rows.Extent.{Extent}
use Rattle.av1_lrf.specs.Rows.{nearest_in_stripe}
use Rattle.av1_lrf.specs.Taps.{CanLook}

-- how many places before a row its places count from
abbrev pub far : ℕ
far = 2 ^ 33

-- n samples of a row from a place on, past its ends the row's end samples
unfoldable pub padded_row : {X : Type 0} → List X → ℕ → ℕ → List X
padded_row row at zero = []
padded_row row at (suc n) = take 1 (drop (min (at - far) (length row - 1)) row) ++ padded_row row (at + 1) n

-- the place of a signed position in a row
abbrev pub far_place : ℤ → ℕ
far_place start = unsigned_abs (start +ℤ pos far)

-- row y of the visible part of a plane
abbrev pub visible_row : {X : Type 0} → Plane X → ℕ → ℕ → List X
visible_row p width y = take width (row_rest p.cfg p.samples.items (p.cfg.yorigin + y) p.cfg.xorigin)

-- Row y as a stripe reads it, which counts from 3 above the picture: above the stripe two rows of the deblocked plane d,
-- below it two as well, in it those of the enhanced plane e.
unfoldable pub stripe_row : {X : Type 0} → Plane X → Plane X → Extent → ℕ → List X
stripe_row e d x y =
    let at = nearest_in_stripe x.height y in
    if nat_lt at x.start then visible_row d x.width (max at (x.start - 2))
    else if nat_lt at x.stop then visible_row e x.width at
    else visible_row d x.width (min at (x.stop + 1))

-- n rows of a stripe from row y on
unfoldable pub stripe_rows : {X : Type 0} → Plane X → Plane X → Extent → ℕ → ℕ → List (List X)
stripe_rows e d x y zero = []
stripe_rows e d x y (suc n) = stripe_row e d x y ∷ stripe_rows e d x (y + 1) n

-- n rows of a stripe from row y on can be read
pub record IsNearStripe {X : Type 0} (e d : Plane X) (x : Extent) (y n : ℕ) : Type 0 where
  pub look : CanLook x e d
  pub near : y + n ≤ 2 ^ 33
