-- The units of a plane as the code goes over them.
use Rattle.std.specs.Prelude.{ℕ, ◌+◌, ◌-◌, ◌*◌, ◌<◌, ◌≤◌, ◌≡◌, length, min, nat_lt, if◌then◌else◌}
use Rattle.av1_tiling.specs.Restoration.{Units, HasUnits, AreUnits}

-- where unit column u of n begins, or the picture ends
unfoldable pub edge : ℕ → ℕ → ℕ → ℕ → ℕ
edge n size width u = if nat_lt u n then u * size else width

-- where stripe k of a plane begins, or the picture ends
abbrev pub row_edge : ℕ → ℕ → ℕ → ℕ → ℕ
row_edge height offset bottom k = min (k * height - offset) bottom

-- The units of a picture of that width. A row of prefix sums for one of them has `pitch` cells.
pub record FitPicture (u : Units) (width pitch : ℕ) : Type 0 where
  pub units : HasUnits u
  pub all : length u.entries ≡ u.rows * u.cols
  pub fits : (u.cfg.cols - 1) * u.cfg.unit_size < width
  pub room : u.cfg.unit_size + 7 ≤ pitch
  pub last : width + 7 ≤ (u.cfg.cols - 1) * u.cfg.unit_size + pitch
  pub each : AreUnits u
