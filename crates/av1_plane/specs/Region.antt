-- A rectangle of a plane for writing: row y is the samples from place start + y * step on.
use Rattle.std.specs.Prelude.{ℕ, ℤ, ◌+◌, ◌-◌, ◌*◌, ◌≤◌, ◌≡◌, List, map, length, take, drop}
use Rattle.av1_plane.specs.declared.region.Rect.{Rect}
use Rattle.av1_plane.specs.Runs.{plane_with_run}
use Rattle.av1_plane.specs.declared.region_mut.PlaneRegionMut.{PlaneRegionMut}

-- the place of column x of row y, where the first row begins at `start` and rows `step` apart
abbrev pub spot : ℕ → ℕ → ℕ → ℕ → ℕ
spot start step x y = start + y * step + x

-- all samples of the plane under a region
abbrev pub samples_under : {X : Type 0} → PlaneRegionMut X → List X
samples_under r = r.plane.now.samples.items

-- the numbers of all samples of the plane under a region
abbrev pub numbers_under : {X : Type 0} → (X → ℤ) → PlaneRegionMut X → List ℤ
numbers_under number r = map number (samples_under r)

-- where a region's first row begins in the samples of its plane
abbrev pub first_place : {X : Type 0} → PlaneRegionMut X → ℕ
first_place r = r.start

-- how far apart the rows of a region for writing begin
abbrev pub row_step : {X : Type 0} → PlaneRegionMut X → ℕ
row_step r = r.plane.now.cfg.stride

-- the rectangle of a region for writing, relative to the plane's origin
abbrev pub area : {X : Type 0} → PlaneRegionMut X → Rect
area r = r.rect

-- a region's rectangle lies in the stored rows of its plane
pub record IsStored {X : Type 0} (r : PlaneRegionMut X) : Type 0 where
  pub wide : (area r).width ≤ row_step r
  pub inside : first_place r + (area r).height * row_step r + (area r).width ≤ length (samples_under r) + row_step r

-- b is a's rectangle of a's plane, whose samples may have changed
pub record IsSamePart {X : Type 0} (a b : PlaneRegionMut X) : Type 0 where
  pub name : b.plane.ghost_name ≡ a.plane.ghost_name
  pub layout : b.plane.now.cfg ≡ a.plane.now.cfg
  pub start : first_place b ≡ first_place a
  pub cfg : b.plane_cfg ≡ a.plane_cfg
  pub rect : area b ≡ area a

-- where row y begins in the plane's samples
abbrev pub row_place : {X : Type 0} → PlaneRegionMut X → ℕ → ℕ
row_place r y = spot (first_place r) (row_step r) 0 y

-- row y of a region for writing
abbrev pub row_under : {X : Type 0} → PlaneRegionMut X → ℕ → List X
row_under r y = take (area r).width (drop (row_place r y) (samples_under r))

-- how many samples lie from the start of the first of some rows to the end of the last
abbrev pub band_length : ℕ → ℕ → ℕ → ℕ
band_length step width rows = (rows - 1) * step + width

-- `rows` rows from row y on, as one run of samples
abbrev pub band_under : {X : Type 0} → PlaneRegionMut X → ℕ → ℕ → List X
band_under r y rows =
    take (band_length (row_step r) (area r).width rows) (drop (row_place r y) (samples_under r))

-- the region after ws was written from place i on
abbrev pub with_run : {X : Type 0} → PlaneRegionMut X → ℕ → List X → PlaneRegionMut X
with_run r i ws = record r { plane = record r.plane { now = plane_with_run r.plane.now i ws } }
