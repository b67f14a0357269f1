-- Parts of a plane and of a region that are written, and what is read of a slice.
use Rattle.std.specs.Prelude.{ℕ, ℤ, ◌+◌, ◌*◌, ◌%◌, ◌<◌, ◌==◌, List, length, unsigned_abs}
use Rattle.av1_plane.specs.declared.plane.Plane.{Plane}
use Rattle.av1_plane.specs.declared.plane_slice.PlaneSlice.{PlaneSlice}
use Rattle.av1_plane.specs.declared.region.Rect.{Rect}
use Rattle.av1_plane.specs.declared.region_mut.PlaneRegionMut.{PlaneRegionMut}
use Rattle.av1_plane.specs.Place.{origin_place}
use Rattle.av1_plane.specs.Slices.{slice_start}
use Rattle.av1_plane.specs.Planes.{plane_numbers}
use Rattle.av1_plane.specs.Region.{first_place, row_step, area, numbers_under}
use Rattle.av1_lrf.specs.Rows.{sample, scene_in}
use Rattle.av1_lrf.specs.Runs.{HasArea, HasRowRoom}
use Rattle.av1_lrf.specs.Integral.{source_from}
use Rattle.av1_lrf.specs.Guided.{Table, guided}

-- plane b is a with the columns from x0 up to x1 of the rows from y0 up to y1 as given; all else stays
abbrev pub FillsPart : {X : Type 0} → (X → ℤ) → (x0 x1 y0 y1 : ℕ) → (ℕ → ℕ → ℤ) → Plane X → Plane X → Type 0
FillsPart number x0 x1 y0 y1 value a b =
    HasArea (origin_place a.cfg) a.cfg.stride x0 x1 y0 y1 value (plane_numbers number a) (plane_numbers number b)

-- region b is a with all its samples as given; all else in the plane stays
abbrev pub FillsRegion : {X : Type 0} → (X → ℤ) → (ℕ → ℕ → ℤ) → PlaneRegionMut X → PlaneRegionMut X → Type 0
FillsRegion number value a b =
    HasArea (first_place a) (row_step a) 0 (area a).width 0 (area a).height value (numbers_under number a) (numbers_under number b)

-- a plane stores the columns and rows of a rectangle from a slice's place on
abbrev pub HoldsRectangle : {X : Type 0} → PlaneSlice X → Rect → Type 0
HoldsRectangle s r = HasRowRoom (slice_start s) s.plane.now.cfg.stride r.width r.height (length s.plane.now.samples.items)

-- a list of prefix sums has cells for a rectangle and three columns and rows more on each side
abbrev pub HoldsSums : List ℕ → ℕ → Rect → Type 0
HoldsSums cells stride r = (r.height + 6) * stride + r.width + 6 < length cells

-- column x of row y of a slice, guided by a table with three columns and rows more on each side
abbrev pub guided_slice : {X : Type 0} → (X → ℤ) → ℕ → ℕ → List ℤ → Table → PlaneSlice X → ℕ → ℕ → ℤ
guided_slice number bd set xqd f s x y =
    guided bd set xqd (y % 2 == 1) f (unsigned_abs (sample (plane_numbers number s.plane.now) (slice_start s + y * s.plane.now.cfg.stride + x))) (x + 3) (y + 3)

-- how wide the picture is that ends crop_w columns from a slice's place on
abbrev pub slice_width : {X : Type 0} → PlaneSlice X → ℕ → ℕ
slice_width s crop_w = unsigned_abs s.x + crop_w

-- how high the picture is that ends crop_h rows from a slice's place on
abbrev pub slice_height : {X : Type 0} → PlaneSlice X → ℕ → ℕ
slice_height s crop_h = unsigned_abs s.y + crop_h

-- what the filters read of a stripe of stripe_h rows that begins where a slice does, as a table from
-- three columns and rows before the slice on
abbrev pub slice_table : {X : Type 0} → (X → ℤ) → (crop_w crop_h stripe_h : ℕ) → PlaneSlice X → PlaneSlice X → Table
slice_table number crop_w crop_h stripe_h e d =
    source_from (scene_in number (slice_width e crop_w) (slice_height e crop_h) (unsigned_abs e.y) (unsigned_abs e.y + stripe_h) e.plane.now d.plane.now) (unsigned_abs e.x) (unsigned_abs e.y)
