-- Which filter restores a sample, and a restored plane and frame (AV1 specification, section 7.17).
use Rattle.std.specs.Prelude.{ℕ, ℤ, ◌+◌, ◌-◌, ◌/◌, ◌%◌, length, map, Bool, ◌&&◌, List, ◌==◌, nat_le, nat_lt, if◌then◌else◌, unsigned_abs}
use Rattle.std.specs.List.{range_with_len}
use Rattle.av1_plane.specs.declared.plane.PlaneConfig.{PlaneConfig}
use Rattle.av1_plane.specs.declared.three.Three.{Three}
use Rattle.av1_plane.specs.Layout.{visible}
use Rattle.av1_plane.specs.Place.{origin_place}
use Rattle.av1_block.specs.declared.restoration_unit.RestorationFilter.{RestorationFilter}
use Rattle.av1_block.specs.declared.restoration_unit.RestorationFilter.TheVariants.{None, Wiener, Sgrproj}
use Rattle.av1_tiling.specs.Restoration.{Units, unit_by_stripe}
use Rattle.av1_tiling.specs.Views.{PlaneView}
use Rattle.av1_tiling.specs.Frames.{Parameters}
use Rattle.av1_lrf.specs.Rows.{Picture, sample, pixel, Scene, stripe, stripe_of, stripe_source}
use Rattle.av1_lrf.specs.Runs.{HasArea}
use Rattle.av1_lrf.specs.Wiener.{wiener}
use Rattle.av1_lrf.specs.Guided.{Table, guided}

-- what a stripe's filters read, as a table
abbrev pub source_table : Scene → Table
source_table s x y = unsigned_abs (stripe_source s x y)

-- Column x of row y, by a filter. The self-guided filter is used only on samples that CDEF gave; it counts even and odd
-- rows from the stripe's first one.
abbrev pub restored_by : RestorationFilter → Bool → ℕ → Scene → ℕ → ℕ → ℤ
restored_by None cdef bd s x y = pixel s.enhanced x y
restored_by (Wiener coeffs) cdef bd s x y = wiener bd coeffs s x y
restored_by (Sgrproj set xqd) cdef bd s x y =
    if cdef then guided bd set xqd ((y - s.stripe.start) % 2 == 1) (source_table s) (unsigned_abs (pixel s.enhanced x y)) (x + 3) (y + 3)
    else pixel s.enhanced x y

-- the scene of stripe k
abbrev pub scene_of : ℕ → Picture → Picture → ℕ → Scene
scene_of ydec d e k = record { deblocked = d; enhanced = e; stripe = stripe ydec k }

-- How a plane is restored: by which units, whether CDEF was on, the bits of a sample, and by which power of two the plane
-- is lower than luma.
pub record PlaneSettings : Type 0 where
  pub units : Units
  pub cdef : Bool
  pub bit_depth : ℕ
  pub ydec : ℕ

-- the filter of stripe k at column x
abbrev pub unit_filter_at : PlaneSettings → ℕ → ℕ → RestorationFilter
unit_filter_at s k x = (unit_by_stripe s.units k (x / s.units.cfg.unit_size)).filter

-- column x of row y, restored from the deblocked picture d and the enhanced one e, which CDEF gave
unfoldable pub restored : PlaneSettings → Picture → Picture → ℕ → ℕ → ℤ
restored s d e x y =
    let k = stripe_of s.ydec y in
    restored_by (unit_filter_at s k x) s.cdef s.bit_depth (scene_of s.ydec d e k) x y

-- the samples after the picture e was restored in a list that holds it; all others stay
abbrev pub IsRestored : PlaneSettings → Picture → Picture → List ℤ → Type 0
IsRestored s d e after = HasArea e.origin e.step 0 e.width 0 e.height (restored s d e) e.samples after

-- the picture of a plane, whose visible part has these sides
abbrev pub picture_in : ℕ → ℕ → PlaneView → Picture
picture_in width height p = record { samples = p.samples; origin = origin_place p.cfg; step = p.cfg.stride; width = width; height = height }

-- a stored place lies in the visible part
abbrev pub is_visible : PlaneConfig → ℕ → ℕ → ℕ → ℕ → Bool
is_visible cfg width height x y =
    (nat_le cfg.xorigin x && nat_lt x (cfg.xorigin + width)) && (nat_le cfg.yorigin y && nat_lt y (cfg.yorigin + height))

-- the stored sample at a place, where the picture has `value x y` at column x of row y
abbrev pub stored_sample : PlaneView → ℕ → ℕ → (ℕ → ℕ → ℤ) → ℕ → ℤ
stored_sample p width height value place =
    let x = place % p.cfg.stride in
    let y = place / p.cfg.stride in
    if is_visible p.cfg width height x y then value (x - p.cfg.xorigin) (y - p.cfg.yorigin) else sample p.samples place

-- a plane with `value x y` at column x of row y of its picture
unfoldable pub with_restored_picture : PlaneView → ℕ → ℕ → (ℕ → ℕ → ℤ) → PlaneView
with_restored_picture p width height value =
    record p { samples = map (stored_sample p width height value) (range_with_len 0 (length p.samples)) }

-- how a plane of a frame is restored
abbrev pub plane_settings : Parameters → Units → PlaneConfig → PlaneSettings
plane_settings p u cfg = record { units = u; cdef = p.sequence.enable_cdef; bit_depth = p.sequence.bit_depth; ydec = cfg.ydec }

-- a plane of a frame, restored from the deblocked plane d and the enhanced one e
abbrev pub restored_plane : Parameters → Units → PlaneView → PlaneView → PlaneView
restored_plane p u d e =
    let width = visible p.width e.cfg.xdec in
    let height = visible p.height e.cfg.ydec in
    with_restored_picture e width height (restored (plane_settings p u e.cfg) (picture_in width height d) (picture_in width height e))

-- a frame, restored from the deblocked planes and the enhanced ones; an empty plane stays empty
abbrev pub restored_frame : Parameters → Three Units → Three PlaneView → Three PlaneView → Three PlaneView
restored_frame p u d e = record {
  y = restored_plane p u.y d.y e.y;
  u = restored_plane p u.u d.u e.u;
  v = restored_plane p u.v d.v e.v;
}
