-- The rows of a plane from a stored place on, which counts from the plane's origin.
use Rattle.std.specs.Prelude.{ℕ, ℤ, ◌+◌, ◌*◌, List}
use Rattle.av1_plane.specs.declared.plane.Plane.{Plane}
use Rattle.av1_plane.specs.declared.plane_slice.PlaneSlice.{PlaneSlice}
use Rattle.av1_plane.specs.Place.{stored_at, row_rest}

-- the samples of a plane's row, counted from its origin, from the origin's column on
abbrev pub row_of : {X : Type 0} → Plane X → ℤ → List X
row_of p y = row_rest p.cfg p.samples.items (stored_at p.cfg.yorigin y) p.cfg.xorigin

-- the stored row of a slice's first sample
abbrev pub slice_row : {X : Type 0} → PlaneSlice X → ℕ
slice_row s = stored_at s.plane.now.cfg.yorigin s.y

-- the stored column of a slice's first sample
abbrev pub slice_column : {X : Type 0} → PlaneSlice X → ℕ
slice_column s = stored_at s.plane.now.cfg.xorigin s.x

-- row i of a slice, from its column to the end of the stored row
abbrev pub sliced_row : {X : Type 0} → PlaneSlice X → ℕ → List X
sliced_row s i =
    row_rest s.plane.now.cfg s.plane.now.samples.items (slice_row s + i) (slice_column s)

-- where a slice's first sample stands in the samples of its plane
abbrev pub slice_start : {X : Type 0} → PlaneSlice X → ℕ
slice_start s = slice_row s * s.plane.now.cfg.stride + slice_column s
