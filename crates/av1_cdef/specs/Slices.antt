-- Blocks that are handed in as plane slices.
use Rattle.std.specs.Prelude.{ℕ, ℤ, ◌==◌, not, bit_and, List, map}
use Rattle.av1_plane.specs.declared.plane_slice.PlaneSlice.{PlaneSlice}
use Rattle.av1_plane.specs.Slices.{slice_start}
use Rattle.av1_cdef.specs.declared.pad.Sides.{Sides}
use Rattle.av1_cdef.specs.Direction.{block_of_picture}

-- how far apart the rows of a slice begin
abbrev pub slice_step : {X : Type 0} → PlaneSlice X → ℕ
slice_step s = s.plane.now.cfg.stride

-- the samples of the plane under a slice, as numbers
abbrev pub slice_numbers : {X : Type 0} → (X → ℤ) → PlaneSlice X → List ℤ
slice_numbers number s = map number s.plane.now.samples.items

-- the 8x8 block at which a slice begins, its samples shifted right
abbrev pub slice_block : {X : Type 0} → (X → ℤ) → PlaneSlice X → ℕ → List ℕ
slice_block number s shift = block_of_picture (slice_numbers number s) (slice_start s) (slice_step s) shift

-- the sides whose flags are set
abbrev pub sides_of_edges : ℕ → Sides
sides_of_edges edges = record {
  left = not (bit_and edges 1 == 0);
  right = not (bit_and edges 2 == 0);
  top = not (bit_and edges 4 == 0);
  bottom = not (bit_and edges 8 == 0);
}
