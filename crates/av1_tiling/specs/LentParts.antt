-- What a tile's state lends for writing of the reconstruction, and what it has afterwards.
use Rattle.std.specs.Prelude.{ℤ, ◌≡◌}
use Rattle.av1_plane.specs.declared.three.Three.{Three}
use Rattle.av1_plane.specs.declared.plane.PlaneConfig.{PlaneConfig}
use Rattle.av1_plane.specs.declared.region.Rect.{Rect}
use Rattle.av1_plane.specs.declared.region_mut.PlaneRegionMut.{PlaneRegionMut}
use Rattle.av1_plane.specs.declared.tile_mut.TileMut.{TileMut}
use Rattle.av1_plane.specs.Region.{first_place, row_step, area, numbers_under, IsStored}
use Rattle.av1_tiling.specs.declared.part_place.PartPlace.{PartPlace}
use Rattle.av1_tiling.specs.declared.plane_part.PlanePart.{PlanePart}
use Rattle.av1_tiling.specs.Views.{Part, TileState, view_samples}
use Rattle.av1_tiling.specs.TileViews.{part_area}

-- the rectangle of a plane of this layout, all of whose stored samples stand at a place of another plane
abbrev pub placed_rect : PartPlace → PlaneConfig → Rect
placed_rect place own = record { x = place.x; y = place.y; width = own.stride; height = own.alloc_height }

-- a region for writing shows a part of a plane, at its place; all samples under the region are the part's
pub record LendsPart {X : Type 0} (number : X → ℤ) (place : PartPlace) (part : Part ℤ) (r : PlaneRegionMut X) : Type 0 where
  pub samples : numbers_under number r ≡ part.entries
  pub start : first_place r ≡ 0
  pub step : row_step r ≡ part.rect.width
  pub rows : r.plane.now.cfg.alloc_height ≡ part.rect.height
  pub cfg : r.plane_cfg ≡ place.cfg
  pub shown : area r ≡ part_area place part
  pub stored : IsStored r

-- a tile for writing shows the parts of three planes
pub record LendsParts {X : Type 0} (number : X → ℤ) (places : Three PartPlace) (parts : Three (Part ℤ)) (tile : TileMut X) : Type 0 where
  pub y : LendsPart number places.y parts.y tile.planes.y
  pub u : LendsPart number places.u parts.u tile.planes.u
  pub v : LendsPart number places.v parts.v tile.planes.v

-- three parts as plain data
abbrev pub three_parts : {X : Type 0} → (X → ℤ) → (y u v : PlanePart X) → Three (Part ℤ)
three_parts number y u v = record { y = view_samples number y; u = view_samples number u; v = view_samples number v }

-- the part after a region of it was lent: it has the samples of the plane under the region, and that plane's sides
abbrev pub part_left : {X : Type 0} → (X → ℤ) → Part ℤ → PlaneRegionMut X → Part ℤ
part_left number part r = record {
  rect = record part.rect { width = row_step r; height = r.plane.now.cfg.alloc_height };
  table_cols = part.table_cols;
  entries = numbers_under number r;
}

-- the tile's state with what is left under the regions of a tile
abbrev pub with_tile_left : {X : Type 0} → (X → ℤ) → TileState → TileMut X → TileState
with_tile_left number t tile = record t {
  rec = record {
    y = part_left number t.rec.y tile.planes.y;
    u = part_left number t.rec.u tile.planes.u;
    v = part_left number t.rec.v tile.planes.v;
  };
}
