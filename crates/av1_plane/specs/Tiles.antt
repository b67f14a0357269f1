-- A tile of a frame: a luma rectangle, and in each chroma plane this rectangle by its decimations.
use Rattle.std.specs.Prelude.{◌≡◌, ◌<◌, ◌≤◌}
use Rattle.av1_plane.specs.declared.plane.PlaneConfig.{PlaneConfig}
use Rattle.av1_plane.specs.declared.plane.Plane.{Plane}
use Rattle.av1_plane.specs.declared.frame.Frame.{Frame}
use Rattle.av1_plane.specs.declared.region.Rect.{Rect}
use Rattle.av1_plane.specs.declared.region.PlaneRegion.{PlaneRegion}
use Rattle.av1_plane.specs.declared.tile_rect.TileRect.{TileRect}
use Rattle.av1_plane.specs.declared.tile.Tile.{Tile}
use Rattle.av1_plane.specs.declared.tile_mut.TileMut.{TileMut}
use Rattle.av1_plane.specs.declared.three.Three.{Three}
use Rattle.av1_plane.specs.Region.{IsStored}
use Rattle.av1_plane.specs.Regions.{StoresRect, ShowsRect, LendsRect}
use Rattle.av1_plane.specs.declared.area.Area.{Area}
use Rattle.av1_plane.specs.declared.area.Area.TheVariants as variants
use Rattle.av1_plane.specs.Area.{area_rect, decimated_tile, decimated_rect, rect_of_tile, IsArea}
use Rattle.av1_plane.specs.Reading.{Seen, seen_as, seen_under, HoldsArea, IsAreaOf}

-- the tile's rectangle in a plane of that layout
abbrev pub plane_rect : PlaneConfig → TileRect → Rect
plane_rect cfg luma = rect_of_tile (decimated_tile luma cfg.xdec cfg.ydec)

-- a plane that stores the tile's rectangle, or has a side of 0
pub record StoresTile (layout : PlaneConfig) (luma : TileRect) : Type 0 where
  pub xdec : layout.xdec ≤ 1
  pub ydec : layout.ydec ≤ 1
  pub inside : StoresRect layout (plane_rect layout luma)

-- the region of a tile in a plane; empty where the plane has a side of 0
abbrev pub IsTilePlane : {X : Type 0} → Plane X → TileRect → PlaneRegion X → Type 0
IsTilePlane p luma r = ShowsRect p.cfg p.samples.items (plane_rect p.cfg luma) r

-- a frame that stores the tile in each plane
pub record HoldsTile {X : Type 0} (f : Frame X) (luma : TileRect) : Type 0 where
  pub y : StoresTile f.planes.y.cfg luma
  pub u : StoresTile f.planes.u.cfg luma
  pub v : StoresTile f.planes.v.cfg luma

-- the tile of a frame
pub record IsTile {X : Type 0} (f : Frame X) (luma : TileRect) (t : Tile X) : Type 0 where
  pub y : IsTilePlane f.planes.y luma t.planes.y
  pub u : IsTilePlane f.planes.u luma t.planes.u
  pub v : IsTilePlane f.planes.v luma t.planes.v

-- the tile of three planes, for writing
pub record IsTileOver {X : Type 0} (p q r : Plane X) (luma : TileRect) (t : TileMut X) : Type 0 where
  pub y : LendsRect p (plane_rect p.cfg luma) t.planes.y
  pub u : LendsRect q (plane_rect q.cfg luma) t.planes.u
  pub v : LendsRect r (plane_rect r.cfg luma) t.planes.v

-- the tile of a frame for writing
abbrev pub IsTileUnder : {X : Type 0} → Frame X → TileRect → TileMut X → Type 0
IsTileUnder f luma t = IsTileOver f.planes.y f.planes.u f.planes.v luma t

-- the luma rectangle of the whole frame
abbrev pub whole_tile : {X : Type 0} → Frame X → TileRect
whole_tile f = record { x = 0; y = 0; width = f.planes.y.cfg.width; height = f.planes.y.cfg.height }

-- the rectangle of a plane of this layout that a luma rectangle covers
abbrev pub luma_part : PlaneConfig → Rect → Rect
luma_part cfg part = decimated_rect part cfg.xdec cfg.ydec

-- the area of a region of this layout that a luma rectangle covers
abbrev pub luma_area : PlaneConfig → Rect → Area
luma_area cfg part =
    variants.Rect (luma_part cfg part).x (luma_part cfg part).y (luma_part cfg part).width (luma_part cfg part).height

-- a region without samples, or one that holds a luma rectangle
pub record HoldsPart (layout : PlaneConfig) (whole part : Rect) : Type 0 where
  pub xdec : layout.xdec ≤ 1
  pub ydec : layout.ydec ≤ 1
  pub inside : 0 < whole.width → 0 < whole.height → HoldsArea layout whole (luma_area layout part)

-- t is the part of the region s that a luma rectangle covers; t is empty where s is
abbrev pub IsLumaPart : {X : Type 0} → Seen X → Seen X → Rect → Type 0
IsLumaPart s t part = IsAreaOf s t (luma_area s.cfg part)

-- what a tile shows in each plane
abbrev pub tile_seen : {X : Type 0} → Tile X → Three (Seen X)
tile_seen t = record { y = seen_as t.planes.y; u = seen_as t.planes.u; v = seen_as t.planes.v }

-- what a tile for writing shows in each plane
abbrev pub tile_under : {X : Type 0} → TileMut X → Three (Seen X)
tile_under t = record { y = seen_under t.planes.y; u = seen_under t.planes.u; v = seen_under t.planes.v }

-- each region of a tile for writing lies in its plane
pub record IsStoredTile {X : Type 0} (t : TileMut X) : Type 0 where
  pub y : IsStored t.planes.y
  pub u : IsStored t.planes.u
  pub v : IsStored t.planes.v

-- the luma rectangle of an area of a tile
abbrev pub luma_rect : {X : Type 0} → Three (Seen X) → Area → Rect
luma_rect s a = area_rect a 0 0 s.y.area.width s.y.area.height

-- a tile holds an area, which is given in luma samples
pub record HoldsLuma {X : Type 0} (s : Three (Seen X)) (a : Area) : Type 0 where
  pub area : IsArea a 0 0 s.y.area.width s.y.area.height
  pub y : HoldsPart s.y.cfg s.y.area (luma_rect s a)
  pub u : HoldsPart s.u.cfg s.u.area (luma_rect s a)
  pub v : HoldsPart s.v.cfg s.v.area (luma_rect s a)

-- t is the part of the tile s that an area, given in luma samples, covers
pub record IsTilePart {X : Type 0} (s t : Three (Seen X)) (a : Area) : Type 0 where
  pub y : IsLumaPart s.y t.y (luma_rect s a)
  pub u : IsLumaPart s.u t.u (luma_rect s a)
  pub v : IsLumaPart s.v t.v (luma_rect s a)

-- the tile b lies over the planes that the tile a lies over
pub record KeepsPlanes {X : Type 0} (a b : TileMut X) : Type 0 where
  pub y : b.planes.y.plane.ghost_name ≡ a.planes.y.plane.ghost_name
  pub u : b.planes.u.plane.ghost_name ≡ a.planes.u.plane.ghost_name
  pub v : b.planes.v.plane.ghost_name ≡ a.planes.v.plane.ghost_name

-- the planes of the frame are the planes under the tile
pub record HasPlanesOf {X : Type 0} (t : TileMut X) (f : Frame X) : Type 0 where
  pub y : f.planes.y ≡ t.planes.y.plane.now
  pub u : f.planes.u ≡ t.planes.u.plane.now
  pub v : f.planes.v ≡ t.planes.v.plane.now
