-- The regions of a plane: all samples from its origin on, and an area of them.
use Rattle.std.specs.Prelude.{◌≡◌, ◌<◌, ◌≤◌, List, drop}
use Rattle.av1_plane.specs.declared.area.Area.{Area}
use Rattle.av1_plane.specs.declared.plane.PlaneConfig.{PlaneConfig}
use Rattle.av1_plane.specs.declared.plane.Plane.{Plane}
use Rattle.av1_plane.specs.declared.region.Rect.{Rect}
use Rattle.av1_plane.specs.declared.region.PlaneRegion.{PlaneRegion}
use Rattle.av1_plane.specs.declared.region_mut.PlaneRegionMut.{PlaneRegionMut}
use Rattle.av1_plane.specs.Area.{area_rect, IsArea}
use Rattle.av1_plane.specs.Place.{rect_start, origin_place, from_origin, IsInPlane, no_area}
use Rattle.av1_plane.specs.Region.{first_place, area, IsStored}
use Rattle.av1_plane.specs.Reading.{samples_seen, step_seen, area_seen}

-- the rectangle of an area of a plane
abbrev pub plane_area : PlaneConfig → Area → Rect
plane_area cfg a = area_rect a cfg.xdec cfg.ydec (from_origin cfg).width (from_origin cfg).height

-- an area that the plane stores; every area, where the plane has a side of 0
pub record HoldsPlaneArea {X : Type 0} (p : Plane X) (a : Area) : Type 0 where
  pub xdec : p.cfg.xdec ≤ 1
  pub ydec : p.cfg.ydec ≤ 1
  pub area : IsArea a p.cfg.xdec p.cfg.ydec (from_origin p.cfg).width (from_origin p.cfg).height
  pub inside : 0 < p.cfg.width → 0 < p.cfg.height → IsInPlane p.cfg (plane_area p.cfg a)

-- the region of all samples from the plane's origin on
pub record ShowsPlane {X : Type 0} (p : Plane X) (r : PlaneRegion X) : Type 0 where
  pub samples : samples_seen r ≡ drop (origin_place p.cfg) p.samples.items
  pub step : step_seen r ≡ p.cfg.stride
  pub cfg : r.plane_cfg.now ≡ p.cfg
  pub area : area_seen r ≡ from_origin p.cfg

-- the region of a rectangle of a plane with this layout and these samples; empty where the plane
-- has a side of 0
pub record ShowsRect {X : Type 0} (layout : PlaneConfig) (xs : List X) (rect : Rect) (r : PlaneRegion X) : Type 0 where
  pub samples : 0 < layout.width → 0 < layout.height
      → samples_seen r ≡ drop (rect_start layout rect) xs
  pub step : step_seen r ≡ layout.stride
  pub cfg : r.plane_cfg.now ≡ layout
  pub area : 0 < layout.width → 0 < layout.height → area_seen r ≡ rect
  pub no_width : layout.width ≡ 0 → area_seen r ≡ no_area
  pub no_height : layout.height ≡ 0 → area_seen r ≡ no_area

-- a rectangle that a plane of this layout stores; every one, where the plane has a side of 0
abbrev pub StoresRect : PlaneConfig → Rect → Type 0
StoresRect layout rect = 0 < layout.width → 0 < layout.height → IsInPlane layout rect

-- the region for reading of an area of a plane
abbrev pub ShowsArea : {X : Type 0} → Plane X → Area → PlaneRegion X → Type 0
ShowsArea p a r = ShowsRect p.cfg p.samples.items (plane_area p.cfg a) r

-- the region for writing of all samples from the plane's origin on
pub record LendsPlane {X : Type 0} (p : Plane X) (r : PlaneRegionMut X) : Type 0 where
  pub plane : r.plane.now ≡ p
  pub start : p.cfg.yorigin < p.cfg.alloc_height → first_place r ≡ origin_place p.cfg
  pub cfg : r.plane_cfg ≡ p.cfg
  pub shown : area r ≡ from_origin p.cfg
  pub stored : IsStored r

-- the region for writing of a rectangle of a plane; empty where the plane has a side of 0
pub record LendsRect {X : Type 0} (p : Plane X) (rect : Rect) (r : PlaneRegionMut X) : Type 0 where
  pub plane : r.plane.now ≡ p
  pub start : 0 < p.cfg.width → 0 < p.cfg.height → 0 < rect.height → first_place r ≡ rect_start p.cfg rect
  pub cfg : r.plane_cfg ≡ p.cfg
  pub shown : 0 < p.cfg.width → 0 < p.cfg.height → area r ≡ rect
  pub no_width : p.cfg.width ≡ 0 → area r ≡ no_area
  pub no_height : p.cfg.height ≡ 0 → area r ≡ no_area
  pub stored : IsStored r

-- the region for writing of an area of a plane
abbrev pub LendsArea : {X : Type 0} → Plane X → Area → PlaneRegionMut X → Type 0
LendsArea p a r = LendsRect p (plane_area p.cfg a) r
