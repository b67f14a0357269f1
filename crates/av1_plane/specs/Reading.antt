-- A rectangle of a plane for reading: row y is the samples from place y * step on.
use Rattle.std.specs.Prelude.{ℕ, ℤ, ◌≡◌, ◌+◌, ◌*◌, ◌<◌, ◌≤◌, unsigned_abs, List, map, take, drop}
use Rattle.av1_plane.specs.declared.region.Rect.{Rect}
use Rattle.av1_plane.specs.declared.region.PlaneRegion.{PlaneRegion}
use Rattle.av1_plane.specs.declared.plane.PlaneConfig.{PlaneConfig}
use Rattle.av1_plane.specs.declared.region_mut.PlaneRegionMut.{PlaneRegionMut}
use Rattle.av1_plane.specs.declared.area.Area.{Area}
use Rattle.av1_plane.specs.declared.offset.PlaneOffset.{PlaneOffset}
use Rattle.av1_plane.specs.declared.offset.BlockOffset.{BlockOffset}
use Rattle.av1_plane.specs.declared.offset.SuperBlockOffset.{SuperBlockOffset}
use Rattle.av1_plane.specs.Area.{area_rect, homed_rect, IsArea, IsNearRect, IsWithin, IsOnBlock, IsOnSuperBlock, moved_rect}
use Rattle.av1_plane.specs.Offset.{block_at, superblock_at}
use Rattle.av1_plane.specs.Place.{no_area}
use Rattle.av1_plane.specs.Layout.{rows}
use Rattle.av1_plane.specs.Region.{samples_under, first_place, row_step, area}

-- the stored samples from a region's first sample on
abbrev pub samples_seen : {X : Type 0} → PlaneRegion X → List X
samples_seen r = r.samples.now

-- the numbers of the stored samples from a region's first sample on
abbrev pub numbers_seen : {X : Type 0} → (X → ℤ) → PlaneRegion X → List ℤ
numbers_seen number r = map number (samples_seen r)

-- how far apart the rows of a region for reading begin
abbrev pub step_seen : {X : Type 0} → PlaneRegion X → ℕ
step_seen r = r.step

-- the rectangle of a region for reading, relative to the plane's origin
abbrev pub area_seen : {X : Type 0} → PlaneRegion X → Rect
area_seen r = r.rect

-- row y of a region for reading
abbrev pub row_seen : {X : Type 0} → PlaneRegion X → ℕ → List X
row_seen r y = take (area_seen r).width (drop (y * step_seen r) (samples_seen r))

-- what a region shows
pub record Seen (X : Type 0) : Type 0 where
  pub samples : List X
  pub step : ℕ
  pub cfg : PlaneConfig
  pub area : Rect

-- what a region for reading shows
abbrev pub seen_as : {X : Type 0} → PlaneRegion X → Seen X
seen_as r = record { samples = samples_seen r; step = step_seen r; cfg = r.plane_cfg.now; area = area_seen r }

-- what a region for writing shows
abbrev pub seen_under : {X : Type 0} → PlaneRegionMut X → Seen X
seen_under r = record { samples = drop (first_place r) (samples_under r); step = row_step r; cfg = r.plane_cfg; area = area r }

-- where the first sample of a region lies in its plane
abbrev pub first_sample : {X : Type 0} → Seen X → PlaneOffset
first_sample s = record { x = s.area.x; y = s.area.y }

-- the block that has the first sample of a region
abbrev pub first_block : {X : Type 0} → Seen X → BlockOffset
first_block s = block_at (unsigned_abs s.area.x) (unsigned_abs s.area.y) s.cfg.xdec s.cfg.ydec

-- the superblock, of this side as a power of two, that has the first sample of a region
abbrev pub first_superblock : {X : Type 0} → Seen X → ℕ → SuperBlockOffset
first_superblock s log2 =
    superblock_at (unsigned_abs s.area.x) (unsigned_abs s.area.y) log2 s.cfg.xdec s.cfg.ydec

-- a region's first sample is the first one of a block
abbrev pub StartsOnBlock : {X : Type 0} → Seen X → Type 0
StartsOnBlock s = IsOnBlock s.area s.cfg.xdec s.cfg.ydec

-- a region's first sample is the first one of a superblock of this side as a power of two
abbrev pub StartsOnSuperBlock : {X : Type 0} → Seen X → ℕ → Type 0
StartsOnSuperBlock s log2 = IsOnSuperBlock s.area log2 s.cfg.xdec s.cfg.ydec

-- a region with its samples as they are and its rectangle at the origin
abbrev pub homed : {X : Type 0} → Seen X → Seen X
homed s = record s { area = homed_rect s.area }

-- all rows of a region
abbrev pub rows_of : {X : Type 0} → Seen X → List (List X)
rows_of s = rows s.step s.area.width s.area.height s.samples

-- the rectangle of an area of a region, relative to the region's first sample
abbrev pub part_of : PlaneConfig → Rect → Area → Rect
part_of cfg whole a = area_rect a cfg.xdec cfg.ydec whole.width whole.height

-- a region with the rectangle `whole` holds the area
pub record HoldsArea (layout : PlaneConfig) (whole : Rect) (a : Area) : Type 0 where
  pub xdec : layout.xdec ≤ 1
  pub ydec : layout.ydec ≤ 1
  pub near : IsNearRect whole
  pub area : IsArea a layout.xdec layout.ydec whole.width whole.height
  pub inside : IsWithin (part_of layout whole a) whole

-- an area lies in a region that has samples; every area may be cut from a region without
abbrev pub CanCut : {X : Type 0} → Seen X → Area → Type 0
CanCut s a = 0 < s.area.width → 0 < s.area.height → HoldsArea s.cfg s.area a

-- t is the rectangle `part` of s, which counts from the first sample of s
pub record IsPartOf {X : Type 0} (s t : Seen X) (part : Rect) : Type 0 where
  pub samples : t.samples ≡ drop (unsigned_abs part.y * s.step + unsigned_abs part.x) s.samples
  pub step : t.step ≡ s.step
  pub cfg : t.cfg ≡ s.cfg
  pub area : t.area ≡ moved_rect s.area part

-- t is the area of s; t is empty where s is
pub record IsAreaOf {X : Type 0} (s t : Seen X) (a : Area) : Type 0 where
  pub part : 0 < s.area.width → 0 < s.area.height → IsPartOf s t (part_of s.cfg s.area a)
  pub cfg : t.cfg ≡ s.cfg
  pub no_width : s.area.width ≡ 0 → t.area ≡ no_area
  pub no_height : s.area.height ≡ 0 → t.area ≡ no_area
