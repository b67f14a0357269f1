-- What the filters of a plane and of a frame ask of a region, of the blocks and of the frame's sides.
use Rattle.std.specs.Prelude.{ℕ, ℤ, ◌/◌, ◌^◌, ◌<◌, ◌≤◌, ◌≡◌, if◌then◌else◌}
use Rattle.av1_plane.specs.declared.plane.PlaneConfig.{PlaneConfig}
use Rattle.av1_plane.specs.declared.region_mut.PlaneRegionMut.{PlaneRegionMut}
use Rattle.av1_plane.specs.declared.region.PlaneRegion.{PlaneRegion}
use Rattle.av1_plane.specs.Layout.{rounded}
use Rattle.av1_plane.specs.Reading.{area_seen, step_seen, numbers_seen}
use Rattle.av1_plane.specs.Region.{IsStored, area, first_place, row_step, numbers_under}
use Rattle.av1_block.specs.Tables.{TileBlocks, view_entries, view_step, view_cols, view_rows, entry_at}
use Rattle.av1_deblock.specs.Levels.{HasReference}
use Rattle.av1_deblock.specs.Passes.{is_empty, PartBelow}

-- luma is not decimated, chroma at most halved
pub record IsDecimated (pli : ℕ) (cfg : PlaneConfig) : Type 0 where
  pub x : cfg.xdec ≤ 1
  pub y : cfg.ydec ≤ 1
  pub luma_x : pli ≡ 0 → cfg.xdec ≡ 0
  pub luma_y : pli ≡ 0 → cfg.ydec ≡ 0

-- the sides of a frame are at most 65536
pub record AreCropSides (crop_w crop_h : ℕ) : Type 0 where
  pub wide : crop_w ≤ 65536
  pub high : crop_h ≤ 65536

-- how many columns the rounded part of a plane of a frame has
abbrev pub rounded_width : PlaneConfig → ℕ → ℕ
rounded_width cfg crop_w = if is_empty cfg then 0 else rounded crop_w / 2 ^ cfg.xdec

-- how many rows the rounded part of a plane of a frame has
abbrev pub rounded_height : PlaneConfig → ℕ → ℕ
rounded_height cfg crop_h = if is_empty cfg then 0 else rounded crop_h / 2 ^ cfg.ydec

-- a stored region has the rounded part of its plane
pub record CoversPlane {X : Type 0} (crop_w crop_h : ℕ) (r : PlaneRegionMut X) : Type 0 where
  pub stored : IsStored r
  pub wide : rounded_width r.plane_cfg crop_w ≤ (area r).width
  pub high : rounded_height r.plane_cfg crop_h ≤ (area r).height

-- the numbers in the rounded part of a region's plane are below 2 ^ bit depth
abbrev pub HasDepth : {X : Type 0} → ℕ → ℕ → ℕ → (X → ℤ) → PlaneRegionMut X → Type 0
HasDepth bd crop_w crop_h number r =
    PartBelow (2 ^ bd) (first_place r) (row_step r) (rounded_width r.plane_cfg crop_w) (rounded_height r.plane_cfg crop_h) (numbers_under number r)

-- a view has the blocks of a whole frame, each predicted from a frame
pub record CoversBlocks (crop_w crop_h : ℕ) (b : TileBlocks) : Type 0 where
  pub wide : rounded crop_w / 4 ≤ view_cols b
  pub high : rounded crop_h / 4 ≤ view_rows b
  pub refs : (x y : ℕ) → x < view_cols b → y < view_rows b → HasReference (entry_at (view_entries b) (view_step b) x y)

-- a region for reading has the rounded part of a plane of this layout
pub record ShowsRounded {X : Type 0} (cfg : PlaneConfig) (crop_w crop_h : ℕ) (r : PlaneRegion X) : Type 0 where
  pub wide : rounded_width cfg crop_w ≤ (area_seen r).width
  pub high : rounded_height cfg crop_h ≤ (area_seen r).height

-- the numbers that a region for reading has of a plane's rounded part are below 2 ^ bit depth
abbrev pub ShowsDepth : {X : Type 0} → ℕ → PlaneConfig → ℕ → ℕ → (X → ℤ) → PlaneRegion X → Type 0
ShowsDepth bd cfg crop_w crop_h number r =
    PartBelow (2 ^ bd) 0 (step_seen r) (rounded_width cfg crop_w) (rounded_height cfg crop_h) (numbers_seen number r)
