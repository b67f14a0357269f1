-- How many restoration units a tile has (AV1 specification, sections 5.9.20 and 7.17).
use Rattle.std.specs.Prelude.{ℕ, ◌≤◌}
use Rattle.av1_plane.specs.declared.three.Three.{Three}
use Rattle.av1_tiling.specs.declared.restoration_plane.RestorationPlaneConfig.{RestorationPlaneConfig}
use Rattle.av1_tiling.specs.declared.tiling_info.TilingInfo.{TilingInfo}
use Rattle.av1_tiling.specs.TileRects.{tile_units}
use Rattle.av1_tiling.specs.UnitSizes.{unit_layouts}
use Rattle.av1_rec.specs.declared.text.extent.Extent.{Extent}
use Rattle.av1_rec.specs.declared.text.header.Header.{Header}
use Rattle.av1_rec.specs.Parameters.{frame_parameters}

-- how many columns and rows of units tile n has in a plane whose units have this layout
abbrev pub unit_extent : TilingInfo → RestorationPlaneConfig → ℕ → Extent
unit_extent t cfg n =
    let units = tile_units t cfg.sb_h_shift cfg.sb_v_shift cfg.cols cfg.rows n in
    record { width = units.width; height = units.height }

-- how many columns and rows of units tile n has in each plane
abbrev pub unit_extents : TilingInfo → Three RestorationPlaneConfig → ℕ → Three Extent
unit_extents t layouts n = record {
  y = unit_extent t layouts.y n;
  u = unit_extent t layouts.u n;
  v = unit_extent t layouts.v n;
}

-- how many columns and rows of units tile n of a header's frame has in each plane
unfoldable pub tile_unit_extents : Header → TilingInfo → ℕ → Three Extent
tile_unit_extents h t n = unit_extents t (unit_layouts (frame_parameters h t)) n

-- a layout of units, each of at most 2^8 superblocks a side
pub record IsUnitLayout (cfg : RestorationPlaneConfig) : Type 0 where
  pub h_shift : cfg.sb_h_shift ≤ 8
  pub v_shift : cfg.sb_v_shift ≤ 8
