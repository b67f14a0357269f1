-- A whole plane of a frame, as the filters take it.
use Rattle.std.specs.Prelude.{ℕ, ◌^◌, ◌≡◌}
use Rattle.av1_plane.specs.declared.plane.PlaneConfig.{PlaneConfig}
use Rattle.av1_tiling.specs.Views.{PlaneView}
use Rattle.av1_tiling.specs.Frames.{Parameters, IsInRange}
use Rattle.av1_deblock.specs.Conditions.{IsDecimated, rounded_width, rounded_height}

-- the layout of plane `pli` of a frame of these sides: at most halved, and as large as the rounded frame
pub record FitsFrame (pli w h : ℕ) (cfg : PlaneConfig) : Type 0 where
  pub decimated : IsDecimated pli cfg
  pub wide : rounded_width cfg w ≡ cfg.width
  pub high : rounded_height cfg h ≡ cfg.height

-- plane `pli` of a frame, with samples in depth
pub record IsPlaneFor (p : Parameters) (pli : ℕ) (plane : PlaneView) : Type 0 where
  pub layout : FitsFrame pli p.width p.height plane.cfg
  pub range : IsInRange (2 ^ p.sequence.bit_depth) plane
