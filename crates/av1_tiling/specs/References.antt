-- Frames that later frames may be predicted from (AV1 specification, section 7.20), as plain data.
use Rattle.std.specs.Prelude.{ℕ, List, Option, None, replicate}
use Rattle.av1_plane.specs.declared.three.Three.{Three}
use Rattle.av1_block.specs.declared.me_stats.MEStats.{MEStats}
use Rattle.av1_block.specs.Rows.{Rows}
use Rattle.av1_tiling.specs.declared.deblock_state.DeblockState.{DeblockState}
use Rattle.av1_tiling.specs.Deblock.{default_deblock}
use Rattle.av1_tiling.specs.declared.segmentation_state.SegmentationState.{SegmentationState}
use Rattle.av1_tiling.specs.Views.{PlaneView}

-- what is kept of a coded frame: its numbers, planes, motion records and segments
pub record Reference : Type 0 where
  pub order_hint : ℕ
  pub width : ℕ
  pub height : ℕ
  pub render_width : ℕ
  pub render_height : ℕ
  pub frame : Three PlaneView
  pub input_hres : PlaneView
  pub input_qres : PlaneView
  pub frame_me_stats : List (Rows MEStats)
  pub output_frameno : ℕ
  pub segmentation : SegmentationState

-- the slots of a stream, each with a frame or none, and with the deblocking state of its frame
pub record References : Type 0 where
  pub frames : List (Option Reference)
  pub deblock : List DeblockState

-- eight empty slots
abbrev pub no_references : References
no_references = record { frames = replicate 8 None; deblock = replicate 8 default_deblock }
