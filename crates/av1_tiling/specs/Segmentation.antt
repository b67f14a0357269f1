-- The segmentation state.
use Rattle.std.specs.Prelude.{pos, false, replicate}
use Rattle.av1_tiling.specs.declared.segmentation_state.SegmentationState.{SegmentationState}

-- the segmentation state, switched off, with no feature and all values 0
abbrev pub default_segmentation : SegmentationState
default_segmentation = record {
  enabled = false;
  features = replicate 8 (replicate 8 false);
  values = replicate 8 (replicate 8 (pos 0));
}
