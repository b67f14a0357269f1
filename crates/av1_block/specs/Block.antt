-- One block's record.
use Rattle.std.specs.Prelude.{pos, [], ◌∷◌, false}
use Rattle.std.specs.List.{slice_index_or}
use Rattle.av1_block.specs.declared.block.Block.{Block}
use Rattle.av1_block.specs.declared.block.MotionVector.{MotionVector}
use Rattle.av1_block.specs.declared.block_size.BlockSize.TheVariants.{BLOCK_64X64}
use Rattle.av1_block.specs.declared.tx_size.TxSize.TheVariants.{TX_64X64}
use Rattle.av1_block.specs.declared.ref_type.RefType.{RefType}
use Rattle.av1_block.specs.declared.ref_type.RefType.TheVariants.{INTRA_FRAME, NONE_FRAME}
use Rattle.av1_block.specs.declared.prediction_mode.PredictionMode.TheVariants.{DC_PRED}

-- the motion vector with both components 0
abbrev pub no_motion : MotionVector
no_motion = record { row = pos 0; col = pos 0 }

-- an intra block of 64 by 64 with one transform, not skipped
abbrev pub default_block : Block
default_block = record {
  mode = DC_PRED;
  skip = false;
  bsize = BLOCK_64X64;
  n4_w = 16;
  n4_h = 16;
  txsize = TX_64X64;
  ref_frames = INTRA_FRAME ∷ NONE_FRAME ∷ [];
  mv = no_motion ∷ no_motion ∷ [];
  segmentation_idx = 0;
  cdef_index = 0;
  deblock_deltas = pos 0 ∷ pos 0 ∷ pos 0 ∷ pos 0 ∷ [];
}

-- what a block is predicted from first
abbrev pub first_ref : Block → RefType
first_ref b = slice_index_or b.ref_frames 0 NONE_FRAME
