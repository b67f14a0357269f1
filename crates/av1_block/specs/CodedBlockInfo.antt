-- What the coding of later units reads of a coded unit of 4 by 4 luma samples.
use Rattle.std.specs.Prelude.{[], ◌∷◌}
use Rattle.av1_block.specs.declared.coded_block_info.CodedBlockInfo.{CodedBlockInfo}
use Rattle.av1_block.specs.declared.ref_type.RefType.TheVariants.{INTRA_FRAME, NONE_FRAME}
use Rattle.av1_block.specs.declared.prediction_mode.PredictionMode.TheVariants.{DC_PRED}

-- the default: predicted by the mean, from the frame itself alone
abbrev pub no_info : CodedBlockInfo
no_info = record {
  luma_mode = DC_PRED;
  chroma_mode = DC_PRED;
  reference_types = INTRA_FRAME ∷ NONE_FRAME ∷ [];
}
