-- Sides in units of 4 samples, and numbers of references and modes.
use Rattle.std.specs.Prelude.{ℕ, Bool, true, false}
use Rattle.av1_block.specs.declared.block_size.BlockSize.{BlockSize}
use Rattle.av1_block.specs.declared.block_size.BlockSize.TheVariants.{BLOCK_4X4, BLOCK_4X8, BLOCK_8X4, BLOCK_8X8, BLOCK_8X16, BLOCK_16X8, BLOCK_16X16, BLOCK_16X32, BLOCK_32X16, BLOCK_32X32, BLOCK_32X64, BLOCK_64X32, BLOCK_64X64, BLOCK_64X128, BLOCK_128X64, BLOCK_128X128, BLOCK_4X16, BLOCK_16X4, BLOCK_8X32, BLOCK_32X8, BLOCK_16X64, BLOCK_64X16}
use Rattle.av1_block.specs.declared.tx_size.TxSize.{TxSize}
use Rattle.av1_block.specs.declared.tx_size.TxSize.TheVariants.{TX_4X4, TX_8X8, TX_16X16, TX_32X32, TX_64X64, TX_4X8, TX_8X4, TX_8X16, TX_16X8, TX_16X32, TX_32X16, TX_32X64, TX_64X32, TX_4X16, TX_16X4, TX_8X32, TX_32X8, TX_16X64, TX_64X16}
use Rattle.av1_block.specs.declared.ref_type.RefType.{RefType}
use Rattle.av1_block.specs.declared.ref_type.RefType.TheVariants.{INTRA_FRAME, LAST_FRAME, LAST2_FRAME, LAST3_FRAME, GOLDEN_FRAME, BWDREF_FRAME, ALTREF2_FRAME, ALTREF_FRAME, NONE_FRAME}
use Rattle.av1_block.specs.declared.prediction_mode.PredictionMode.{PredictionMode}
use Rattle.av1_block.specs.declared.prediction_mode.PredictionMode.TheVariants.{DC_PRED, V_PRED, H_PRED, D45_PRED, D135_PRED, D113_PRED, D157_PRED, D203_PRED, D67_PRED, SMOOTH_PRED, SMOOTH_V_PRED, SMOOTH_H_PRED, PAETH_PRED, UV_CFL_PRED, NEARESTMV, NEAR0MV, NEAR1MV, NEAR2MV, GLOBALMV, NEWMV, NEAREST_NEARESTMV, NEAR_NEAR0MV, NEAR_NEAR1MV, NEAR_NEAR2MV, NEAREST_NEWMV, NEW_NEARESTMV, NEAR_NEW0MV, NEAR_NEW1MV, NEAR_NEW2MV, NEW_NEAR0MV, NEW_NEAR1MV, NEW_NEAR2MV, GLOBAL_GLOBALMV, NEW_NEWMV}

-- Num_4x4_Blocks_Wide: how many units of 4 samples a block is wide
abbrev pub block_width : BlockSize → ℕ
block_width BLOCK_4X4 = 1
block_width BLOCK_4X8 = 1
block_width BLOCK_8X4 = 2
block_width BLOCK_8X8 = 2
block_width BLOCK_8X16 = 2
block_width BLOCK_16X8 = 4
block_width BLOCK_16X16 = 4
block_width BLOCK_16X32 = 4
block_width BLOCK_32X16 = 8
block_width BLOCK_32X32 = 8
block_width BLOCK_32X64 = 8
block_width BLOCK_64X32 = 16
block_width BLOCK_64X64 = 16
block_width BLOCK_64X128 = 16
block_width BLOCK_128X64 = 32
block_width BLOCK_128X128 = 32
block_width BLOCK_4X16 = 1
block_width BLOCK_16X4 = 4
block_width BLOCK_8X32 = 2
block_width BLOCK_32X8 = 8
block_width BLOCK_16X64 = 4
block_width BLOCK_64X16 = 16

-- Num_4x4_Blocks_High: how many units of 4 samples a block is high
abbrev pub block_height : BlockSize → ℕ
block_height BLOCK_4X4 = 1
block_height BLOCK_4X8 = 2
block_height BLOCK_8X4 = 1
block_height BLOCK_8X8 = 2
block_height BLOCK_8X16 = 4
block_height BLOCK_16X8 = 2
block_height BLOCK_16X16 = 4
block_height BLOCK_16X32 = 8
block_height BLOCK_32X16 = 4
block_height BLOCK_32X32 = 8
block_height BLOCK_32X64 = 16
block_height BLOCK_64X32 = 8
block_height BLOCK_64X64 = 16
block_height BLOCK_64X128 = 32
block_height BLOCK_128X64 = 16
block_height BLOCK_128X128 = 32
block_height BLOCK_4X16 = 4
block_height BLOCK_16X4 = 1
block_height BLOCK_8X32 = 8
block_height BLOCK_32X8 = 2
block_height BLOCK_16X64 = 16
block_height BLOCK_64X16 = 4

-- how many units of 4 samples a transform is wide
abbrev pub tx_width : TxSize → ℕ
tx_width TX_4X4 = 1
tx_width TX_8X8 = 2
tx_width TX_16X16 = 4
tx_width TX_32X32 = 8
tx_width TX_64X64 = 16
tx_width TX_4X8 = 1
tx_width TX_8X4 = 2
tx_width TX_8X16 = 2
tx_width TX_16X8 = 4
tx_width TX_16X32 = 4
tx_width TX_32X16 = 8
tx_width TX_32X64 = 8
tx_width TX_64X32 = 16
tx_width TX_4X16 = 1
tx_width TX_16X4 = 4
tx_width TX_8X32 = 2
tx_width TX_32X8 = 8
tx_width TX_16X64 = 4
tx_width TX_64X16 = 16

-- how many units of 4 samples a transform is high
abbrev pub tx_height : TxSize → ℕ
tx_height TX_4X4 = 1
tx_height TX_8X8 = 2
tx_height TX_16X16 = 4
tx_height TX_32X32 = 8
tx_height TX_64X64 = 16
tx_height TX_4X8 = 2
tx_height TX_8X4 = 1
tx_height TX_8X16 = 4
tx_height TX_16X8 = 2
tx_height TX_16X32 = 8
tx_height TX_32X16 = 4
tx_height TX_32X64 = 16
tx_height TX_64X32 = 8
tx_height TX_4X16 = 4
tx_height TX_16X4 = 1
tx_height TX_8X32 = 8
tx_height TX_32X8 = 2
tx_height TX_16X64 = 16
tx_height TX_64X16 = 4

-- the number of a reference frame; 8, which the specification does not have, stands for none
abbrev pub ref_number : RefType → ℕ
ref_number INTRA_FRAME = 0
ref_number LAST_FRAME = 1
ref_number LAST2_FRAME = 2
ref_number LAST3_FRAME = 3
ref_number GOLDEN_FRAME = 4
ref_number BWDREF_FRAME = 5
ref_number ALTREF2_FRAME = 6
ref_number ALTREF_FRAME = 7
ref_number NONE_FRAME = 8

-- whether a reference is the frame itself, as intra prediction has it
abbrev pub is_intra : RefType → Bool
is_intra INTRA_FRAME = true
is_intra LAST_FRAME = false
is_intra LAST2_FRAME = false
is_intra LAST3_FRAME = false
is_intra GOLDEN_FRAME = false
is_intra BWDREF_FRAME = false
is_intra ALTREF2_FRAME = false
is_intra ALTREF_FRAME = false
is_intra NONE_FRAME = false

-- whether a mode counts as moving for the mode deltas
abbrev pub moves : PredictionMode → Bool
moves DC_PRED = false
moves V_PRED = false
moves H_PRED = false
moves D45_PRED = false
moves D135_PRED = false
moves D113_PRED = false
moves D157_PRED = false
moves D203_PRED = false
moves D67_PRED = false
moves SMOOTH_PRED = false
moves SMOOTH_V_PRED = false
moves SMOOTH_H_PRED = false
moves PAETH_PRED = false
moves UV_CFL_PRED = false
moves NEARESTMV = true
moves NEAR0MV = true
moves NEAR1MV = true
moves NEAR2MV = true
moves GLOBALMV = false
moves NEWMV = true
moves NEAREST_NEARESTMV = true
moves NEAR_NEAR0MV = true
moves NEAR_NEAR1MV = true
moves NEAR_NEAR2MV = true
moves NEAREST_NEWMV = true
moves NEW_NEARESTMV = true
moves NEAR_NEW0MV = true
moves NEAR_NEW1MV = true
moves NEAR_NEW2MV = true
moves NEW_NEAR0MV = true
moves NEW_NEAR1MV = true
moves NEW_NEAR2MV = true
moves GLOBAL_GLOBALMV = false
moves NEW_NEWMV = true
