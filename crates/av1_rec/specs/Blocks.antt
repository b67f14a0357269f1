-- A line that writes a rectangle of blocks. Sizes, transforms and references have the numbers of the AV1
-- specification (sections 6.10.4, 6.10.19 and 6.10.24).
use Rattle.std.specs.Prelude.{ℕ, ◌-◌, ℤ, pos, List, [], ◌∷◌, Option, Some, codes}
use Rattle.av1_block.specs.Block.{no_motion}
use Rattle.av1_block.specs.declared.block.Block.{Block}
use Rattle.av1_block.specs.declared.block_size.BlockSize.{BlockSize}
use Rattle.av1_block.specs.declared.block_size.BlockSize.TheVariants.{BLOCK_4X4, BLOCK_4X8, BLOCK_8X4, BLOCK_8X8, BLOCK_8X16, BLOCK_16X8, BLOCK_16X16, BLOCK_16X32, BLOCK_32X16, BLOCK_32X32, BLOCK_32X64, BLOCK_64X32, BLOCK_64X64, BLOCK_64X128, BLOCK_128X64, BLOCK_128X128, BLOCK_4X16, BLOCK_16X4, BLOCK_8X32, BLOCK_32X8, BLOCK_16X64, BLOCK_64X16}
use Rattle.av1_block.specs.declared.tx_size.TxSize.{TxSize}
use Rattle.av1_block.specs.declared.tx_size.TxSize.TheVariants.{TX_4X4, TX_8X8, TX_16X16, TX_32X32, TX_64X64, TX_4X8, TX_8X4, TX_8X16, TX_16X8, TX_16X32, TX_32X16, TX_32X64, TX_64X32, TX_4X16, TX_16X4, TX_8X32, TX_32X8, TX_16X64, TX_64X16}
use Rattle.av1_block.specs.declared.prediction_mode.PredictionMode.{PredictionMode}
use Rattle.av1_block.specs.declared.prediction_mode.PredictionMode.TheVariants.{DC_PRED, V_PRED, H_PRED, D45_PRED, D135_PRED, D113_PRED, D157_PRED, D203_PRED, D67_PRED, SMOOTH_PRED, SMOOTH_V_PRED, SMOOTH_H_PRED, PAETH_PRED, UV_CFL_PRED, NEARESTMV, NEAR0MV, NEAR1MV, NEAR2MV, GLOBALMV, NEWMV, NEAREST_NEARESTMV, NEAR_NEAR0MV, NEAR_NEAR1MV, NEAR_NEAR2MV, NEAREST_NEWMV, NEW_NEARESTMV, NEAR_NEW0MV, NEAR_NEW1MV, NEAR_NEW2MV, NEW_NEAR0MV, NEW_NEAR1MV, NEW_NEAR2MV, GLOBAL_GLOBALMV, NEW_NEWMV}
use Rattle.av1_block.specs.declared.ref_type.RefType.{RefType}
use Rattle.av1_block.specs.declared.ref_type.RefType.TheVariants.{INTRA_FRAME, LAST_FRAME, LAST2_FRAME, LAST3_FRAME, GOLDEN_FRAME, BWDREF_FRAME, ALTREF2_FRAME, ALTREF_FRAME, NONE_FRAME}
use Rattle.av1_rec.specs.declared.text.block_line.BlockLine.{BlockLine}
use Rattle.av1_rec.specs.Fields.{◌>>=◌, tag, number_in, field, delta, flag, choice}

-- the block sizes in the order of their numbers
unfoldable pub block_sizes : List BlockSize
block_sizes = BLOCK_4X4 ∷ BLOCK_4X8 ∷ BLOCK_8X4 ∷ BLOCK_8X8 ∷ BLOCK_8X16 ∷ BLOCK_16X8 ∷ BLOCK_16X16 ∷ BLOCK_16X32 ∷ BLOCK_32X16 ∷ BLOCK_32X32 ∷ BLOCK_32X64 ∷ BLOCK_64X32 ∷ BLOCK_64X64 ∷ BLOCK_64X128 ∷ BLOCK_128X64 ∷ BLOCK_128X128 ∷ BLOCK_4X16 ∷ BLOCK_16X4 ∷ BLOCK_8X32 ∷ BLOCK_32X8 ∷ BLOCK_16X64 ∷ BLOCK_64X16 ∷ []

-- the transform sizes in the order of their numbers
unfoldable pub tx_sizes : List TxSize
tx_sizes = TX_4X4 ∷ TX_8X8 ∷ TX_16X16 ∷ TX_32X32 ∷ TX_64X64 ∷ TX_4X8 ∷ TX_8X4 ∷ TX_8X16 ∷ TX_16X8 ∷ TX_16X32 ∷ TX_32X16 ∷ TX_32X64 ∷ TX_64X32 ∷ TX_4X16 ∷ TX_16X4 ∷ TX_8X32 ∷ TX_32X8 ∷ TX_16X64 ∷ TX_64X16 ∷ []

-- the prediction modes in the order of their numbers
unfoldable pub modes : List PredictionMode
modes = DC_PRED ∷ V_PRED ∷ H_PRED ∷ D45_PRED ∷ D135_PRED ∷ D113_PRED ∷ D157_PRED ∷ D203_PRED ∷ D67_PRED ∷ SMOOTH_PRED ∷ SMOOTH_V_PRED ∷ SMOOTH_H_PRED ∷ PAETH_PRED ∷ UV_CFL_PRED ∷ NEARESTMV ∷ NEAR0MV ∷ NEAR1MV ∷ NEAR2MV ∷ GLOBALMV ∷ NEWMV ∷ NEAREST_NEARESTMV ∷ NEAR_NEAR0MV ∷ NEAR_NEAR1MV ∷ NEAR_NEAR2MV ∷ NEAREST_NEWMV ∷ NEW_NEARESTMV ∷ NEAR_NEW0MV ∷ NEAR_NEW1MV ∷ NEAR_NEW2MV ∷ NEW_NEAR0MV ∷ NEW_NEAR1MV ∷ NEW_NEAR2MV ∷ GLOBAL_GLOBALMV ∷ NEW_NEWMV ∷ []

-- the reference frames in the order of their numbers, with none at the end
unfoldable pub references : List RefType
references = INTRA_FRAME ∷ LAST_FRAME ∷ LAST2_FRAME ∷ LAST3_FRAME ∷ GOLDEN_FRAME ∷ BWDREF_FRAME ∷ ALTREF2_FRAME ∷ ALTREF_FRAME ∷ NONE_FRAME ∷ []

-- `X Y COLS ROWS`: a rectangle of at least one block in a tile of `cols` columns and `rows` rows
unfoldable pub rectangle : ℕ → ℕ → List ℕ → Option ((ℕ × ℕ × ℕ × ℕ) × List ℕ)
rectangle cols rows text = do
  x ← number_in 0 (cols - 1) text
  y ← field 0 (rows - 1) x.1
  w ← field 1 (cols - x.0) y.1
  h ← field 1 (rows - y.0) w.1
  Some ((x.0, y.0, w.0, h.0), h.1)

-- `BSIZE TX SKIP MODE REF0 REF1`, as a block whose other fields are 0
unfoldable pub kind : List ℕ → Option (Block × List ℕ)
kind text = do
  bsize ← choice block_sizes text
  tx ← choice tx_sizes bsize.1
  skip ← flag tx.1
  mode ← choice modes skip.1
  first ← choice references mode.1
  second ← choice references first.1
  Some (
    record {
      mode = mode.0;
      skip = skip.0;
      bsize = bsize.0;
      n4_w = 0;
      n4_h = 0;
      txsize = tx.0;
      ref_frames = first.0 ∷ second.0 ∷ [];
      mv = no_motion ∷ no_motion ∷ [];
      segmentation_idx = 0;
      cdef_index = 0;
      deblock_deltas = pos 0 ∷ pos 0 ∷ pos 0 ∷ pos 0 ∷ [];
    },
    second.1,
  )

-- `N4W N4H CDEF SEG`: a block's sides, CDEF index and segment
unfoldable pub sides : List ℕ → Option ((ℕ × ℕ × ℕ × ℕ) × List ℕ)
sides text = do
  w ← field 0 255 text
  h ← field 0 255 w.1
  cdef ← field 0 255 h.1
  segment ← field 0 255 cdef.1
  Some ((w.0, h.0, cdef.0, segment.0), segment.1)

-- `D0 D1 D2 D3`: a block's deltas of the deblocking levels
unfoldable pub deltas : List ℕ → Option (List ℤ × List ℕ)
deltas text = do
  a ← delta text
  b ← delta a.1
  c ← delta b.1
  d ← delta c.1
  Some (a.0 ∷ b.0 ∷ c.0 ∷ d.0 ∷ [], d.1)

-- `X Y COLS ROWS BSIZE TX SKIP MODE REF0 REF1 N4W N4H CDEF SEG D0 D1 D2 D3`, and a line feed
unfoldable pub block_line : ℕ → ℕ → List ℕ → Option (BlockLine × List ℕ)
block_line cols rows text = do
  r ← rectangle cols rows text
  k ← kind r.1
  s ← sides k.1
  d ← deltas s.1
  rest ← tag (codes "\n") d.1
  Some (
    record {
      x = r.0.0;
      y = r.0.1;
      cols = r.0.2;
      rows = r.0.3;
      block = record k.0 { n4_w = s.0.0; n4_h = s.0.1; cdef_index = s.0.2; segmentation_idx = s.0.3; deblock_deltas = d.0 };
    },
    rest,
  )
