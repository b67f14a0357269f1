-- A frame made from a number alone: its source has slow slopes and noise, each sample is coded as the
-- one at the corner of its 8x8 block, and blocks and restoration units change from place to place.
use Rattle.std.specs.Prelude.{ℕ, zero, suc, ℤ, pos, neg_ℤ, ◌+◌, ◌*◌, ◌/◌, ◌%◌, ◌^◌, List, [], ◌∷◌, ◌==◌, true, false, if◌then◌else◌, Option, Some, None, replicate}
use Rattle.av1_plane.specs.declared.sampling.ChromaSampling.{ChromaSampling}
use Rattle.av1_plane.specs.declared.sampling.ChromaSampling.TheVariants.{Cs420}
use Rattle.av1_plane.specs.declared.three.Three.{Three}
use Rattle.av1_plane.specs.declared.tile_rect.TileRect.{TileRect}
use Rattle.av1_plane.specs.Sampling.{decimation}
use Rattle.av1_block.specs.Block.{default_block}
use Rattle.av1_block.specs.declared.block.Block.{Block}
use Rattle.av1_block.specs.declared.block_size.BlockSize.TheVariants.{BLOCK_8X8}
use Rattle.av1_block.specs.declared.tx_size.TxSize.TheVariants.{TX_8X8}
use Rattle.av1_block.specs.declared.restoration_unit.RestorationFilter.TheVariants as filters
use Rattle.av1_block.specs.declared.restoration_unit.RestorationUnit.{RestorationUnit}
use Rattle.av1_block.specs.RestorationUnit.{no_unit}
use Rattle.av1_tiling.specs.declared.frame_invariants.FrameType.TheVariants.{KEY}
use Rattle.av1_tiling.specs.declared.restoration_plane.RestorationPlaneConfig.{RestorationPlaneConfig}
use Rattle.av1_tiling.specs.declared.tiling_info.TilingInfo.{TilingInfo}
use Rattle.av1_tiling.specs.TileRects.{tile_luma, tile_blocks, tile_units}
use Rattle.av1_tiling.specs.UnitSizes.{unit_layouts}
use Rattle.av1_rec.specs.declared.text.extent.Extent.{Extent}
use Rattle.av1_rec.specs.declared.text.header.FrameFormat.{FrameFormat}
use Rattle.av1_rec.specs.declared.text.header.Header.{Header}
use Rattle.av1_rec.specs.BlockTable.{first_values}
use Rattle.av1_rec.specs.Parameters.{frame_parameters}
use Rattle.av1_rec.specs.Picture.{picture_sample}
use Rattle.av1_rec.specs.Recorded.{Recorded, Coded}
use Rattle.av1_rec.specs.Text.{Said, luma_picture, chroma_picture}

-- the state of the draws after one more draw
abbrev pub next_state : ℕ → ℕ
next_state state = (state * 1664525 + 1013904223) % 2 ^ 32

-- the state of the draws after n more draws
unfoldable pub state_after : ℕ → ℕ → ℕ
state_after state zero = state
state_after state (suc n) = next_state (state_after state n)

-- the source's sample of plane p at a row and a column, where the draws are in this state
abbrev pub source_sample : (p row column state : ℕ) → ℕ
source_sample p row column state = 16 + (column / 8 + row / 8 + 64 * p) % 192 + state / 2 ^ 24 % 4

-- a row of plane p of the source, with one draw for each sample
unfoldable pub source_row : (p row width state : ℕ) → List ℤ
source_row p row width state =
    first_values (λ column. pos (source_sample p row column (state_after state (column + 1)))) width

-- the rows of plane p of the source, one behind another
unfoldable pub source_plane : (p state : ℕ) → Extent → List (List ℤ)
source_plane p state sides =
    first_values (λ row. source_row p row sides.width (state_after state (row * sides.width))) sides.height

-- the planes of the source, one behind another
unfoldable pub source : FrameFormat → ℕ → Three (List (List ℤ))
source f seed =
    let luma = luma_picture f in
    let chroma = chroma_picture f (decimation f.sampling) in
    let behind_y = state_after seed (luma.height * luma.width) in
    let behind_u = state_after behind_y (chroma.height * chroma.width) in
    record {
      y = source_plane 0 seed luma;
      u = source_plane 1 behind_y chroma;
      v = source_plane 2 behind_u chroma;
    }

-- a row of a rectangle, coded as the source's samples at the corners of 8x8 blocks
unfoldable pub coded_row : List (List ℤ) → TileRect → ℕ → List ℤ
coded_row rows rect row =
    first_values (λ column. picture_sample rows ((rect.x + column) / 8 * 8) ((rect.y + row) / 8 * 8)) rect.width

-- the rows of a rectangle, coded as the source's samples at the corners of 8x8 blocks
unfoldable pub coded_rows : List (List ℤ) → TileRect → List (List ℤ)
coded_rows rows rect = first_values (λ row. coded_row rows rect row) rect.height

-- a tile's rectangle in a chroma plane, by its rectangle in luma
abbrev pub chroma_rect : Option (ℕ × ℕ) → TileRect → TileRect
chroma_rect None luma = record { x = 0; y = 0; width = 0; height = 0 }
chroma_rect (Some (xdec, ydec)) luma = record {
  x = luma.x / 2 ^ xdec;
  y = luma.y / 2 ^ ydec;
  width = luma.width / 2 ^ xdec;
  height = luma.height / 2 ^ ydec;
}

-- the coded samples of a tile with this rectangle in luma
unfoldable pub coded_planes : ChromaSampling → TileRect → Three (List (List ℤ)) → Three (List (List ℤ))
coded_planes sampling luma s =
    let chroma = chroma_rect (decimation sampling) luma in
    record { y = coded_rows s.y luma; u = coded_rows s.u chroma; v = coded_rows s.v chroma }

-- an intra block of 8 by 8 with one transform, not skipped
abbrev pub small_block : ℕ → Block
small_block cdef_index = record default_block {
  bsize = BLOCK_8X8;
  n4_w = 2;
  n4_h = 2;
  txsize = TX_8X8;
  cdef_index = cdef_index;
}

-- the block at a column and row: small, with a CDEF index by the superblock's column and row
abbrev pub generated_block : (column row : ℕ) → Block
generated_block column row = small_block ((column / 16 + row / 16) % 8)

-- the blocks of a rectangle
unfoldable pub generated_blocks : TileRect → List Block
generated_blocks rect =
    first_values (λ k. generated_block (rect.x + k % rect.width) (rect.y + k / rect.width)) (rect.width * rect.height)

-- the Wiener coefficients in the middle of their ranges
abbrev pub middle_taps : List ℤ
middle_taps = pos 3 ∷ neg_ℤ (pos 7) ∷ pos 15 ∷ []

-- the self-guided weights in the middle of their ranges
abbrev pub middle_weights : List ℤ
middle_weights = neg_ℤ (pos 32) ∷ pos 31 ∷ []

-- the unit at a place of a plane's units
abbrev pub generated_unit : (column row : ℕ) → RestorationUnit
generated_unit column row =
    if (column + row) % 3 == 0 then no_unit
    else (if (column + row) % 3 == 1 then record { filter = filters.Wiener (middle_taps ∷ middle_taps ∷ []) }
    else record { filter = filters.Sgrproj (column % 16) middle_weights })

-- the units of tile n in a plane whose units have this layout
unfoldable pub generated_units : TilingInfo → RestorationPlaneConfig → ℕ → List RestorationUnit
generated_units t cfg n =
    let rect = tile_units t cfg.sb_h_shift cfg.sb_v_shift cfg.cols cfg.rows n in
    first_values (λ k. generated_unit (rect.x + k % rect.width) (rect.y + k / rect.width)) (rect.width * rect.height)

-- the units of tile n in all planes
abbrev pub coded_unit_lists : TilingInfo → Three RestorationPlaneConfig → ℕ → Three (List RestorationUnit)
coded_unit_lists t layouts n = record {
  y = generated_units t layouts.y n;
  u = generated_units t layouts.u n;
  v = generated_units t layouts.v n;
}

-- how many bytes tile n has
abbrev pub byte_count : ℕ → ℕ
byte_count n = if n == 1 then 1000 else (if n == 2 then 1100 else 900)

-- the bytes of tile n
unfoldable pub coded_bytes : ℕ → List ℕ
coded_bytes n = first_values (λ i. (n + i) % 256) (byte_count n)

-- the result of tile n
unfoldable pub coded_tile : Header → TilingInfo → Three (List (List ℤ)) → ℕ → Recorded
coded_tile h t s n =
    Coded (coded_bytes n) (coded_planes h.format.sampling (tile_luma t n) s) (generated_blocks (tile_blocks t n))
    (coded_unit_lists t (unit_layouts (frame_parameters h t)) n)

-- the frame that a header and a number make, as a text would say it
unfoldable pub generated : Header → TilingInfo → ℕ → Said
generated h t seed =
    let s = source h.format seed in
    record { header = h; tiling = t; source = s; tiles = first_values (λ n. coded_tile h t s n) (t.cols * t.rows) }

-- the strengths of CDEF in the generated frame
abbrev pub strengths : List ℕ
strengths = 0 ∷ 4 ∷ 8 ∷ 12 ∷ 1 ∷ 2 ∷ 3 ∷ 21 ∷ []

-- a key frame of 1920 by 1080 in four tiles, with all filters and with chosen levels
abbrev pub generated_header : Header
generated_header = record {
  format = record { width = 1920; height = 1080; sampling = Cs420; depth = 8 };
  target = record { num = 30; den = 1; cols_log2 = 1; rows_log2 = 1 };
  frame_type = KEY;
  quantizers = record { ac_quantizer = 100; base_q_idx = 100 };
  switches = record {
    fast_deblock = false;
    enable_cdef = true;
    enable_restoration = true;
    enable_large_lru = false;
    disable_frame_end_update_cdf = false;
  };
  deblock = record {
    levels = 0 ∷ 0 ∷ 0 ∷ 0 ∷ [];
    deltas_enabled = false;
    ref_deltas = replicate 8 (pos 0);
    mode_deltas = pos 0 ∷ pos 0 ∷ [];
    block_deltas_enabled = false;
    block_delta_shift = 0;
    block_delta_multi = false;
  };
  cdef = record { damping = 3; y_strengths = strengths; uv_strengths = strengths };
}
