-- The whole text: the header, the source's rows, each tile's result, and the last line. Reading gives
-- the fault of the first wrong line, that there is no tiling (AV1 specification, section 5.9.15), or
-- what the text says.
use Rattle.std.specs.Prelude.{◌≡◌, ℕ, ◌+◌, ◌-◌, ◌*◌, ◌/◌, ◌^◌, ℤ, pos, List, map, take, length, Bool, ◌==◌, nat_lt, if◌then◌else◌, Option, Some, None, Result, Ok, Err, codes}
use Rattle.std.specs.List.{count_by}
use Rattle.av1_plane.specs.declared.three.Three.{Three}
use Rattle.av1_plane.specs.Layout.{visible}
use Rattle.av1_plane.specs.Sampling.{decimation}
use Rattle.av1_tiling.specs.declared.tiling_info.TilingInfo.{TilingInfo}
use Rattle.av1_tiling.specs.Frames.{is_422}
use Rattle.av1_tiling.specs.Grid.{grid}
use Rattle.av1_tiling.specs.TileRects.{tile_luma, tile_blocks}
use Rattle.av1_rec.specs.declared.text.extent.Extent.{Extent}
use Rattle.av1_rec.specs.declared.text.extent.TileShape.{TileShape}
use Rattle.av1_rec.specs.declared.text.fault.Fault.{Fault}
use Rattle.av1_rec.specs.declared.text.fault.Fault.TheVariants.{Wrong, NoTiling}
use Rattle.av1_rec.specs.declared.text.header.FrameFormat.{FrameFormat}
use Rattle.av1_rec.specs.declared.text.header.Header.{Header}
use Rattle.av1_rec.specs.declared.text.FrameText.{FrameText}
use Rattle.av1_rec.specs.declared.text.FrameText.TheVariants.{Bytes, Words}
use Rattle.av1_rec.specs.declared.text.Text.{Text}
use Rattle.av1_rec.specs.Fields.{tag}
use Rattle.av1_rec.specs.Header.{frame_line, tiling_line, type_line, quant_line, switches_line, deltas_line, cdef_line}
use Rattle.av1_rec.specs.Lines.{◌>>=◌, text_line, planes, numbered, said_planes}
use Rattle.av1_rec.specs.UnitTables.{tile_unit_extents}
use Rattle.av1_rec.specs.Recorded.{Recorded, recorded}
use Rattle.av1_rec.specs.Tile.{tile}

-- what a text says, with the tiling of its frame
pub record Said : Type 0 where
  pub header : Header
  pub tiling : TilingInfo
  pub source : Three (List (List ℤ))
  pub tiles : List Recorded

-- the eight header lines
unfoldable pub header : List ℕ → Result (Header × List ℕ) Fault
header text = do
  rest ← text_line (tag (codes "av1rec 1\n")) text
  f ← text_line frame_line rest
  t ← text_line tiling_line f.1
  k ← text_line type_line t.1
  q ← text_line quant_line k.1
  s ← text_line (switches_line f.0) q.1
  d ← text_line deltas_line s.1
  c ← text_line cdef_line d.1
  Ok (record { format = f.0; target = t.0; frame_type = k.0; quantizers = q.0; switches = s.0; deblock = d.0; cdef = c.0 }, c.1)

-- the tiling of a header's frame, in superblocks of 64 samples; at 4:2:2 tiles have an even number of them in a row
unfoldable pub tiling : Header → Result TilingInfo Fault
tiling h =
    let even = is_422 h.format.sampling in
    let f = h.format in
    let target = h.target in
    elim (grid 6 f.width f.height target.num target.den target.cols_log2 target.rows_log2 even) [
      | Some t ↦ Ok t
      | None ↦ Err NoTiling
    ]

-- a header's frame has this tiling
abbrev pub HasTiling : Header → TilingInfo → Type 0
HasTiling h t = tiling h ≡ Ok t

-- the header, the tiling of its frame, and the bytes behind
unfoldable pub tiled_header : List ℕ → Result (Header × TilingInfo × List ℕ) Fault
tiled_header text = do
  h ← header text
  t ← tiling h.0
  Ok (h.0, t, h.1)

-- the sides of a plane without samples
abbrev pub no_samples : Extent
no_samples = record { width = 0; height = 0 }

-- the sides of the picture in luma
abbrev pub luma_picture : FrameFormat → Extent
luma_picture f = record { width = f.width; height = f.height }

-- the sides of the picture in a chroma plane
abbrev pub chroma_picture : FrameFormat → Option (ℕ × ℕ) → Extent
chroma_picture f None = no_samples
chroma_picture f (Some (xdec, ydec)) = record { width = visible f.width xdec; height = visible f.height ydec }

-- whether samples have four hexadecimal digits, as they have from 10 bits on
abbrev pub is_wide : FrameFormat → Bool
is_wide f = nat_lt 8 f.depth

-- the picture's rows, of samples in the frame's depth
unfoldable pub source_rows : FrameFormat → List ℕ → Result (Three (List (List ℤ)) × List ℕ) Fault
source_rows f text = do
  rest ← text_line (tag (codes "source\n")) text
  planes (is_wide f) (2 ^ f.depth) (luma_picture f) (chroma_picture f (decimation f.sampling)) rest

-- the sides of tile n in luma, inside the frame
abbrev pub luma_of : TilingInfo → ℕ → Extent
luma_of t n = record { width = (tile_luma t n).width; height = (tile_luma t n).height }

-- the sides of tile n in a chroma plane, inside the frame
abbrev pub chroma_of : TilingInfo → ℕ → Option (ℕ × ℕ) → Extent
chroma_of t n None = no_samples
chroma_of t n (Some (xdec, ydec)) = record { width = (tile_luma t n).width / 2 ^ xdec; height = (tile_luma t n).height / 2 ^ ydec }

-- the sides of tile n in blocks
abbrev pub blocks_of : TilingInfo → ℕ → Extent
blocks_of t n = record { width = (tile_blocks t n).width; height = (tile_blocks t n).height }

-- the sides of tile n: in luma, in chroma, and in blocks
unfoldable pub tile_shape : FrameFormat → TilingInfo → ℕ → TileShape
tile_shape f t n = record { luma = luma_of t n; chroma = chroma_of t n (decimation f.sampling); blocks = blocks_of t n }

-- the result of tile n
abbrev pub tile_at : Header → TilingInfo → ℕ → List ℕ → Result (Recorded × List ℕ) Fault
tile_at h t n text = tile (is_wide h.format) (tile_shape h.format t n) (tile_unit_extents h t n) n text

-- the results of all tiles, in order
unfoldable pub tiles : Header → TilingInfo → List ℕ → Result (List Recorded × List ℕ) Fault
tiles h t text = numbered (tile_at h t) 0 (t.cols * t.rows) text

-- the last line, and nothing after it
unfoldable pub end : List ℕ → Result (Unit {0}) Fault
end text = do
  rest ← text_line (tag (codes "end\n")) text
  if length rest == 0 then Ok tt else Err (Wrong (length rest))

-- what follows the header: the source, the tiles' results and the last line
unfoldable pub body : Header → TilingInfo → List ℕ → Result Said Fault
body h t text = do
  picture ← source_rows h.format text
  results ← tiles h t picture.1
  _ ← end results.1
  Ok (record { header = h; tiling = t; source = picture.0; tiles = results.0 })

-- the whole text
unfoldable pub text_of : List ℕ → Result Said Fault
text_of text = do
  h ← tiled_header text
  body h.0 h.1 h.2

-- the number of the line in which the last `left` bytes of a text begin
unfoldable pub line_number : List ℕ → ℕ → ℕ
line_number text left = count_by (λ c. c == 10) (take (length text - left) text) + 1

-- what a parsed text says, as plain data, with its samples as numbers
abbrev pub said : {X : Type 0} → (X → ℤ) → Text X → Said
said number t = record {
  header = t.header;
  tiling = t.tiling;
  source = said_planes number t.source;
  tiles = map (recorded number) t.tiles.items;
}

-- what a parsed text says, whether its samples are bytes or words
abbrev pub frame_said : FrameText → Said
frame_said (Bytes t) = said pos t
frame_said (Words t) = said pos t
