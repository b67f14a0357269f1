-- A tile's recorded result: `tile N refused`, or `tile N BYTES`, the rows of its samples inside the frame, its
-- blocks and its restoration units.
use Rattle.std.specs.Prelude.{ℕ, ◌/◌, ◌+◌, List, [], ◌∷◌, ◌==◌, length, nat_lt, Bool, if◌then◌else◌, Option, Some, None, Result, Ok, Err, codes}
use Rattle.av1_plane.specs.declared.three.Three.{Three}
use Rattle.av1_rec.specs.declared.text.extent.Extent.{Extent}
use Rattle.av1_rec.specs.declared.text.extent.TileShape.{TileShape}
use Rattle.av1_rec.specs.declared.text.fault.Fault.{Fault}
use Rattle.av1_rec.specs.declared.text.fault.Fault.TheVariants.{Wrong}
use Rattle.av1_rec.specs.Blocks.{block_line}
use Rattle.av1_rec.specs.BlockTable.{blocks_said}
use Rattle.av1_rec.specs.Fields.{tag, field, hex_byte, option_bind}
use Rattle.av1_rec.specs.Lines.{◌>>=◌, text_line, many, planes}
use Rattle.av1_rec.specs.Recorded.{Recorded, Refused, Coded}
use Rattle.av1_rec.specs.declared.text.unit_line.UnitLine.{UnitLine}
use Rattle.av1_rec.specs.Units.{unit_line, tile_units_said}

-- how many bytes stand before the line feed
unfoldable pub line_length : List ℕ → ℕ
line_length [] = 0
line_length (c ∷ cs) = if c == 10 then 0 else line_length cs + 1

-- at least one byte in hexadecimal digits
unfoldable pub hex_line : List ℕ → Result (List ℕ × List ℕ) Fault
hex_line text = if nat_lt (line_length text) 2 then Err (Wrong (length text)) else (do
  bytes ← many (text_line hex_byte) (line_length text / 2) text
  rest ← text_line (tag (codes "\n")) bytes.1
  Ok (bytes.0, rest))

-- BYTES: `-` for no bytes, or at least one byte in hexadecimal digits
unfoldable pub bytes_line : List ℕ → Result (List ℕ × List ℕ) Fault
bytes_line text = elim (tag (codes "-\n") text) [ Some rest ↦ Ok ([], rest) | None ↦ hex_line text ]

-- a word, a space and a count, and the line feed
unfoldable pub count_line : List ℕ → List ℕ → Option (ℕ × List ℕ)
count_line word text = option_bind (tag word text) (λ rest. option_bind (field 0 4294967295 rest) (λ n. option_bind (tag (codes "\n") n.1) (λ rest. Some (n.0, rest))))

-- `units COUNT`, and as many lines of units
unfoldable pub unit_lines : Three Extent → List ℕ → Result (List UnitLine × List ℕ) Fault
unit_lines units text = do
  count ← text_line (count_line (codes "units")) text
  many (text_line (unit_line units)) count.0 count.1

-- the limit of samples by their digits: 16 bits have four, 8 bits have two
abbrev pub digit_limit : Bool → ℕ
digit_limit wide = if wide then 65536 else 256

-- BYTES, the rows of each plane, and the blocks and the units that lines write
unfoldable pub coded : Bool → TileShape → Three Extent → List ℕ → Result (Recorded × List ℕ) Fault
coded wide shape units text = do
  bytes ← bytes_line text
  rows ← planes wide (digit_limit wide) shape.luma shape.chroma bytes.1
  count ← text_line (count_line (codes "blocks")) rows.1
  lines ← many (text_line (block_line shape.blocks.width shape.blocks.height)) count.0 count.1
  set ← unit_lines units lines.1
  Ok (
    Coded bytes.0 rows.0 (blocks_said shape.blocks.width shape.blocks.height lines.0) (tile_units_said units set.0),
    set.1,
  )

-- the word `refused`, or a coded tile
unfoldable pub tile_result : Bool → TileShape → Three Extent → List ℕ → Result (Recorded × List ℕ) Fault
tile_result wide shape units text =
    elim (tag (codes "refused\n") text) [ Some rest ↦ Ok (Refused, rest) | None ↦ coded wide shape units text ]

-- `tile N` and the result of the tile
unfoldable pub tile : Bool → TileShape → Three Extent → ℕ → List ℕ → Result (Recorded × List ℕ) Fault
tile wide shape units n text = do
  rest ← text_line (tag (codes "tile")) text
  number ← text_line (field n n) rest
  rest ← text_line (tag (codes " ")) number.1
  tile_result wide shape units rest
