-- CDEF of a frame (AV1 specification, section 7.15): each sample as a function of the deblocked planes
-- and of the blocks.
use Rattle.std.specs.Prelude.{ℕ, ℤ, ◌+◌, ◌-◌, ◌*◌, ◌/◌, ◌^◌, Bool, ◌&&◌, ◌==◌, if◌then◌else◌, List, slice_index}
use Rattle.av1_block.specs.declared.block.Block.{Block}
use Rattle.av1_block.specs.Tables.{entry_at}
use Rattle.av1_cdef.specs.declared.settings.Settings.{Settings}
use Rattle.av1_cdef.specs.Direction.{block_of_picture, direction, direction_variance}
use Rattle.av1_cdef.specs.Strength.{adjusted_strength, primary_of, secondary_of}
use Rattle.av1_cdef.specs.Picture.{CdefPicture, sample_at, near}
use Rattle.av1_cdef.specs.Filter.{filtered_near}

-- what a frame's header says (section 5.9.19): the damping and a strength byte for each index
pub record Header : Type 0 where
  pub bit_depth : ℕ
  pub damping : ℕ
  pub luma_strengths : List ℕ
  pub chroma_strengths : List ℕ

-- A deblocked frame, seen from a view of its table of blocks. The view has `cols` by `rows` units of 4x4
-- luma samples, whose rows lie `step` apart. A block has 8x8 luma samples, so four units, and the view
-- begins at block (x, y) of the frame.
pub record Deblocked : Type 0 where
  pub header : Header
  pub luma : CdefPicture
  pub blocks : List Block
  pub step : ℕ
  pub x : ℕ
  pub y : ℕ
  pub cols : ℕ
  pub rows : ℕ

-- one plane of the frame: its number, of which 0 is luma, its decimations and its samples
pub record Channel : Type 0 where
  pub pli : ℕ
  pub xdec : ℕ
  pub ydec : ℕ
  pub picture : CdefPicture

-- how many columns a block has in a plane
abbrev pub cdef_block_width : Channel → ℕ
cdef_block_width c = 8 / 2 ^ c.xdec

-- how many rows a block has in a plane
abbrev pub cdef_block_height : Channel → ℕ
cdef_block_height c = 8 / 2 ^ c.ydec

-- The blocks (section 7.15).

-- the unit at column x of row y of the frame
abbrev pub frame_unit : Deblocked → ℕ → ℕ → Block
frame_unit d x y = entry_at d.blocks d.step (x - 2 * d.x) (y - 2 * d.y)

-- whether all four units of block (bx, by) of the frame are skipped
abbrev pub is_skipped : Deblocked → ℕ → ℕ → Bool
is_skipped d bx by =
    (frame_unit d (2 * bx) (2 * by)).skip
    && (frame_unit d (2 * bx + 1) (2 * by)).skip
    && (frame_unit d (2 * bx) (2 * by + 1)).skip
    && (frame_unit d (2 * bx + 1) (2 * by + 1)).skip

-- the index that stands in the first unit of the block's 64x64 part
abbrev pub index_of : Deblocked → ℕ → ℕ → ℕ
index_of d bx by = (frame_unit d (16 * (bx / 8)) (16 * (by / 8))).cdef_index

-- Settings of a block (section 7.15.1).

-- by how many bits the samples are longer than 8
abbrev pub coeff_shift : Header → ℕ
coeff_shift f = f.bit_depth - 8

-- block (bx, by) of luma, its samples shifted right
abbrev pub shifted_block : CdefPicture → ℕ → ℕ → ℕ → List ℕ
shifted_block p shift bx by = block_of_picture p.samples (p.origin + 8 * by * p.step + 8 * bx) p.step shift

-- block (bx, by) of the frame's luma, at 8 bits
abbrev pub luma_block : Deblocked → ℕ → ℕ → List ℕ
luma_block d bx by = shifted_block d.luma (coeff_shift d.header) bx by

-- the direction in chroma where only its columns are halved (Cdef_Uv_Dir at 4:2:2)
abbrev pub stretched : ℕ → ℕ
stretched dir =
    if dir == 0 then 7 else if dir == 1 then 0 else if dir == 2 then 2 else if dir == 3 then 4
    else if dir == 4 then 5 else 6

-- the settings of a luma block, whose primary strength is adjusted to its variance
abbrev pub luma_settings : Deblocked → ℕ → ℕ → ℕ → Settings
luma_settings d index bx by =
    let byte = slice_index d.header.luma_strengths index in
    let scale = 2 ^ coeff_shift d.header in
    record {
      direction = if primary_of byte == 0 then 0 else direction (luma_block d bx by);
      primary = adjusted_strength (primary_of byte * scale) (direction_variance (luma_block d bx by));
      secondary = secondary_of byte * scale;
      damping = d.header.damping + coeff_shift d.header;
      scale = scale;
    }

-- the settings of a chroma block: the direction of luma, or 0 where the primary strength is 0
abbrev pub chroma_settings : Deblocked → Channel → ℕ → ℕ → ℕ → Settings
chroma_settings d c index bx by =
    let byte = slice_index d.header.chroma_strengths index in
    let scale = 2 ^ coeff_shift d.header in
    let dir = direction (luma_block d bx by) in
    record {
      direction = if primary_of byte == 0 then 0 else if c.xdec == c.ydec then dir else stretched dir;
      primary = primary_of byte * scale;
      secondary = secondary_of byte * scale;
      damping = d.header.damping + coeff_shift d.header - 1;
      scale = scale;
    }

-- the settings of block (bx, by) of a plane with the strengths of an index
abbrev pub settings_of : Deblocked → Channel → ℕ → ℕ → ℕ → Settings
settings_of d c index bx by =
    if c.pli == 0 then luma_settings d index bx by else chroma_settings d c index bx by

-- The filtered samples (section 7.15.2).

-- sample (x, y) of a plane, filtered in block (bx, by) with the strengths of an index
unfoldable pub block_cdef : Deblocked → Channel → (index bx by x y : ℕ) → ℤ
block_cdef d c index bx by x y =
    if is_skipped d bx by then sample_at c.picture x y
    else filtered_near (near c.picture x y) (settings_of d c index bx by) (sample_at c.picture x y)

-- the sample at column x of row y of a plane, after CDEF
unfoldable pub cdef : Deblocked → Channel → ℕ → ℕ → ℤ
cdef d c x y =
    let bx = x / cdef_block_width c in
    let by = y / cdef_block_height c in
    block_cdef d c (index_of d bx by) bx by x y
