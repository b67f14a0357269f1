-- Chroma sizes, as get_plane_residual_size gives them (AV1 specification, section 5.11.38), and what
-- the filters ask of each block of a table.
use Rattle.std.specs.Prelude.{ℕ, Bool, ◌||◌, ◌&&◌, ◌==◌, ◌≢◌, ◌≤◌, ◌/◌, ◌^◌, max, min, nat_le, nat_lt, IsTrue}
use Rattle.av1_block.specs.declared.block.Block.{Block}
use Rattle.av1_block.specs.declared.block_size.BlockSize.{BlockSize}
use Rattle.av1_block.specs.declared.ref_type.RefType.TheVariants.{NONE_FRAME}
use Rattle.av1_block.specs.Sides.{block_width, block_height, ref_number}
use Rattle.av1_block.specs.Block.{first_ref}

-- a side of a chroma block, in units: shifted by the decimation, but no less than one
abbrev pub chroma_side : ℕ → ℕ → ℕ
chroma_side dec side = max (side / 2 ^ dec) 1

-- the width of a block's chroma part, in units of 4 samples
abbrev pub chroma_width : ℕ → BlockSize → ℕ
chroma_width xdec size = chroma_side xdec (block_width size)

-- the height of a block's chroma part, in units of 4 samples
abbrev pub chroma_height : ℕ → BlockSize → ℕ
chroma_height ydec size = chroma_side ydec (block_height size)

-- whether a block has a chroma size: a high one has none where only the width is halved
abbrev pub has_chroma_size : ℕ → ℕ → BlockSize → Bool
has_chroma_size xdec ydec size = (xdec == ydec) || nat_le (block_height size) (block_width size)

-- the width of a block's largest chroma transform, in units of 4 samples and at most 32 samples
abbrev pub chroma_tx_width : ℕ → BlockSize → ℕ
chroma_tx_width xdec size = min (chroma_width xdec size) 8

-- the height of a block's largest chroma transform, in units of 4 samples and at most 32 samples
abbrev pub chroma_tx_height : ℕ → BlockSize → ℕ
chroma_tx_height ydec size = min (chroma_height ydec size) 8

-- what the filters ask of a block under these decimations
pub record IsBlock (xdec ydec : ℕ) (b : Block) : Type 0 where
  pub wide : 1 ≤ b.n4_w
  pub high : 1 ≤ b.n4_h
  pub cdef : b.cdef_index ≤ 7
  pub reference : first_ref b ≢ NONE_FRAME
  pub chroma : IsTrue (has_chroma_size xdec ydec b.bsize)

-- whether a block has what the filters ask of it under these decimations
abbrev pub is_block : ℕ → ℕ → Block → Bool
is_block xdec ydec b =
    nat_le 1 b.n4_w && nat_le 1 b.n4_h && nat_le b.cdef_index 7 && nat_lt (ref_number (first_ref b)) 8
    && has_chroma_size xdec ydec b.bsize
