-- The bands that a run of places falls into: each has 2^n places, and for each n there is at most one at either end.
use Rattle.std.specs.Prelude.{ℕ, zero, suc, ◌+◌, ◌/◌, ◌%◌, ◌^◌, List, Bool, false, ◌==◌, ◌&&◌, ◌||◌, nat_lt, if◌then◌else◌}
use Rattle.std.specs.List.{slice_index_or}
use Rattle.av1_block.specs.Block.{default_block}
use Rattle.av1_block.specs.declared.block.Block.{Block}
use Rattle.av1_rec.specs.declared.text.block_line.BlockLine.{BlockLine}

-- whether band q stands at an end of the run between bands l and r, and not in the middle of a wider band
abbrev pub is_end : ℕ → ℕ → ℕ → Bool
is_end l r q = nat_lt (l + 1) r && (((l % 2 == 0) && (q == l + 1)) || ((r % 2 == 1) && (q + 1 == r)))

-- whether the place is in a band of 2^n places at an end of a run of `count` places
abbrev pub ends_at : ℕ → ℕ → ℕ → ℕ → Bool
ends_at n from count place = is_end (from / 2 ^ n) ((from + count + 1) / 2 ^ n) ((place + 1) / 2 ^ n)

-- whether the place is in a band of fewer than 2^n places at an end of a run
unfoldable pub ends_below : ℕ → ℕ → ℕ → ℕ → Bool
ends_below zero from count place = false
ends_below (suc n) from count place = ends_below n from count place || ends_at n from count place

-- whether a line's rectangle ends with bands of 2^tall rows and 2^wide columns: row q and column p of the bands
abbrev pub ends_with : ℕ → ℕ → BlockLine → ℕ → ℕ → Bool
ends_with tall wide line p q = is_end (line.y / 2 ^ tall) ((line.y + line.rows + 1) / 2 ^ tall) q && is_end (line.x / 2 ^ wide) ((line.x + line.cols + 1) / 2 ^ wide) p

-- a line that holds no place
unfoldable pub no_line : BlockLine
no_line = record { x = 0; y = 0; cols = 0; rows = 0; block = default_block }

-- the number of the last of the first n lines that pass a test, counted from 1, or 0
unfoldable pub last_line : (BlockLine → Bool) → List BlockLine → ℕ → ℕ
last_line test lines zero = 0
last_line test lines (suc n) = if test (slice_index_or lines n no_line) then suc n else last_line test lines n

-- the block of the line with this number, and the default block for 0
unfoldable pub numbered_block : List BlockLine → ℕ → Block
numbered_block lines zero = default_block
numbered_block lines (suc n) = (slice_index_or lines n no_line).block
