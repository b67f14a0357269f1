-- What is known of a tile's coded units of 4 by 4 luma samples, and which unit stands above a block or to the left of it.
use Rattle.std.specs.Prelude.{ℕ, ◌+◌, ◌-◌, ◌*◌, ◌%◌, ◌==◌, if◌then◌else◌, replicate, Option, Some, None}
use Rattle.std.specs.List.{slice_index_or}
use Rattle.av1_plane.specs.declared.offset.BlockOffset.{BlockOffset}
use Rattle.av1_block.specs.declared.coded_block_info.CodedBlockInfo.{CodedBlockInfo}
use Rattle.av1_block.specs.CodedBlockInfo.{no_info}
use Rattle.av1_block.specs.Rows.{Rows}

-- a table with these sides of units of which nothing is known
abbrev pub blank_infos : (cols rows : ℕ) → Rows CodedBlockInfo
blank_infos cols rows = record { entries = replicate (cols * rows) no_info; cols = cols; rows = rows }

-- what is known of the unit at column x of row y
abbrev pub info_at : Rows CodedBlockInfo → (x y : ℕ) → CodedBlockInfo
info_at t x y = slice_index_or t.entries (y * t.cols + x) no_info

-- an even column or row moved on by a decimation; an odd one stays
abbrev pub past_even : (place dec : ℕ) → ℕ
past_even place dec = if place % 2 == 0 then place + dec else place

-- an odd column or row moved back by a decimation; an even one stays
abbrev pub before_odd : (place dec : ℕ) → ℕ
before_odd place dec = if place % 2 == 0 then place else place - dec

-- what is known of the unit above a block in a plane with these decimations; nothing at the tile's upper edge
abbrev pub info_above : Rows CodedBlockInfo → BlockOffset → (xdec ydec : ℕ) → Option CodedBlockInfo
info_above t bo xdec ydec =
    let y = before_odd bo.y ydec in
    if y == 0 then None else Some (info_at t (past_even bo.x xdec) (y - 1))

-- what is known of the unit to the left of a block in such a plane; nothing at the tile's left edge
abbrev pub info_left : Rows CodedBlockInfo → BlockOffset → (xdec ydec : ℕ) → Option CodedBlockInfo
info_left t bo xdec ydec =
    let x = before_odd bo.x xdec in
    if x == 0 then None else Some (info_at t (x - 1) (past_even bo.y ydec))
