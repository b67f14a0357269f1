-- Tables of motion records.
use Rattle.std.specs.Prelude.{ℕ, ◌*◌, replicate}
use Rattle.av1_block.specs.Motion.{no_stats}
use Rattle.av1_block.specs.declared.me_stats.MEStats.{MEStats}
use Rattle.av1_block.specs.Rows.{Rows}

-- a table of these sides without motion
abbrev pub blank_motion : ℕ → ℕ → Rows MEStats
blank_motion cols rows = record { cols = cols; rows = rows; entries = replicate (cols * rows) no_stats }
