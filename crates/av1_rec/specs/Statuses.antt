-- The numbers of the statuses, and the lines that refusals print.
use Rattle.std.specs.Prelude.{ℕ, List, [], ◌++◌, codes, decimal}
use Rattle.av1_frame.specs.declared.group_error.GroupError.{GroupError}
use Rattle.av1_frame.specs.declared.group_error.GroupError.TheVariants as errors
use Rattle.av1_rec.specs.declared.program.status.Status.{Status}
use Rattle.av1_rec.specs.declared.program.status.Status.TheVariants.{Done, OutOfMemory, Usage, ReadFault, TooLong, Syntax, NoTiling, Group, WriteFault}

-- the number of a status, as the program's exit code
abbrev pub status_code : Status → ℕ
status_code Done = 0
status_code OutOfMemory = 1
status_code Usage = 2
status_code ReadFault = 3
status_code TooLong = 4
status_code (Syntax line) = 5
status_code NoTiling = 6
status_code (Group error) = 7
status_code WriteFault = 8

-- the line of a refusal that a tile causes: `refused`, a word, `tile` and the tile's number
unfoldable pub tile_line : List ℕ → ℕ → List ℕ
tile_line word tile = codes "refused " ++ word ++ codes " tile " ++ decimal tile ++ codes "\n"

-- the line of a group's error; a want of memory has no line
unfoldable pub group_line : GroupError → List ℕ
group_line errors.OutOfMemory = []
group_line (errors.Coder tile) = tile_line (codes "coder") tile
group_line (errors.EmptyTile tile) = tile_line (codes "empty") tile
group_line (errors.TileTooLarge tile) = tile_line (codes "large") tile
group_line (errors.BadSample tile) = tile_line (codes "sample") tile
group_line (errors.BadBlock tile) = tile_line (codes "block") tile
group_line (errors.BadUnit tile) = tile_line (codes "unit") tile

-- the line of a refusal of a wrong text, with the number of its first wrong line
unfoldable pub syntax_line : ℕ → List ℕ
syntax_line line = codes "refused syntax line " ++ decimal line ++ codes "\n"

-- the line of a refusal; statuses that refuse nothing have no line
unfoldable pub refusal_line : Status → List ℕ
refusal_line Usage = codes "refused usage\n"
refusal_line ReadFault = codes "refused read\n"
refusal_line TooLong = codes "refused too long\n"
refusal_line (Syntax line) = syntax_line line
refusal_line NoTiling = codes "refused no tiling\n"
refusal_line (Group error) = group_line error
refusal_line Done = []
refusal_line OutOfMemory = []
refusal_line WriteFault = []
