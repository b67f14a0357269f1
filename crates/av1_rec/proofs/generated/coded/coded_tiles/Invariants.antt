use Rattle.std.proofs.Common.{◌≡◌, pos, map}
use Rattle.av1_rec.specs.BlockTable.{first_values}
use Rattle.av1_rec.specs.Generated.{coded_tile}
use Rattle.av1_rec.specs.Lines.{said_planes}
use Rattle.av1_rec.specs.Recorded.{recorded}
use Rattle.av1_rec.proofs.generated.coded.coded_tiles.Given as goal

-- The results of the first n tiles are made.
abbrev pub invariant-loop-n : goal.invariant-loop-n
invariant-loop-n l =
    map (recorded pos) l.made.items ≡ first_values (λ n. coded_tile l.header l.tiling (said_planes pos l.source) n) l.n
