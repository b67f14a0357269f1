use Rattle.std.proofs.Common.{◌≡◌, take}
use Rattle.av1_deblock.specs.Columns.{column}
use Rattle.av1_deblock.proofs.tally.take_line.Given as goal

-- The line has the first j samples of its column of cells.
abbrev pub invariant-loop-j : goal.invariant-loop-j
invariant-loop-j l = take l.j l.line ≡ column l.cells l.k l.j
