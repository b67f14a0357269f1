use Rattle.std.proofs.Common.{◌≡◌, ◌++◌}
use Rattle.av1_rec.specs.GridText.{tile_texts}
use Rattle.av1_rec.proofs.program.grid_report.put_tiles.Given as goal

-- The lines of the first n tiles are written.
abbrev pub invariant-loop-n : goal.invariant-loop-n
invariant-loop-n l = l.out.items ≡ l.initial.out.items ++ tile_texts l.tiling l.n
