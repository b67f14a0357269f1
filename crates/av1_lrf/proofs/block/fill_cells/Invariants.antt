use Rattle.std.proofs.Common.{◌+◌}
use Rattle.av1_lrf.specs.Wiener.{wiener_across}
use Rattle.av1_lrf.specs.Taps.{seven, rounding_of, HasStripeCells, scene_by}
use Rattle.av1_lrf.proofs.block.fill_cells.Given as goal

-- The first j rows of cells are filtered across.
abbrev pub invariant-loop-j : goal.invariant-loop-j
invariant-loop-j g l = HasStripeCells l.n l.j (λ i j. wiener_across (rounding_of l.l) (seven l.t) (scene_by g.T.Pixel.number l.e l.cdeffed l.deblocked) (l.x + i) (l.y + j)) l.cells
