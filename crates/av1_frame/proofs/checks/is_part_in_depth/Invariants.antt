use Rattle.std.proofs.Common.{◌≡◌, true}
use Rattle.std.specs.List.{list_all, range_with_len}
use Rattle.av1_tiling.specs.Views.{plane_at}
use Rattle.av1_frame.specs.Coding.{is_row_in_depth}
use Rattle.av1_frame.proofs.checks.is_part_in_depth.Given as goal

-- The samples of the rows before y are below the bound.
abbrev pub invariant-loop-y : goal.invariant-loop-y
invariant-loop-y g l =
    list_all (is_row_in_depth l.bound l.columns (plane_at l.tile.rec l.pli)) (range_with_len 0 l.y) ≡ true
