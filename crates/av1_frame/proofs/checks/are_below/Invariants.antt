use Rattle.std.proofs.Common.{◌≡◌, ◌+◌, map, pos, true}
use Rattle.std.specs.List.{list_all, slice_index_or, range_with_len}
use Rattle.av1_frame.specs.Coding.{in_depth}
use Rattle.av1_frame.proofs.checks.are_below.Given as goal

-- The samples before x are below the bound.
abbrev pub invariant-loop-x : goal.invariant-loop-x
invariant-loop-x g l =
    list_all (λ i. in_depth l.bound (slice_index_or (map g.T.Pixel.number l.samples) (l.first + i) (pos 0))) (range_with_len 0 l.x) ≡ true
