use Rattle.std.proofs.Common.{◌≡◌, ◌==◌, length, map}
use Rattle.std.specs.List.{list_all}
use Rattle.av1_rec.proofs.coder.recorded_rows.are_long.Given as goal

-- All rows before the rest have the right length, so the rest decides.
abbrev pub invariant-loop-row : goal.invariant-loop-row
invariant-loop-row g l =
    list_all (λ row. length row == l.width) (map (λ row. map g.T.Pixel.number row.items) l.rest)
    ≡ list_all (λ row. length row == l.width) (map (λ row. map g.T.Pixel.number row.items) l.rows)

-- Each turn of the loop takes a row off the rest.
abbrev pub decreases-loop-row : goal.decreases-loop-row
decreases-loop-row g l = length l.rest
