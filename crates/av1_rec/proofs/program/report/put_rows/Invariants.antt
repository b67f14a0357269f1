use Rattle.std.proofs.Common.{◌≡◌, ◌++◌}
use Rattle.std.specs.List.{flat_map}
use Rattle.av1_plane.specs.Layout.{rows}
use Rattle.av1_plane.specs.Reading.{step_seen, area_seen, numbers_seen}
use Rattle.av1_rec.specs.Report.{row_line}
use Rattle.av1_rec.proofs.program.report.put_rows.Given as goal

-- The lines of the first y rows are written.
abbrev pub invariant-loop-y : goal.invariant-loop-y
invariant-loop-y g l = l.out.items ≡ l.initial.out.items ++ flat_map (row_line l.wide) (rows (step_seen l.region) (area_seen l.region).width l.y (numbers_seen g.T.Pixel.number l.region))
