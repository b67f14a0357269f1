use Rattle.std.proofs.Common.{◌≡◌, ◌++◌, take, map}
use Rattle.std.specs.List.{flat_map}
use Rattle.av1_rec.specs.Report.{sample_digits, natural}
use Rattle.av1_rec.proofs.program.report.put_row.Given as goal

-- The digits of the first samples are written.
abbrev pub invariant-loop-sample : goal.invariant-loop-sample
invariant-loop-sample g l = l.out.items ≡ l.initial.out.items ++ flat_map (λ v. sample_digits l.wide (natural v)) (map g.T.Pixel.number (take l.sample-index l.row))
