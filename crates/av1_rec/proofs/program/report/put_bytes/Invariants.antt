use Rattle.std.proofs.Common.{◌≡◌, ◌++◌, take}
use Rattle.std.specs.List.{flat_map}
use Rattle.av1_rec.specs.Report.{byte_digits}
use Rattle.av1_rec.proofs.program.report.put_bytes.Given as goal

-- The digits of the first bytes are written.
abbrev pub invariant-loop-n : goal.invariant-loop-n
invariant-loop-n l = l.out.items ≡ l.initial.out.items ++ flat_map byte_digits (take l.n-index l.bytes)
