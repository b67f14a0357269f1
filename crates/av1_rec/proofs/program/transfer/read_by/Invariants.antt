use Rattle.std.proofs.Common.{◌≡◌, ◌≤◌, ◌+◌, ◌-◌, ◌^◌, true, vec_len}
use Rattle.std.specs.Io.KnownBytes.{Consumes}
use Rattle.av1_rec.proofs.program.transfer.read_by.Given as goal

-- The text is what was taken off the source without a fault, at most one byte too long.
abbrev pub invariant-loop-text : goal.invariant-loop-text
invariant-loop-text g l = record {
  taken : Consumes (g.S.Source.left l.fn.source) (g.S.Source.left l.source) l.text.items;
  long : vec_len l.text ≤ 2 ^ 28 + 1;
  quiet : g.S.Source.is_quiet ≡ true → g.S.Source.faults l.source ≡ g.S.Source.faults l.fn.source;
  kept : g.S.Source.faults l.fn.source ≤ g.S.Source.faults l.source;
}

-- Each turn of the loop reads at least one byte.
abbrev pub decreases-loop-text : goal.decreases-loop-text
decreases-loop-text g l = 2 ^ 28 + 1 - vec_len l.text
