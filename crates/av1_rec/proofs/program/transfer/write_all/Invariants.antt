use Rattle.std.proofs.Common.{◌≡◌, ◌++◌, ℕ, List, length, true, ◌≤◌}
use Rattle.std.specs.Io.KnownBytes.{Appends}
use Rattle.av1_rec.proofs.program.transfer.write_all.Given as goal

-- All bytes before the rest are written without a fault.
abbrev pub invariant-loop-rest : goal.invariant-loop-rest
invariant-loop-rest g l = record {
  written : (front : List ℕ) × (l.bytes ≡ front ++ l.rest) × Appends (g.K.Sink.written l.fn.sink) (g.K.Sink.written l.sink) front;
  quiet : g.K.Sink.is_quiet ≡ true → g.K.Sink.faults l.sink ≡ g.K.Sink.faults l.fn.sink;
  kept : g.K.Sink.faults l.fn.sink ≤ g.K.Sink.faults l.sink;
}

-- Each turn of the loop writes at least one byte.
abbrev pub decreases-loop-rest : goal.decreases-loop-rest
decreases-loop-rest g l = length l.rest
