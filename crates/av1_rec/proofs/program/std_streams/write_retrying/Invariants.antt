use Rattle.std.specs.Io.KnownBytes.{Keeps}
use Rattle.av1_rec.proofs.program.std_streams.write_retrying.Given as goal

-- A write that was interrupted writes no byte.
abbrev pub invariant-loop : goal.invariant-loop
invariant-loop g l = Keeps (g.W.Write.contents l.fn.writer) (g.W.Write.contents l.writer)
