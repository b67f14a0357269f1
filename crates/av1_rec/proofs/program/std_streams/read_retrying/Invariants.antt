use Rattle.std.specs.Io.KnownBytes.{Keeps}
use Rattle.av1_rec.proofs.program.std_streams.read_retrying.Given as goal

-- A read that was interrupted takes no byte.
abbrev pub invariant-loop : goal.invariant-loop
invariant-loop g l = Keeps (g.R.Read.remaining l.fn.reader) (g.R.Read.remaining l.reader)
