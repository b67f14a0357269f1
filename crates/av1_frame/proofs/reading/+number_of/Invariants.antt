use Rattle.std.proofs.Common.{length}
use Rattle.av1_frame.proofs.reading.+number_of.Given as goal

-- Each call takes a byte off the list.
abbrev pub decreases-number_of : goal.decreases-number_of
decreases-number_of l = length l.bytes.now
