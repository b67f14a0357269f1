use Rattle.std.proofs.Common.{◌≡◌, map}
use Rattle.av1_frame.specs.Coding.{has_too_many_bytes}
use Rattle.av1_frame.specs.Results.{result_of}
use Rattle.av1_frame.proofs.Refusals.{IsSearched}
use Rattle.av1_frame.proofs.checks.first_too_large.Given as goal

-- No tile before n is too large.
abbrev pub invariant-loop-n : goal.invariant-loop-n
invariant-loop-n g l = IsSearched has_too_many_bytes (map result_of l.tiles) l.n
