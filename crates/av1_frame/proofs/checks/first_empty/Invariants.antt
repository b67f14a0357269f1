use Rattle.std.proofs.Common.{◌≡◌, map}
use Rattle.av1_frame.specs.Coding.{has_no_bytes}
use Rattle.av1_frame.specs.Results.{result_of}
use Rattle.av1_frame.proofs.Refusals.{IsSearched}
use Rattle.av1_frame.proofs.checks.first_empty.Given as goal

-- No tile before n is empty.
abbrev pub invariant-loop-n : goal.invariant-loop-n
invariant-loop-n g l = IsSearched has_no_bytes (map result_of l.tiles) l.n
