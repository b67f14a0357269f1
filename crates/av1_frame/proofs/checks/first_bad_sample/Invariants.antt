use Rattle.std.proofs.Common.{◌≡◌, map}
use Rattle.av1_frame.specs.Coding.{has_bad_sample}
use Rattle.av1_frame.specs.Results.{result_of}
use Rattle.av1_frame.proofs.Refusals.{IsSearched}
use Rattle.av1_frame.proofs.checks.first_bad_sample.Given as goal

-- No tile before n has a bad sample.
abbrev pub invariant-loop-n : goal.invariant-loop-n
invariant-loop-n g l = IsSearched (has_bad_sample l.fi) (map result_of l.tiles) l.n
