use Rattle.std.proofs.Common.{◌≡◌, map}
use Rattle.std.specs.Prelude.{is_none}
use Rattle.av1_frame.specs.Results.{result_of}
use Rattle.av1_frame.proofs.Refusals.{IsSearched}
use Rattle.av1_frame.proofs.checks.first_refused.Given as goal

-- No tile before n is refused.
abbrev pub invariant-loop-n : goal.invariant-loop-n
invariant-loop-n g l = IsSearched is_none (map result_of l.tiles) l.n
