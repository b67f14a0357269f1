use Rattle.std.proofs.Common.{◌≡◌, ◌+◌, vec_len}
use Rattle.av1_deblock.proofs.tests.push_row.Given as goal

-- The samples of the row before this one are all there.
abbrev pub invariant-loop-sample : goal.invariant-loop-sample
invariant-loop-sample l = vec_len l.samples ≡ vec_len l.initial.samples + l.sample-index
