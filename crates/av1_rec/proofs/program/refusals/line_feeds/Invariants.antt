use Rattle.std.proofs.Common.{◌≡◌, ◌≤◌, take}
use Rattle.std.specs.Prelude.{◌==◌}
use Rattle.std.specs.List.{count_by}
use Rattle.av1_rec.proofs.program.refusals.line_feeds.Given as goal

-- The line feeds of the first bytes are counted.
abbrev pub invariant-loop-c : goal.invariant-loop-c
invariant-loop-c l = record {
  value : l.count ≡ count_by (λ c. c == 10) (take l.c-index l.text);
  within : l.count ≤ l.c-index;
}
