use Rattle.std.proofs.Common.{◌≡◌, ◌<◌, ◌^◌, length}
use Rattle.av1_rec.specs.Fields.{digits}
use Rattle.av1_rec.proofs.text.fields.digits.Given as goal

-- The rest of the text, read behind the number so far, gives what the whole text gives.
abbrev pub invariant-loop-c : goal.invariant-loop-c
invariant-loop-c l = (l.value < 2 ^ 32) × (digits l.value l.rest ≡ digits 0 l.text)

-- Each turn of the loop takes a byte off the rest.
abbrev pub decreases-loop-c : goal.decreases-loop-c
decreases-loop-c l = length l.rest
