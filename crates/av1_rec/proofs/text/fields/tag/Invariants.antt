use Rattle.std.proofs.Common.{◌≡◌, drop}
use Rattle.av1_rec.specs.Fields.{tag}
use Rattle.av1_rec.proofs.text.fields.tag.Given as goal

-- The rest of the word decides whether the text begins with the word.
abbrev pub invariant-loop-c : goal.invariant-loop-c
invariant-loop-c l = tag (drop l.c-index l.word) l.rest ≡ tag l.word l.text
