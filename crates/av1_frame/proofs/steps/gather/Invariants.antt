use Rattle.std.proofs.Common.{◌≡◌, ℕ, ◌<◌, ◌≤◌, true, false, get_or, length, vec_capacity}
use Rattle.std.specs.Slots.{slots_items, slots_filled, slots_len}
use Rattle.av1_frame.specs.AtHome.{Gathered}
use Rattle.av1_frame.proofs.steps.gather.Given as goal

-- The first i slots are emptied and gathered, and the others are still full.
abbrev pub invariant-loop-i : goal.invariant-loop-i
invariant-loop-i g l = record {
  left : (k : ℕ) → l.i ≤ k → k < l.count → get_or (slots_filled l.closed.slots) k false ≡ true;
  emptied : (k : ℕ) → k < l.i → get_or (slots_filled l.closed.slots) k false ≡ false;
  same_words : l.closed.words ≡ l.initial.closed.words;
  same_items : slots_items l.closed.slots ≡ slots_items l.initial.closed.slots;
  same_len : slots_len l.closed.slots ≡ l.count;
  long : length l.results.items ≡ l.i;
  room : l.count ≤ vec_capacity l.results;
  each : Gathered (slots_items l.initial.closed.words) (slots_items l.initial.closed.slots) l.results.items;
}
