-- A number's digits, one after another.
use Rattle.std.proofs.Common.{◌≡◌, ◌≤◌, ◌<◌, ℕ, zero, suc, length, drop, ◌+◌, ◌-◌, ◌*◌, List, [], ◌∷◌, Bool, true, false, cond, None, refl, arith}
use Rattle.av1_rec.specs.Fields.{tag, is_digit, digits}

-- Reading more digits never makes a number smaller.
pub digits_grow : (text : List ℕ) (value : ℕ) → value ≤ (digits value text).0
unfolding digits
digits_grow [] value = omega arith
digits_grow (c ∷ cs) value = choose (is_digit c) (digits_grow cs (value * 10 + (c - 48)))
  where
    choose : (b : Bool) → value * 10 + (c - 48) ≤ (digits (value * 10 + (c - 48)) cs).0 → value ≤ (cond b (digits (value * 10 + (c - 48)) cs) (value, c ∷ cs)).0
    choose true h = omega arith
    choose false h = omega arith

-- A digit at the front is read behind the number so far.
pub digits_step : (value c : ℕ) (cs : List ℕ) → is_digit c ≡ true → digits value (c ∷ cs) ≡ digits (value * 10 + (c - 48)) cs
unfolding digits
digits_step value c cs e = rw e refl

-- A byte that isn't a digit ends the number.
pub digits_stop : (value c : ℕ) (cs : List ℕ) → is_digit c ≡ false → digits value (c ∷ cs) ≡ (value, c ∷ cs)
unfolding digits
digits_stop value c cs e = rw e refl

-- The end of the text ends the number.
pub digits_none : (value : ℕ) → digits value [] ≡ (value, [])
unfolding digits
digits_none value = refl

pub ruleset digit_steps = (digits_grow, digits_step, digits_stop, digits_none)

-- A word isn't found in a text that ends inside the word.
pub tag_short : (word : List ℕ) (i : ℕ) → i < length word → tag (drop i word) [] ≡ None
tag_short [] i lt = absurd (omega arith)
tag_short (w ∷ ws) zero lt = refl
tag_short (w ∷ ws) (suc i) lt = tag_short ws i (omega arith)
