-- The two passes of the self-guided filter, joined.
use Rattle.std.proofs.Common.{◌≡◌, ℕ, ℤ, pos, ◌+◌, ◌-◌, ◌*◌, ◌+ℤ◌, ◌*ℤ◌, ◌≤ℤ◌, List, refl, ◌∙◌, ap, arith, Bool, ◌/◌, ◌%◌}
use Rattle.std.specs.Prelude.{unsigned_abs, ◌==◌}
use Rattle.av1_lrf.specs.Rows.{sample}
use Rattle.av1_lrf.specs.declared.mix.Mix.{Mix}
use Rattle.av1_lrf.specs.Sums.{round2}
use Rattle.av1_lrf.specs.Wiener.{reduced}
use Rattle.av1_lrf.specs.Taps.{rounding_of}
use Rattle.av1_lrf.specs.Guides.{mixed, guided_sample, pass_result}
use Rattle.av1_lrf.proofs.Products.{limited_low, limited_high}

-- three products, rounded and limited, are the mix
pub mixed_made : (m : Mix) (f2 v f1 : ℕ) (p q r : ℤ) → p ≡ m.w0 *ℤ pos f2 → q ≡ m.w1 *ℤ pos (v * 16) → r ≡ m.w2 *ℤ pos f1 → reduced (rounding_of m.limits) (p +ℤ q +ℤ r) ≡ mixed m f2 v f1
unfolding mixed
mixed_made m f2 v f1 p q r ep eq er = rw (ep, eq, er) refl

-- a joined sample is no lower than the limit
mixed_low : (m : Mix) (f2 v f1 : ℕ) → m.limits.low ≤ℤ mixed m f2 v f1
unfolding mixed
mixed_low m f2 v f1 = limited_low m.limits.low m.limits.high (round2 (m.w0 *ℤ pos f2 +ℤ m.w1 *ℤ pos (v * 16) +ℤ m.w2 *ℤ pos f1) m.limits.bits)

-- a mix is at most its upper limit
mixed_high : (m : Mix) (f2 v f1 : ℕ) → m.limits.low ≤ℤ m.limits.high → mixed m f2 v f1 ≤ℤ m.limits.high
unfolding mixed
mixed_high m f2 v f1 h = limited_high m.limits.low m.limits.high (round2 (m.w0 *ℤ pos f2 +ℤ m.w1 *ℤ pos (v * 16) +ℤ m.w2 *ℤ pos f1) m.limits.bits) h

-- a guided sample is no lower than the limit
pub finished_low : (m : Mix) (odd : Bool) (a2 b2 a1 b1 : List ℕ) (p q v : ℕ) → m.limits.low ≤ℤ guided_sample m odd a2 b2 a1 b1 p q v
unfolding guided_sample
finished_low m odd a2 b2 a1 b1 p q v = mixed_low m _ v _

-- a guided sample is at most its upper limit
pub finished_high : (m : Mix) (odd : Bool) (a2 b2 a1 b1 : List ℕ) (p q v : ℕ) → m.limits.low ≤ℤ m.limits.high → guided_sample m odd a2 b2 a1 b1 p q v ≤ℤ m.limits.high
unfolding guided_sample
finished_high m odd a2 b2 a1 b1 p q v h = mixed_high m _ v _ h

-- a sample of row j of a part, by its place in the picture
pub finished_at : (m : Mix) (a2 b2 a1 b1 : List ℕ) (xs : List ℤ) (from stride x y i j : ℕ) →
    guided_sample m (j % 2 == 1) a2 b2 a1 b1 (j / 2 * 66 + i) (j * 66 + i) (unsigned_abs (sample xs (from + (y + j) * stride + x + i)))
    ≡ guided_sample m ((y + j - y) % 2 == 1) a2 b2 a1 b1 ((y + j - y) / 2 * 66 + (x + i - x)) ((y + j - y) * 66 + (x + i - x)) (unsigned_abs (sample xs (from + (y + j) * stride + (x + i))))
finished_at m a2 b2 a1 b1 xs from stride x y i j =
    let row : j ≡ y + j - y = omega arith in
    let col : i ≡ x + i - x = omega arith in
    let place : from + (y + j) * stride + x + i ≡ from + (y + j) * stride + (x + i) = omega arith in
    ap (λ (k : ℕ). guided_sample m (j % 2 == 1) a2 b2 a1 b1 (j / 2 * 66 + i) (j * 66 + i) (unsigned_abs (sample xs k))) place
    ∙ ap (λ (k : ℕ). guided_sample m (k % 2 == 1) a2 b2 a1 b1 (k / 2 * 66 + i) (k * 66 + i) (unsigned_abs (sample xs (from + (y + j) * stride + (x + i))))) row
    ∙ ap (λ (k : ℕ). guided_sample m ((y + j - y) % 2 == 1) a2 b2 a1 b1 ((y + j - y) / 2 * 66 + k) ((y + j - y) * 66 + k) (unsigned_abs (sample xs (from + (y + j) * stride + (x + i))))) col

-- a first pass of strength 0 reads no cells
pub finished_without_strong : (m : Mix) (odd : Bool) (a2 b2 c2 d2 a1 b1 : List ℕ) (p q v : ℕ) → m.strong ≡ 0 → guided_sample m odd a2 b2 a1 b1 p q v ≡ guided_sample m odd c2 d2 a1 b1 p q v
unfolding guided_sample pass_result
finished_without_strong m odd a2 b2 c2 d2 a1 b1 p q v e = rw e refl

-- a second pass without a weight changes nothing
pub finished_without_weak : (m : Mix) (odd : Bool) (a2 b2 a1 b1 c1 d1 : List ℕ) (p q v : ℕ) → m.weak ≡ 0 → guided_sample m odd a2 b2 a1 b1 p q v ≡ guided_sample m odd a2 b2 c1 d1 p q v
unfolding guided_sample pass_result
finished_without_weak m odd a2 b2 a1 b1 c1 d1 p q v e = rw e refl
