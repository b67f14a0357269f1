-- The sample type of a depth holds the samples of the depth and of its number of digits.
use Rattle.std.proofs.Common.{◌≡◌, ℕ, ◌^◌, ◌≤◌, inl, inr, ltb, lit≤, refl, sym, subst}
use Rattle.av1_tiling.specs.Frames.{FitsDepth}
use Rattle.av1_rec.specs.Header.{IsSampleDepth}
use Rattle.av1_rec.specs.Tile.{digit_limit}

-- the samples of a depth are in the range of the sample type
pub few_samples : (limit d : ℕ) → FitsDepth limit d → 2 ^ d ≤ limit
few_samples limit d (inl h) = subst (λ (x : ℕ). 2 ^ x ≤ limit) (sym h.0) (subst (λ (l : ℕ). 2 ^ 8 ≤ l) (sym h.1) (lit≤ tt))
few_samples limit d (inr (inl e, l)) = subst (λ (x : ℕ). 2 ^ x ≤ limit) (sym e) (subst (λ (l : ℕ). 2 ^ 10 ≤ l) (sym l) (lit≤ tt))
few_samples limit d (inr (inr e, l)) = subst (λ (x : ℕ). 2 ^ x ≤ limit) (sym e) (subst (λ (l : ℕ). 2 ^ 12 ≤ l) (sym l) (lit≤ tt))

-- the samples of a depth's number of digits are in the range of the sample type
pub few_digits : (limit d : ℕ) → FitsDepth limit d → digit_limit (ltb 8 d) ≤ limit
few_digits limit d (inl h) = subst (λ (x : ℕ). digit_limit (ltb 8 x) ≤ limit) (sym h.0) (subst (λ (l : ℕ). 256 ≤ l) (sym h.1) (lit≤ tt))
few_digits limit d (inr (inl e, l)) = subst (λ (x : ℕ). digit_limit (ltb 8 x) ≤ limit) (sym e) (subst (λ (l : ℕ). 65536 ≤ l) (sym l) (lit≤ tt))
few_digits limit d (inr (inr e, l)) = subst (λ (x : ℕ). digit_limit (ltb 8 x) ≤ limit) (sym e) (subst (λ (l : ℕ). 65536 ≤ l) (sym l) (lit≤ tt))

-- 8 bits fit into bytes
pub narrow_depth : (d : ℕ) → d ≡ 8 → FitsDepth 256 d
narrow_depth d e = inl (e, refl)

-- other depths fit into words
pub wide_depth : (d : ℕ) → IsSampleDepth d → (d ≡ 8 → ⊥) → FitsDepth 65536 d
wide_depth d (inl e) other = absurd (other e)
wide_depth d (inr (inl e)) other = inr (inl e, refl)
wide_depth d (inr (inr e)) other = inr (inr e, refl)

pub ruleset depths = (few_samples, few_digits, narrow_depth, wide_depth)
