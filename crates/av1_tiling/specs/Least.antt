-- The least number that passes a test, and the least shift by which a block size reaches a target
-- (AV1 specification, section 5.9.16).
use Rattle.std.specs.Prelude.{ℕ, zero, suc, Bool, ◌*◌, ◌^◌, ◌%◌, ◌<◌, ◌≤◌, nat_le, if◌then◌else◌}

-- the least number below n that passes a test, or n where none does
unfoldable pub least : (ℕ → Bool) → ℕ → ℕ
least p zero = zero
least p (suc n) = let k = least p n in if p k then k else suc n

-- a block size shifted left by k, the bits past 64 lost
abbrev pub shifted : ℕ → ℕ → ℕ
shifted size k = size * 2 ^ k % 2 ^ 64

-- the least k below 64 by which the size reaches the target, or 64 where there is none
unfoldable pub tile_log2 : ℕ → ℕ → ℕ
tile_log2 size target = least (λ k. nat_le target (shifted size k)) 64

-- k is the least shift by which a block size reaches the target, or 64
pub record IsTileLog2 (size target k : ℕ) : Type 0 where
  pub below : k < 64
  pub reaches : target ≤ shifted size k
  pub least : (j : ℕ) → j < k → shifted size j < target
