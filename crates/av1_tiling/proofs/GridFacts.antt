-- Numbers of tiles and of superblocks.
use Rattle.std.proofs.Common.{◌≡◌, ℕ, ◌+◌, ◌*◌, ◌/◌, ◌%◌, ◌^◌, ◌<◌, ◌≤◌, ◌⊎◌, inl, inr, min, leb, sym, subst, arith}
use Rattle.std.specs.Int.{div_ceil}
use Rattle.std.proofs.lemmas.Nat.{one_shl, pow_below, div-add-mod'}
use Rattle.std.proofs.lemmas.Bool.{cases_lt, le-leb, lt-leb}
use Rattle.std.proofs.lemmas.Grind.{div_ceil_times, common_steps}
use Rattle.std.proofs.Math.Nat.{mul-le-mul_right, le-mul_of_pos_right}
use Rattle.av1_tiling.specs.Least.{tile_log2, shifted, IsTileLog2}
use Rattle.av1_tiling.specs.Grid.{rate_log2, min_cols_log2, max_count_log2}
use Rattle.av1_tiling.proofs.LeastFacts.{least-from, tile_log2-le, tile_log2_is}

-- a shift of 1 within 64 bits is a power
pub shifted-one : (k : ℕ) → k < 64 → shifted 1 k ≡ 2 ^ k
shifted-one k h = one_shl k 64 h

-- n parts of size d hold r, where n is r / d rounded up
pub parts_hold : (r d : ℕ) → 0 < d → (r ≤ div_ceil r d * d) × (div_ceil r d * d < r + d)
parts_hold r d h = div_ceil_times r d h

-- fewer parts than the rounded quotient don't hold the whole
pub fewer_do_not : (r d n : ℕ) → 0 < d → n < div_ceil r d → n * d < r
fewer_do_not r d n h l =
    let held = parts_hold r d h in
    let more : (n + 1) * d ≤ div_ceil r d * d = mul-le-mul_right d (omega arith) in
    let split : (n + 1) * d ≡ n * d + d = omega arith in
    omega arith

-- the least shift of 1 that reaches the rounded quotient is that of the rate
pub rate_log2-from : (samples num den k : ℕ) → 0 < den → IsTileLog2 1 (div_ceil (samples * num) (588251136 * den)) k → k ≡ rate_log2 samples num den
unfolding rate_log2
rate_log2-from samples num den k h least_k =
    let r = samples * num in
    let d = 588251136 * den in
    let positive : 0 < d = omega arith in
    let reach : div_ceil r d * d ≤ 2 ^ k * d = mul-le-mul_right d (subst (λ (x : ℕ). div_ceil r d ≤ x) (shifted-one k least_k.below) least_k.reaches) in
    let held = parts_hold r d positive in
    sym (least-from (λ j. leb r (2 ^ j * d)) 64 k (record {
      within = let below = least_k.below in omega arith;
      passes = λ _. le-leb r (2 ^ k * d) (omega arith);
      fails = λ j l. lt-leb r (2 ^ j * d) (fewer_do_not r d (2 ^ j) positive (
          subst (λ (x : ℕ). x < div_ceil r d) (shifted-one j (let below = least_k.below in omega arith)) (least_k.least j l)));
    }))

-- a superblock's side is 64 or 128
pub side_cases : (s : ℕ) → 6 ≤ s → s ≤ 7 → (s ≡ 6) ⊎ (s ≡ 7)
side_cases s low high = grind arith

-- the greatest width and area of a tile in superblocks
pub record BlockSizes (s : ℕ) : Type 0 where
  pub width : (0 < 4096 / 2 ^ s) × (4096 / 2 ^ s < 2 ^ 24)
  pub area : (0 < 4096 * 2304 / 2 ^ (2 * s)) × (4096 * 2304 / 2 ^ (2 * s) < 2 ^ 24)

-- The limits on superblocks hold for both sides that a superblock may have.
block_sizes_of : (s : ℕ) → (s ≡ 6) ⊎ (s ≡ 7) → BlockSizes s
block_sizes_of s (inl e) = subst BlockSizes (sym e) (record { width = (omega arith, omega arith); area = (omega arith, omega arith) })
block_sizes_of s (inr e) = subst BlockSizes (sym e) (record { width = (omega arith, omega arith); area = (omega arith, omega arith) })

-- The limits on superblocks hold for a side of 2^6 or 2^7.
pub block_sizes : (s : ℕ) → 6 ≤ s → s ≤ 7 → BlockSizes s
block_sizes s low high = block_sizes_of s (side_cases s low high)

-- a frame has at most 2^6 columns or rows of tiles
pub max_count_log2-le : (n : ℕ) → max_count_log2 n ≤ 6
max_count_log2-le n = tile_log2-le 1 (min n 64) 6 (omega arith)

-- the least columns are no more than the most
reaches_more : (n m : ℕ) → 32 < n → IsTileLog2 1 n m → (m < 5) ⊎ (5 ≤ m) → 5 ≤ m
reaches_more n m more h (inl l) =
    let reaches = subst (λ (x : ℕ). n ≤ x) (shifted-one m h.below) h.reaches in
    let small : 2 ^ m < 2 ^ 5 = pow_below m 5 l in
    absurd (omega arith)
reaches_more n m more h (inr g) = g

-- An alternative holds the other way round.
turned : {A B : Type 0} → A ⊎ B → B ⊎ A
turned (inl a) = inr a
turned (inr b) = inl b

-- A frame needs no more columns of tiles than it may have, whether or not it fits in one.
wide_or_not : (size n : ℕ) → 32 ≤ size → size ≤ 64 → n ≤ 1024 → (n ≤ size) ⊎ (size < n) → tile_log2 size n ≤ max_count_log2 n
wide_or_not size n low high few (inl l) = let least = tile_log2-le size n 0 (omega arith) in omega arith
wide_or_not size n low high few (inr g) =
    let least = tile_log2-le size n 5 (omega arith) in
    let le = max_count_log2-le n in
    let most = reaches_more (min n 64) (max_count_log2 n) (omega arith) (tile_log2_is 1 (min n 64) (omega arith)) (cases_lt (max_count_log2 n) 5) in
    omega arith

-- The widest tile has 32 to 64 superblocks.
tile_widths : (s : ℕ) → (s ≡ 6) ⊎ (s ≡ 7) → (32 ≤ 4096 / 2 ^ s) × (4096 / 2 ^ s ≤ 64)
tile_widths s (inl e) = subst (λ (x : ℕ). (32 ≤ 4096 / 2 ^ x) × (4096 / 2 ^ x ≤ 64)) (sym e) (omega arith, omega arith)
tile_widths s (inr e) = subst (λ (x : ℕ). (32 ≤ 4096 / 2 ^ x) × (4096 / 2 ^ x ≤ 64)) (sym e) (omega arith, omega arith)

-- The fewest columns that a frame needs are no more than it may have.
pub min_cols_log2-le : (s n : ℕ) → 6 ≤ s → s ≤ 7 → n ≤ 1024 → min_cols_log2 s n ≤ max_count_log2 n
min_cols_log2-le s n low high few =
    let size = tile_widths s (side_cases s low high) in
    wide_or_not (4096 / 2 ^ s) n size.0 size.1 few (turned (cases_lt (4096 / 2 ^ s) n))

-- a quotient rounded up is no more than what is divided, and is not 0
pub div_ceil-le : (n d : ℕ) → 0 < d → div_ceil n d ≤ n
div_ceil-le n d h =
    let split : n / d * d + n % d ≡ n = div-add-mod' n d in
    let whole : n / d ≤ n / d * d = le-mul_of_pos_right (n / d) h in
    omega arith

-- A quotient that is rounded up is positive where both numbers are.
pub div_ceil-pos : (n d : ℕ) → 0 < n → 0 < d → 0 < div_ceil n d
div_ceil-pos n d some h = grind (arith, common_steps)

-- A frame's side has at most 1024 superblocks.
sb_count : (s side : ℕ) → (s ≡ 6) ⊎ (s ≡ 7) → side ≤ 65536 → div_ceil side (2 ^ s) ≤ 1024
sb_count s side (inl e) most = subst (λ (x : ℕ). div_ceil side (2 ^ x) ≤ 1024) (sym e) (omega arith)
sb_count s side (inr e) most = subst (λ (x : ℕ). div_ceil side (2 ^ x) ≤ 1024) (sym e) (omega arith)

-- a frame has at most 1024 columns and rows of superblocks
pub div_ceil_side-le : (s side : ℕ) → 6 ≤ s → s ≤ 7 → side ≤ 65536 → div_ceil side (2 ^ s) ≤ 1024
div_ceil_side-le s side low high most = sb_count s side (side_cases s low high) most
