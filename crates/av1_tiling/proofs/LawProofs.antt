-- The laws of every tiling.
use Rattle.std.proofs.Common.{◌≡◌, ℕ, suc, ◌+◌, ◌-◌, ◌*◌, ◌/◌, ◌^◌, ◌<◌, ◌≤◌, ◌⊎◌, inl, inr, min, refl, sym, ap, ◌∙◌, subst, arith}
use Rattle.std.specs.Int.{div_ceil}
use Rattle.std.proofs.lemmas.Bool.{cases_lt}
use Rattle.std.proofs.lemmas.Nat.{pow_pos}
use Rattle.std.proofs.Math.Nat.{mul-le-mul_right, mul_comm, mul_assoc, pow-suc, pow-le-pow_right}
use Rattle.av1_tiling.specs.Least.{IsTileLog2}
use Rattle.av1_tiling.specs.Grid.{round_up, max_count_log2}
use Rattle.av1_tiling.specs.Laws.{FitsUnits, CutsPlanes, CutsBlocks, CutsMotion, CutsUnits, CountsByLog2}
use Rattle.av1_plane.specs.declared.tile_rect.TileRect.{TileRect}
use Rattle.av1_tiling.specs.Partition.{Partitions}
use Rattle.av1_tiling.specs.TileRects.{superblock_side, superblock_columns, superblock_rows, tile_superblock, tile_blocks, tile_motion, block_columns, block_rows}
use Rattle.av1_tiling.specs.declared.tiling_info.TilingInfo.{TilingInfo}
use Rattle.av1_tiling.proofs.LeastFacts.{tile_log2-from, tile_log2_is}
use Rattle.av1_tiling.proofs.GridFacts.{parts_hold, div_ceil-pos, shifted-one, max_count_log2-le}
use Rattle.av1_tiling.proofs.Quotients.{div_ceil-le_of}
use Rattle.av1_tiling.proofs.Cuts.{IsCut, table_cut}
use Rattle.av1_tiling.proofs.TileCuts.{sample_cut, block_cut, unit_cut}
use Rattle.av1_tiling.proofs.TilingFacts.{IsTiling}

-- a superblock's side is whole in samples of each plane, and in blocks
pub record Divides (s : ℕ) : Type 0 where
  pub plane : (dec : ℕ) → dec ≤ 1 → (2 ^ s / 2 ^ dec * 2 ^ dec ≡ 2 ^ s) × (0 < 2 ^ s / 2 ^ dec)
  pub block : (2 ^ s / 4 * 4 ≡ 2 ^ s) × (0 < 2 ^ s / 4)

-- A decimation is 0 or 1.
shift_cases : (dec : ℕ) → dec ≤ 1 → (dec ≡ 0) ⊎ (dec ≡ 1)
shift_cases dec l = grind arith

-- an even number is whole in samples of each plane
even_whole : (n dec : ℕ) → (n / 2 * 2 ≡ n) × (0 < n / 2) → (dec ≡ 0) ⊎ (dec ≡ 1) → (n / 2 ^ dec * 2 ^ dec ≡ n) × (0 < n / 2 ^ dec)
even_whole n dec even (inl e) = subst (λ (x : ℕ). (n / 2 ^ x * 2 ^ x ≡ n) × (0 < n / 2 ^ x)) (sym e) (let h = even.0 in let some = even.1 in (omega arith, omega arith))
even_whole n dec even (inr e) = subst (λ (x : ℕ). (n / 2 ^ x * 2 ^ x ≡ n) × (0 < n / 2 ^ x)) (sym e) even

-- A superblock of either side has whole blocks.
divides : (s : ℕ) → (s ≡ 6) ⊎ (s ≡ 7) → Divides s
divides s (inl e) = subst Divides (sym e) (record { plane = λ dec l. even_whole 64 dec (refl, omega arith) (shift_cases dec l); block = (refl, omega arith) })
divides s (inr e) = subst Divides (sym e) (record { plane = λ dec l. even_whole 128 dec (refl, omega arith) (shift_cases dec l); block = (refl, omega arith) })

-- The tiles of a tiling are at least one superblock high.
pub tile_high-pos : (t : TilingInfo) → IsTiling t → 0 < t.tile_height_sb
tile_high-pos t h = subst (λ (x : ℕ). 0 < x) (sym h.tile_high) (div_ceil-pos (superblock_rows t) (2 ^ t.tile_rows_log2) (div_ceil-pos t.frame_height (superblock_side t) h.high.0 (pow_pos t.sb_size_log2)) (pow_pos t.tile_rows_log2))

-- A tiling has at least one column of tiles.
pub cols-pos : (t : TilingInfo) → IsTiling t → 0 < t.cols
cols-pos t h = subst (λ (x : ℕ). 0 < x) (sym h.cols) (div_ceil-pos (superblock_columns t) t.tile_width_sb (div_ceil-pos t.frame_width (superblock_side t) h.wide.0 (pow_pos t.sb_size_log2)) h.tile_wide)

-- A tiling has at least one row of tiles.
pub rows-pos : (t : TilingInfo) → IsTiling t → 0 < t.rows
rows-pos t h = subst (λ (x : ℕ). 0 < x) (sym h.rows) (div_ceil-pos (superblock_rows t) t.tile_height_sb (div_ceil-pos t.frame_height (superblock_side t) h.high.0 (pow_pos t.sb_size_log2)) (tile_high-pos t h))

-- The tiles of a tiling cut each plane into parts.
pub cuts_planes : (t : TilingInfo) → IsTiling t → CutsPlanes t
cuts_planes t h xdec ydec lx ly =
    let side = superblock_side t in
    let d = divides t.sb_size_log2 h.side in
    let x = d.plane xdec lx in
    let y = d.plane ydec ly in
    table_cut (λ i. i * t.tile_width_sb * side / 2 ^ xdec) (λ i. round_up (min (t.tile_width_sb * side) (t.frame_width - i * t.tile_width_sb * side)) side / 2 ^ xdec)
    (λ i. i * t.tile_height_sb * side / 2 ^ ydec) (λ i. round_up (min (t.tile_height_sb * side) (t.frame_height - i * t.tile_height_sb * side)) side / 2 ^ ydec)
    t.cols t.rows (superblock_columns t * side / 2 ^ xdec) (superblock_rows t * side / 2 ^ ydec) (cols-pos t h)
    (subst (λ (n : ℕ). IsCut (λ i. i * t.tile_width_sb * side / 2 ^ xdec) (λ i. round_up (min (t.tile_width_sb * side) (t.frame_width - i * t.tile_width_sb * side)) side / 2 ^ xdec) n (superblock_columns t * side / 2 ^ xdec)) (sym h.cols)
    (sample_cut t.tile_width_sb t.frame_width side (side / 2 ^ xdec) (2 ^ xdec) h.tile_wide x.1 x.0 (pow_pos xdec)))
    (subst (λ (n : ℕ). IsCut (λ i. i * t.tile_height_sb * side / 2 ^ ydec) (λ i. round_up (min (t.tile_height_sb * side) (t.frame_height - i * t.tile_height_sb * side)) side / 2 ^ ydec) n (superblock_rows t * side / 2 ^ ydec)) (sym h.rows)
    (sample_cut t.tile_height_sb t.frame_height side (side / 2 ^ ydec) (2 ^ ydec) (tile_high-pos t h) y.1 y.0 (pow_pos ydec)))

-- along one side: the blocks of tiles of w superblocks
block_line : (w frame side tiles : ℕ) → 0 < w → (side / 4 * 4 ≡ side) × (0 < side / 4) → tiles ≡ div_ceil (div_ceil frame side) w
    → IsCut (λ i. i * w * (side / 4)) (λ i. min (w * (side / 4)) (frame / 4 - i * w * (side / 4))) tiles (frame / 4)
block_line w frame side tiles some whole e =
    subst (λ (n : ℕ). IsCut (λ i. i * w * (side / 4)) (λ i. min (w * (side / 4)) (frame / 4 - i * w * (side / 4))) n (frame / 4))
    (ap (λ (x : ℕ). div_ceil (div_ceil frame x) w) whole.0 ∙ sym e) (block_cut w frame (side / 4) some whole.1)

-- The tiles of a tiling cut the table of blocks into parts.
pub cuts_blocks : (t : TilingInfo) → IsTiling t → CutsBlocks t
cuts_blocks t h =
    let side = superblock_side t in
    let whole = (divides t.sb_size_log2 h.side).block in
    table_cut (λ i. i * t.tile_width_sb * (side / 4)) (λ i. min (t.tile_width_sb * (side / 4)) (block_columns t - i * t.tile_width_sb * (side / 4)))
    (λ i. i * t.tile_height_sb * (side / 4)) (λ i. min (t.tile_height_sb * (side / 4)) (block_rows t - i * t.tile_height_sb * (side / 4)))
    t.cols t.rows (block_columns t) (block_rows t) (cols-pos t h)
    (block_line t.tile_width_sb t.frame_width side t.cols h.tile_wide whole h.cols)
    (block_line t.tile_height_sb t.frame_height side t.rows (tile_high-pos t h) whole h.rows)

-- a quarter of a tile's side is the tile's side in blocks
quarter : (w frame x s : ℕ) → (s ≡ 6) ⊎ (s ≡ 7) → min (w * 2 ^ s) (frame - x * 2 ^ s) / 4 ≡ min (w * (2 ^ s / 4)) (frame / 4 - x * (2 ^ s / 4))
quarter w frame x s (inl e) = subst (λ (k : ℕ). min (w * 2 ^ k) (frame - x * 2 ^ k) / 4 ≡ min (w * (2 ^ k / 4)) (frame / 4 - x * (2 ^ k / 4))) (sym e) (omega arith)
quarter w frame x s (inr e) = subst (λ (k : ℕ). min (w * 2 ^ k) (frame - x * 2 ^ k) / 4 ≡ min (w * (2 ^ k / 4)) (frame / 4 - x * (2 ^ k / 4))) (sym e) (omega arith)

-- a tile's motion records stand at the places of its blocks
pub motion_is_blocks : (t : TilingInfo) → IsTiling t → (n : ℕ) → tile_motion t n ≡ tile_blocks t n
motion_is_blocks t h n =
    let width = quarter t.tile_width_sb t.frame_width (tile_superblock t n).0 t.sb_size_log2 h.side in
    let height = quarter t.tile_height_sb t.frame_height (tile_superblock t n).1 t.sb_size_log2 h.side in
    λ i. record { x = (tile_blocks t n).x; y = (tile_blocks t n).y; width = width i; height = height i }

-- The tiles of a tiling cut each table of motion records into parts.
pub cuts_motion : (t : TilingInfo) → IsTiling t → CutsMotion t
cuts_motion t h =
    subst (λ (rect : ℕ → TileRect). Partitions rect (t.cols * t.rows) (block_columns t) (block_rows t)) (λ i n. sym (motion_is_blocks t h n) i) (cuts_blocks t h)

-- along one side: the units of tiles of w of n superblocks
unit_line : (shift units w n tiles : ℕ) → 0 < w → tiles ≡ div_ceil n w → FitsUnits shift units tiles w n
    → IsCut (λ i. min (i * w / 2 ^ shift) units) (λ i. min (div_ceil (min w (n - i * w)) (2 ^ shift)) (units - min (i * w / 2 ^ shift) units)) tiles units
unit_line shift units w n tiles some e fits =
    subst (λ (x : ℕ). IsCut (λ i. min (i * w / 2 ^ shift) units) (λ i. min (div_ceil (min w (n - i * w)) (2 ^ shift)) (units - min (i * w / 2 ^ shift) units)) x units) (sym e)
    (unit_cut shift units w n some (subst (λ (x : ℕ). FitsUnits shift units x w n) e fits))

-- The tiles of a tiling cut a table of restoration units that fits them into parts.
pub cuts_units : (t : TilingInfo) → IsTiling t → CutsUnits t
cuts_units t h h_shift v_shift columns rows fits_x fits_y =
    let w = t.tile_width_sb in
    let v = t.tile_height_sb in
    table_cut (λ i. min (i * w / 2 ^ h_shift) columns) (λ i. min (div_ceil (min w (superblock_columns t - i * w)) (2 ^ h_shift)) (columns - min (i * w / 2 ^ h_shift) columns))
    (λ i. min (i * v / 2 ^ v_shift) rows) (λ i. min (div_ceil (min v (superblock_rows t - i * v)) (2 ^ v_shift)) (rows - min (i * v / 2 ^ v_shift) rows))
    t.cols t.rows columns rows (cols-pos t h)
    (unit_line h_shift columns w (superblock_columns t) t.cols h.tile_wide h.cols fits_x)
    (unit_line v_shift rows v (superblock_rows t) t.rows (tile_high-pos t h) h.rows fits_y)

-- 2 ^ r parts of h cover n, and half as many do not: so the parts number more than half
half_is_few : (n h p r : ℕ) → 0 < h → 2 * p ≤ r → h * r < n + r → p < n → (p < div_ceil n h) ⊎ (div_ceil n h ≤ p) → p < div_ceil n h
half_is_few n h p r some half bound many (inl l) = l
half_is_few n h p r some half bound many (inr few) = absurd (one_or_more (cases_lt 1 h))
  where
    covered : n ≤ p * h
    covered = let held = (parts_hold n h some).0 in let more : div_ceil n h * h ≤ p * h = mul-le-mul_right h few in omega arith

    doubled : 2 * p * h ≤ r * h
    doubled = mul-le-mul_right h half

    turned : r * h ≡ h * r
    turned = mul_comm r h

    one_or_more : (1 < h) ⊎ (h ≤ 1) → ⊥
    one_or_more (inl two) = let twice : 2 * r ≤ h * r = mul-le-mul_right r two in let a = covered in let b = doubled in let c = turned in let d = mul_assoc 2 p h in omega arith
    one_or_more (inr lone) = let e : h ≡ 1 = omega arith in let all : n ≤ p * 1 = subst (λ (x : ℕ). n ≤ p * x) e covered in omega arith

-- below the logarithm there are too few parts
pub rows_log2_is : (n r : ℕ) → 0 < n → r ≤ max_count_log2 n → IsTileLog2 1 (div_ceil n (div_ceil n (2 ^ r))) r
rows_log2_is n r some most = record {
  below = below;
  reaches = subst (λ (x : ℕ). div_ceil n h ≤ x) (sym (shifted-one r below))
      (div_ceil-le_of n h (2 ^ r) some_h (let held = (parts_hold n (2 ^ r) (pow_pos r)).0 in let turned = mul_comm h (2 ^ r) in omega arith));
  least = λ j l. subst (λ (x : ℕ). x < div_ceil n h) (sym (shifted-one j (let b = below in omega arith)))
      (half_is_few n h (2 ^ j) (2 ^ r) some_h (doubled j l) (parts_hold n (2 ^ r) (pow_pos r)).1 (fewer j l) (cases_lt (2 ^ j) (div_ceil n h)));
}
  where
    h : ℕ
    h = div_ceil n (2 ^ r)

    limit : max_count_log2 n ≤ 6
    limit = max_count_log2-le n

    below : r < 64
    below = let l = limit in omega arith

    some_h : 0 < div_ceil n (2 ^ r)
    some_h = div_ceil-pos n (2 ^ r) some (pow_pos r)

    doubled : (j : ℕ) → j < r → 2 * 2 ^ j ≤ 2 ^ r
    doubled j l =
        let more : 2 ^ suc j ≤ 2 ^ r = pow-le-pow_right (omega arith) (omega arith) in
        let step = pow-suc 2 j in
        omega arith

    fewer : (j : ℕ) → j < r → 2 ^ j < n
    fewer j l =
        let m = limit in
        let short = (tile_log2_is 1 (min n 64) (omega arith)).least j (omega arith) in
        let power = shifted-one j (omega arith) in
        omega arith

-- A tiling's logarithms are those of its numbers of columns and rows.
pub counts_by_log2 : (t : TilingInfo) → IsTiling t → CountsByLog2 t
counts_by_log2 t h = (sym h.cols_log2, sym (tile_log2-from 1 t.rows t.tile_rows_log2 rows))
  where
    some : 0 < superblock_rows t
    some = div_ceil-pos t.frame_height (superblock_side t) h.high.0 (pow_pos t.sb_size_log2)

    rows : IsTileLog2 1 t.rows t.tile_rows_log2
    rows = subst (λ (x : ℕ). IsTileLog2 1 x t.tile_rows_log2) (sym (h.rows ∙ ap (div_ceil (superblock_rows t)) h.tile_high)) (rows_log2_is (superblock_rows t) t.tile_rows_log2 some h.rows_log2)

-- a tiling has at most 64 rows
pub rows-le : (t : TilingInfo) → IsTiling t → t.rows ≤ 64
rows-le t h =
    let some = div_ceil-pos t.frame_height (superblock_side t) h.high.0 (pow_pos t.sb_size_log2) in
    let is = rows_log2_is (superblock_rows t) t.tile_rows_log2 some h.rows_log2 in
    let reaches : div_ceil (superblock_rows t) (div_ceil (superblock_rows t) (2 ^ t.tile_rows_log2)) ≤ 2 ^ t.tile_rows_log2 =
    subst (λ (x : ℕ). div_ceil (superblock_rows t) (div_ceil (superblock_rows t) (2 ^ t.tile_rows_log2)) ≤ x) (shifted-one t.tile_rows_log2 is.below) is.reaches in
    let limit = max_count_log2-le (superblock_rows t) in
    let few = h.rows_log2 in
    let low : t.tile_rows_log2 ≤ 6 = omega arith in
    let power : 2 ^ t.tile_rows_log2 ≤ 2 ^ 6 = pow-le-pow_right (omega arith) low in
    let count : t.rows ≡ div_ceil (superblock_rows t) (div_ceil (superblock_rows t) (2 ^ t.tile_rows_log2)) = h.rows ∙ ap (div_ceil (superblock_rows t)) h.tile_high in
    omega arith
