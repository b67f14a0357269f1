-- The stripes of a plane.
use Rattle.std.proofs.Common.{◌≡◌, ℕ, ◌+◌, ◌-◌, ◌*◌, ◌/◌, ◌<◌, ◌≤◌, ◌^◌, ap, sym, ◌∙◌, arith, lit≤}
use Rattle.std.proofs.lemmas.Nat.{mul-le, div-mul-add}
use Rattle.std.proofs.Math.Nat.{le-div_iff_mul-le}
use Rattle.std.proofs.lemmas.Bool.Decides.{nat_tests}
use Rattle.av1_lrf.specs.Rows.{Picture, stripe_height, stripe_offset, stripe_of}
use Rattle.av1_lrf.specs.Restore.{PlaneSettings, restored, restored_by, unit_filter_at, scene_of}
use Rattle.av1_lrf.specs.Units.{row_edge}

-- a row of units lies in the list of all
pub units_row : (row rows cols n : ℕ) → row < rows → n ≡ rows * cols → row * cols + cols ≤ n
units_row row rows cols n l e =
    let all : (row + 1) * cols ≤ rows * cols = mul-le (row + 1) cols rows cols (omega arith) (omega arith) in
    omega arith

-- a row between the edges of stripe k lies in stripe k
pub stripe_at : (height offset k y : ℕ) → 0 < height → k * height - offset ≤ y → y < (k + 1) * height - offset → (y + offset) / height ≡ k
stripe_at height offset k y some low high =
    let more : (k + 1) * height ≡ k * height + height = grind arith in
    let e : y + offset ≡ k * height + (y + offset - k * height) = omega arith in
    ap (λ (n : ℕ). n / height) e ∙ div-mul-add k height (y + offset - k * height) (omega arith)

-- a row of a stripe is restored by the stripe's units
pub restored_at : (s : PlaneSettings) (d e : Picture) (height offset k x y : ℕ) → height ≡ stripe_height s.ydec → offset ≡ stripe_offset s.ydec → 0 < height → k * height - offset ≤ y → y < (k + 1) * height - offset →
    restored_by (unit_filter_at s k x) s.cdef s.bit_depth (record { deblocked = d; enhanced = e; stripe = record { start = k * height - offset; stop = (k + 1) * height - offset } }) x y ≡ restored s d e x y
unfolding restored
restored_at s d e height offset k x y eh eo some low high =
    let at : (y + offset) / height ≡ k = stripe_at height offset k y some low high in
    let same : stripe_of s.ydec y ≡ k = ap (λ (n : ℕ). (y + n) / stripe_height s.ydec) (sym eo) ∙ ap (λ (n : ℕ). (y + offset) / n) (sym eh) ∙ at in
    ap (λ (n : ℕ). restored_by (unit_filter_at s k x) s.cdef s.bit_depth (record { deblocked = d; enhanced = e; stripe = record { start = k * n - offset; stop = (k + 1) * n - offset } }) x y) eh
    ∙ ap (λ (n : ℕ). restored_by (unit_filter_at s k x) s.cdef s.bit_depth (record { deblocked = d; enhanced = e; stripe = record { start = k * stripe_height s.ydec - n; stop = (k + 1) * stripe_height s.ydec - n } }) x y) eo
    ∙ ap (λ (n : ℕ). restored_by (unit_filter_at s n x) s.cdef s.bit_depth (scene_of s.ydec d e n) x y) (sym same)

-- each stripe begins in the picture
pub stripe_inside : (height offset bottom k : ℕ) → 0 < height → 0 < bottom → 0 < offset → k < (bottom + offset - 1) / height + 1 → k * height < bottom + offset
stripe_inside height offset bottom k some b o l =
    let most : k * height ≤ bottom + offset - 1 = (le-div_iff_mul-le {k = height} {x = k} {y = bottom + offset - 1} some).0 (omega arith) in
    omega arith

-- the number of a stripe fits 32 bits
pub stripe_few : (height bottom k : ℕ) → 0 < height → bottom ≤ 131072 → k * height < bottom → k < 2 ^ 32
stripe_few height bottom k some small l =
    let less : k * 1 ≤ k * height = mul-le k 1 k height (omega arith) (omega arith) in
    let far : 131072 ≤ 2 ^ 32 = lit≤ tt in
    omega arith

-- the last stripe ends where the picture does
pub stripe_last : (height offset bottom n : ℕ) → 0 < height → 0 < bottom → (bottom + offset - 1) / height + 1 ≤ n → row_edge height offset bottom n ≡ bottom
stripe_last height offset bottom n some b l =
    let less : n * height ≤ bottom + offset - 1 → n ≤ (bottom + offset - 1) / height = (le-div_iff_mul-le {k = height} {x = n} {y = bottom + offset - 1} some).1 in
    grind (arith, nat_tests)

pub ruleset stripes = (units_row, stripe_inside, stripe_few)
