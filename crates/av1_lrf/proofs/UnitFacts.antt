-- The columns of units.
use Rattle.std.proofs.Common.{◌≡◌, ℕ, ◌+◌, ◌-◌, ◌*◌, ◌/◌, ◌<◌, ◌≤◌, min, ap, ◌∙◌, arith}
use Rattle.std.proofs.lemmas.Nat.{mul-le, div-mul-add}
use Rattle.std.proofs.Math.Nat.{le-div_iff_mul-le}
use Rattle.std.proofs.lemmas.Bool.Decides.{nat_tests}
use Rattle.std.specs.Prelude.{length}
use Rattle.std.specs.List.{slice_index_or}
use Rattle.av1_block.specs.RestorationUnit.{no_unit}
use Rattle.av1_tiling.specs.Restoration.{Units, unit_row, unit_by_stripe, IsUnit}
use Rattle.av1_lrf.specs.Units.{edge, FitPicture}
use Rattle.av1_lrf.proofs.StripesFacts.{units_row}

-- each unit begins in the picture
pub edge_inside : (n size width u : ℕ) → u < n → (n - 1) * size < width → u * size < width
edge_inside n size width u l h =
    let all : u * size ≤ (n - 1) * size = mul-le u size (n - 1) size (omega arith) (omega arith) in
    omega arith

-- the first unit begins at column 0
pub edge_first : (n size width : ℕ) → 0 < n → 0 ≡ edge n size width 0
unfolding edge
edge_first n size width l = grind (arith, nat_tests)

-- the last unit ends where the picture does
pub edge_last : (n size width u : ℕ) → n ≤ u → edge n size width u ≡ width
unfolding edge
edge_last n size width u l = grind (arith, nat_tests)

-- no unit is empty
pub edge_less : (n size width u : ℕ) → 0 < size → u < n → (n - 1) * size < width → edge n size width u < edge n size width (u + 1)
unfolding edge
edge_less n size width u some l h =
    let inside : u * size < width = edge_inside n size width u l h in
    let more : (u + 1) * size ≡ u * size + size = grind arith in
    grind (arith, nat_tests)

-- no unit ends past the picture
pub edge_most : (n size width u : ℕ) → u < n → (n - 1) * size < width → edge n size width (u + 1) ≤ width
unfolding edge
edge_most n size width u l h =
    let inside : u + 1 < n → (u + 1) * size < width = λ m. edge_inside n size width (u + 1) m h in
    grind (arith, nat_tests)

-- a unit and its margin fit a row of prefix sums
pub edge_wide : (n size width pitch u : ℕ) → u < n → (n - 1) * size < width → size + 7 ≤ pitch → width + 7 ≤ (n - 1) * size + pitch → edge n size width (u + 1) + 7 ≤ edge n size width u + pitch
unfolding edge
edge_wide n size width pitch u l h p q =
    let more : (u + 1) * size ≡ u * size + size = grind arith in
    let last : n ≤ u + 1 → (n - 1) * size ≡ u * size = λ m. let e : n - 1 ≡ u = omega arith in ap (λ (k : ℕ). k * size) e in
    grind (arith, nat_tests)

-- a column between two edges is of the unit between them
pub unit_at : (n size width u x : ℕ) → 0 < size → u < n → edge n size width u ≤ x → x < edge n size width (u + 1) → min (x / size) (n - 1) ≡ u
unfolding edge
unit_at n size width u x some l low high =
    let from : u * size ≤ x = grind (arith, nat_tests) in
    let least : u ≤ x / size = (le-div_iff_mul-le {k = size} {x = u} {y = x} some).1 from in
    let more : (u + 1) * size ≡ u * size + size = grind arith in
    let inner : u + 1 < n → x / size ≡ u = λ m.
    let below : x < u * size + size = grind (arith, nat_tests) in
    let e : x ≡ u * size + (x - u * size) = omega arith in
    ap (λ (k : ℕ). k / size) e ∙ div-mul-add u size (x - u * size) (omega arith) in
    grind arith

-- the unit of a stripe in the columns between two edges
pub unit_between : (u : Units) (k width i x : ℕ) → 0 < u.cfg.unit_size → u.cols ≡ u.cfg.cols → i < u.cfg.cols → edge u.cfg.cols u.cfg.unit_size width i ≤ x → x < edge u.cfg.cols u.cfg.unit_size width (i + 1) → unit_by_stripe u k (x / u.cfg.unit_size) ≡ unit_by_stripe u k i
unit_between u k width i x some same l low high =
    let at : min (x / u.cfg.unit_size) (u.cfg.cols - 1) ≡ i = unit_at u.cfg.cols u.cfg.unit_size width i x some l low high in
    let own : min (x / u.cfg.unit_size) (u.cols - 1) ≡ min i (u.cols - 1) = omega arith in
    ap (λ (n : ℕ). slice_index_or u.entries (unit_row u k * u.cols + n) no_unit) own

-- a unit that a stripe takes is one of the table
pub unit_is : (u : Units) (width pitch k i : ℕ) → FitPicture u width pitch → IsUnit (unit_by_stripe u k i)
unit_is u width pitch k i h =
    let some : 0 < u.cols = h.units.some_cols in
    let row : unit_row u k < u.rows = omega (arith, h.units.some_rows) in
    let inside : unit_row u k * u.cols + u.cols ≤ length u.entries = units_row (unit_row u k) u.rows u.cols (length u.entries) row h.all in
    h.each.each (unit_row u k * u.cols + min i (u.cols - 1)) (omega arith)

pub ruleset units = (edge_inside)
