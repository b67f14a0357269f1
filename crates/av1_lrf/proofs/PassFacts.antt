-- The cells of a pass, by the sums of a table.
use Rattle.std.proofs.Common.{◌≡◌, ℕ, ◌+◌, ◌-◌, ◌*◌, ◌/◌, ◌%◌, ◌^◌, ◌<◌, ◌≤◌, List, min, refl, sym, subst, ◌∙◌, ap, arith, inl, inr, lit≤}
use Rattle.std.specs.Prelude.{◌⊎◌}
use Rattle.std.proofs.lemmas.Nat.{mul-le}
use Rattle.std.proofs.lemmas.Bool.Decides.{nat_tests}
use Rattle.av1_lrf.specs.declared.guide.Guide.{Guide}
use Rattle.av1_lrf.specs.Sums.{rounded_shift}
use Rattle.av1_lrf.specs.Wiener.{IsDepth}
use Rattle.av1_lrf.specs.Guided.{Table, box, squared, box_side, count, one_by, strength, variation, weight, own_weight, mean_part}
use Rattle.av1_lrf.specs.Integral.{cell, corner_sum, HasCornerSums}
use Rattle.av1_lrf.specs.Laws.{SquareBelow, Fits32, IsDirect}
use Rattle.av1_lrf.specs.Guides.{cell_box, rounded_32, weight_at, index_by, mean_by, cell_weight, cell_mean, IsGuidePass}
use Rattle.av1_lrf.proofs.BoxFacts.{AreSums, box_total}
use Rattle.av1_lrf.proofs.LawFacts.{box_fits, box_is_direct, depth_most, sums_9, sums_25}

-- the sum over a square, by the cells at its corners
box_made : (f : Table) (step cols rows n x y at : ℕ) (cells : List ℕ) → HasCornerSums f step cols rows cells → at ≡ y * step + x → x + n ≤ cols → y + n ≤ rows → IsDirect f n x y → cell_box cells at step n ≡ box f n x y
unfolding cell_box
box_made f step cols rows n x y at cells h e lx ly d =
    let pa : at + n * step + n ≡ (y + n) * step + (x + n) = grind (arith, e) in
    let pb : at + n * step ≡ (y + n) * step + x = grind (arith, e) in
    let pc : at + n ≡ y * step + (x + n) = omega arith in
    let ca : cell cells (at + n * step + n) ≡ corner_sum f (x + n) (y + n) % 2 ^ 32 = ap (λ (k : ℕ). cell cells k) pa ∙ h.each (x + n) (y + n) (omega arith) (omega arith) in
    let cb : cell cells (at + n * step) ≡ corner_sum f x (y + n) % 2 ^ 32 = ap (λ (k : ℕ). cell cells k) pb ∙ h.each x (y + n) (omega arith) (omega arith) in
    let cd : cell cells (at + n) ≡ corner_sum f (x + n) y % 2 ^ 32 = ap (λ (k : ℕ). cell cells k) pc ∙ h.each (x + n) y (omega arith) (omega arith) in
    let ce : cell cells at ≡ corner_sum f x y % 2 ^ 32 = ap (λ (k : ℕ). cell cells k) e ∙ h.each x y (omega arith) (omega arith) in
    rw (ca, cb, cd, ce) d

-- 32 bits hold what is computed of the sums of a square of n samples
pub record SmallSums (bd n sum squares : ℕ) : Type 0 where
  pub fits_squares : squares + 2 ^ (2 * (bd - 8)) / 2 < 2 ^ 32
  pub fits_sum : sum + 2 ^ (bd - 8) / 2 < 2 ^ 32
  pub area : rounded_shift squares (2 * (bd - 8)) * n < 2 ^ 32
  pub mean : rounded_shift sum (bd - 8) * rounded_shift sum (bd - 8) < 2 ^ 32

-- the sums over a square, and their products, fit 32 bits
small_sums : (bd c sum squares : ℕ) → c ≤ 12 → 4 ≤ c → IsDepth bd → AreSums c (2 ^ bd - 1) sum squares → SmallSums bd (2 * c + 1) sum squares
small_sums bd c sum squares lc hc d s = elim d [
  | inl e ↦ subst (λ (k : ℕ). SmallSums k (2 * c + 1) sum squares) (sym e) (at_8 (subst (λ (k : ℕ). AreSums c (2 ^ k - 1) sum squares) e s))
  | inr k ↦ elim k [
    | inl e ↦ subst (λ (k : ℕ). SmallSums k (2 * c + 1) sum squares) (sym e) (at_10 (subst (λ (k : ℕ). AreSums c (2 ^ k - 1) sum squares) e s))
    | inr e ↦ subst (λ (k : ℕ). SmallSums k (2 * c + 1) sum squares) (sym e) (at_12 (subst (λ (k : ℕ). AreSums c (2 ^ k - 1) sum squares) e s))
  ]
]
  where
    -- (2 * c + 1) * squares and sum * sum, for samples up to top
    most : (top : ℕ) → AreSums c top sum squares → sum ≤ 25 * top
    most top g =
        let l : (2 * c + 1) * top ≤ 25 * top = mul-le (2 * c + 1) top 25 top (omega arith) (omega arith) in
        omega (arith, g.total)

    square : (top : ℕ) → AreSums c top sum squares → sum * sum ≤ 25 * top * (25 * top)
    square top g = mul-le sum sum (25 * top) (25 * top) (most top g) (most top g)

    all : (top : ℕ) → AreSums c top sum squares → (2 * c + 1) * squares ≤ 156 * (top * top) + 25 * top * (25 * top)
    all top g =
        let k : c * (c + 1) ≤ 12 * 13 = mul-le c (c + 1) 12 13 lc (omega arith) in
        let l : c * (c + 1) * (top * top) ≤ 156 * (top * top) = mul-le (c * (c + 1)) (top * top) 156 (top * top) k (omega arith) in
        omega (arith, g.varies, square top g)

    few : (top : ℕ) → AreSums c top sum squares → 9 * squares ≤ (2 * c + 1) * squares
    few top g =
        let l : 9 * squares ≤ (2 * c + 1) * squares = mul-le 9 squares (2 * c + 1) squares (omega arith) (omega arith) in
        omega arith

    at_8 : AreSums c 255 sum squares → SmallSums 8 (2 * c + 1) sum squares
    at_8 g =
        let s1 = most 255 g in
        let a = all 255 g in
        let q = few 255 g in
        let r : (squares + 0) / 1 * (2 * c + 1) ≤ squares * (2 * c + 1) = mul-le ((squares + 0) / 1) (2 * c + 1) squares (2 * c + 1) (omega arith) (omega arith) in
        let o : squares * (2 * c + 1) ≡ (2 * c + 1) * squares = grind arith in
        let u : (sum + 0) / 1 * ((sum + 0) / 1) ≤ 6375 * 6375 = mul-le ((sum + 0) / 1) ((sum + 0) / 1) 6375 6375 (omega arith) (omega arith) in
        record { fits_squares = omega arith; fits_sum = omega arith; area = omega arith; mean = omega arith }

    at_10 : AreSums c 1023 sum squares → SmallSums 10 (2 * c + 1) sum squares
    at_10 g =
        let s1 = most 1023 g in
        let a = all 1023 g in
        let q = few 1023 g in
        let r : (squares + 8) / 16 * (2 * c + 1) ≤ (squares + 1) * (2 * c + 1) = mul-le ((squares + 8) / 16) (2 * c + 1) (squares + 1) (2 * c + 1) (omega arith) (omega arith) in
        let o : (squares + 1) * (2 * c + 1) ≡ (2 * c + 1) * squares + (2 * c + 1) = grind arith in
        let u : (sum + 2) / 4 * ((sum + 2) / 4) ≤ 25575 * 25575 = mul-le ((sum + 2) / 4) ((sum + 2) / 4) 25575 25575 (omega arith) (omega arith) in
        record { fits_squares = omega arith; fits_sum = omega arith; area = omega arith; mean = omega arith }

    at_12 : AreSums c 4095 sum squares → SmallSums 12 (2 * c + 1) sum squares
    at_12 g =
        let s1 = most 4095 g in
        let a = all 4095 g in
        let q = few 4095 g in
        let r : (squares + 128) / 256 * (2 * c + 1) ≤ (squares / 256 + 1) * 25 = mul-le ((squares + 128) / 256) (2 * c + 1) (squares / 256 + 1) 25 (omega arith) (omega arith) in
        let u : (sum + 8) / 16 * ((sum + 8) / 16) ≤ 6400 * 6400 = mul-le ((sum + 8) / 16) ((sum + 8) / 16) 6400 6400 (omega arith) (omega arith) in
        record { fits_squares = omega arith; fits_sum = omega arith; area = omega arith; mean = omega arith }

-- a number that 32 bits hold is rounded as any
rounded_same : (v n : ℕ) → v + 2 ^ n / 2 < 2 ^ 32 → rounded_32 v n ≡ rounded_shift v n
rounded_same v n l =
    let e : (v + 2 ^ n / 2) % 2 ^ 32 ≡ v + 2 ^ n / 2 = omega arith in
    ap (λ (k : ℕ). k / 2 ^ n) e

-- a weight by the product cut to 255 is the weight by the product
weight_same : (z : ℕ) → weight_at (min z 255) ≡ weight_at z
weight_same z =
    let low : z ≤ 255 → weight_at (min z 255) ≡ weight_at z = λ l. let e : min z 255 ≡ z = omega arith in ap weight_at e in
    let high : 255 ≤ z → weight_at (min z 255) ≡ weight_at z = λ l.
    let e : min z 255 ≡ 255 = omega arith in
    ap weight_at e ∙ sym (top z l) in
    grind (arith, nat_tests)
  where
    top : (z : ℕ) → 255 ≤ z → weight_at z ≡ 256
    top z l = grind (arith, nat_tests)

-- the rounded product of the sums of a square
index_same : (bd n s sum squares shift many strong : ℕ) → SmallSums bd n sum squares → variation bd n sum squares * s + 2 ^ 19 < 2 ^ 32 → shift ≡ bd - 8 → many ≡ n → strong ≡ s →
    min (rounded_32 (((rounded_32 squares (2 * shift) * many) % 2 ^ 32 - (rounded_32 sum shift * rounded_32 sum shift) % 2 ^ 32) * strong % 2 ^ 32) 20) 255 ≡ min (rounded_shift (variation bd n sum squares * s) 20) 255
index_same bd n s sum squares shift many strong h l es em et =
    let a : rounded_32 squares (2 * (bd - 8)) ≡ rounded_shift squares (2 * (bd - 8)) = rounded_same squares (2 * (bd - 8)) h.fits_squares in
    let d : rounded_32 sum (bd - 8) ≡ rounded_shift sum (bd - 8) = rounded_same sum (bd - 8) h.fits_sum in
    let an : (rounded_shift squares (2 * (bd - 8)) * n) % 2 ^ 32 ≡ rounded_shift squares (2 * (bd - 8)) * n = omega (arith, h.area) in
    let dd : (rounded_shift sum (bd - 8) * rounded_shift sum (bd - 8)) % 2 ^ 32 ≡ rounded_shift sum (bd - 8) * rounded_shift sum (bd - 8) = omega (arith, h.mean) in
    let p : (variation bd n sum squares * s) % 2 ^ 32 ≡ variation bd n sum squares * s = omega arith in
    let r : rounded_32 (variation bd n sum squares * s) 20 ≡ rounded_shift (variation bd n sum squares * s) 20 = rounded_same (variation bd n sum squares * s) 20 l in
    rw (es, em, et, a, d, an, dd, p, r) refl

-- the weight and the mean of a square, by its sums
weight_made : (bd set radius : ℕ) (f : Table) (g : Guide) (x y sum squares : ℕ) → IsGuidePass bd set radius g →
    SmallSums bd (count radius) (box f (box_side radius) x y) (box (squared f) (box_side radius) x y) → Fits32 bd radius set f x y →
    sum ≡ box f (box_side radius) x y → squares ≡ box (squared f) (box_side radius) x y →
    weight_at (index_by g sum squares) ≡ weight (variation bd (count radius) (box f (box_side radius) x y) (box (squared f) (box_side radius) x y)) (strength set radius)
unfolding index_by
weight_made bd set radius f g x y sum squares h small fits es eq =
    rw (es, eq) (ap weight_at (index_same bd (count radius) (strength set radius) (box f (box_side radius) x y) (box (squared f) (box_side radius) x y) g.shift g.count g.strength small fits.product h.deep h.many h.strong)
    ∙ weight_same (rounded_shift (variation bd (count radius) (box f (box_side radius) x y) (box (squared f) (box_side radius) x y) * strength set radius) 20))

-- a mean that fits 32 bits is computed without wrapping
mean_same : (o w sum : ℕ) → (256 - w) * sum * o + 2 ^ 11 < 2 ^ 32 → (256 - w) * sum < 2 ^ 32 → mean_by o w sum ≡ rounded_shift ((256 - w) * sum * o) 12
unfolding mean_by
mean_same o w sum l m =
    let a : ((256 - w) * sum) % 2 ^ 32 ≡ (256 - w) * sum = omega arith in
    let b : ((256 - w) * sum * o) % 2 ^ 32 ≡ (256 - w) * sum * o = omega arith in
    rw (a, b) (rounded_same ((256 - w) * sum * o) 12 l)

-- the sums of a square are small
sums_made : (bd radius : ℕ) (f : Table) (x y : ℕ) → IsDepth bd → (radius ≡ 1) ⊎ (radius ≡ 2) → SquareBelow bd (box_side radius) f x y → SmallSums bd (count radius) (box f (box_side radius) x y) (box (squared f) (box_side radius) x y)
sums_made bd radius f x y d r b = elim r [
  | inl e ↦ subst (λ (k : ℕ). SmallSums bd (count k) (box f (box_side k) x y) (box (squared f) (box_side k) x y)) (sym e) (small_sums bd 4 (box f 3 x y) (box (squared f) 3 x y) (lit≤ tt) (lit≤ tt) d (sums_9 bd f x y d (subst (λ (k : ℕ). SquareBelow bd (box_side k) f x y) e b)))
  | inr e ↦ subst (λ (k : ℕ). SmallSums bd (count k) (box f (box_side k) x y) (box (squared f) (box_side k) x y)) (sym e) (small_sums bd 12 (box f 5 x y) (box (squared f) 5 x y) (lit≤ tt) (lit≤ tt) d (sums_25 bd f x y d (subst (λ (k : ℕ). SquareBelow bd (box_side k) f x y) e b)))
]

-- the sum over a square is small
box_most : (bd radius : ℕ) (f : Table) (x y : ℕ) → IsDepth bd → (radius ≡ 1) ⊎ (radius ≡ 2) → SquareBelow bd (box_side radius) f x y → box f (box_side radius) x y ≤ 102375
box_most bd radius f x y d r b =
    let n : 2 * radius + 1 ≤ 5 = elim r [ inl e ↦ omega arith | inr e ↦ omega arith ] in
    let top : 2 ^ bd - 1 ≤ 4095 = depth_most bd d in
    let all = box_total (2 * radius + 1) 4095 f x y (λ i j li lj. omega (arith, b i j li lj)) in
    let l : (2 * radius + 1) * 4095 ≤ 5 * 4095 = mul-le (2 * radius + 1) 4095 5 4095 n (omega arith) in
    let m : (2 * radius + 1) * ((2 * radius + 1) * 4095) ≤ 5 * (5 * 4095) = mul-le (2 * radius + 1) ((2 * radius + 1) * 4095) 5 (5 * 4095) n l in
    omega (arith, all)

-- the weight and the mean in cells are the weight and the mean of the definition
pub record Cells (bd set radius : ℕ) (f : Table) (g : Guide) (cells squares : List ℕ) (step at x y : ℕ) : Type 0 where
  pub weight : cell_weight g cells squares step at ≡ own_weight bd radius (strength set radius) f (x + radius) (y + radius)
  pub mean : cell_mean g cells squares step at ≡ mean_part bd radius (strength set radius) f (x + radius) (y + radius)

-- the weight and the mean from cells are the weight and the mean of the definition
pub cells_made : (bd set radius : ℕ) (f : Table) (g : Guide) (cells squares : List ℕ) (step cols rows at x y : ℕ) → IsDepth bd → (radius ≡ 1) ⊎ (radius ≡ 2) → IsGuidePass bd set radius g →
    HasCornerSums f step cols rows cells → HasCornerSums (squared f) step cols rows squares → ((i j : ℕ) → i < cols → j < rows → f i j < 2 ^ bd) →
    at ≡ y * step + x → x + box_side radius ≤ cols → y + box_side radius ≤ rows → Cells bd set radius f g cells squares step at x y
unfolding own_weight mean_part
cells_made bd set radius f g cells squares step cols rows at x y d r h hs hq b e lx ly =
    let below : SquareBelow bd (box_side radius) f x y = λ i j li lj. b (x + i) (y + j) (omega arith) (omega arith) in
    let direct = box_is_direct bd radius f x y d r below in
    let fits = box_fits bd radius set f x y d r below in
    let small = sums_made bd radius f x y d r below in
    let s : cell_box cells at step (box_side radius) ≡ box f (box_side radius) x y = box_made f step cols rows (box_side radius) x y at cells hs e lx ly direct.0 in
    let q : cell_box squares at step (box_side radius) ≡ box (squared f) (box_side radius) x y = box_made (squared f) step cols rows (box_side radius) x y at squares hq e lx ly direct.1 in
    let sg : cell_box cells at step g.side ≡ box f (box_side radius) x y = ap (λ (k : ℕ). cell_box cells at step k) h.wide ∙ s in
    let qg : cell_box squares at step g.side ≡ box (squared f) (box_side radius) x y = ap (λ (k : ℕ). cell_box squares at step k) h.wide ∙ q in
    let ex : x + radius - radius ≡ x = omega arith in
    let ey : y + radius - radius ≡ y = omega arith in
    let w = weight_made bd set radius f g x y (cell_box cells at step g.side) (cell_box squares at step g.side) h small fits sg qg in
    let part : (256 - weight (variation bd (count radius) (box f (box_side radius) x y) (box (squared f) (box_side radius) x y)) (strength set radius)) * box f (box_side radius) x y < 2 ^ 32 =
    omega (arith, mul-le (256 - weight (variation bd (count radius) (box f (box_side radius) x y) (box (squared f) (box_side radius) x y)) (strength set radius)) (box f (box_side radius) x y) 256 102375 (omega arith) (box_most bd radius f x y d r below)) in
    record {
      weight = rw (ex, ey) w;
      mean = rw (ex, ey, w, sg, h.mean) (mean_same (one_by (count radius)) (weight (variation bd (count radius) (box f (box_side radius) x y) (box (squared f) (box_side radius) x y)) (strength set radius)) (box f (box_side radius) x y) fits.mean part);
    }
