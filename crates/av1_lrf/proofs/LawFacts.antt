-- The laws on sums over squares.
use Rattle.std.proofs.Common.{◌≡◌, ℕ, zero, suc, ◌+◌, ◌-◌, ◌*◌, ◌/◌, ◌^◌, ◌<◌, ◌≤◌, List, [], ◌∷◌, true, get_or, refl, sym, subst, ◌∙◌, ap, arith, inl, inr, lit≤, lit<, add_comm}
use Rattle.std.specs.Prelude.{nat_le, ◌&&◌, Bool, if◌then◌else◌, ◌==◌}
use Rattle.std.proofs.lemmas.Nat.{mul-le}
use Rattle.std.proofs.Math.Nat.{le-div_iff_mul-le}
use Rattle.std.proofs.lemmas.Bool.Decides.{nat_tests}
use Rattle.av1_tiling.specs.declared.restoration.TheConstants.{SGRPROJ_PARAMS_S}
use Rattle.av1_lrf.specs.Sums.{total_of_first, rounded_shift}
use Rattle.av1_lrf.specs.Wiener.{IsDepth}
use Rattle.av1_lrf.specs.Guided.{Table, box, squared, box_side, strength, variation, weight}
use Rattle.av1_lrf.specs.Integral.{corner_sum}
use Rattle.av1_lrf.specs.Laws.{SquareBelow, Fits32, wrapped, IsDirect, EachBoxFits, EachBoxIsDirect}
use Rattle.av1_lrf.proofs.BoxFacts.{AreSums, variation_9, variation_25, box_varies, box_total}

-- rows whose entry i is at most b
abbrev all_at_most : ℕ → ℕ → List (List ℕ) → Bool
all_at_most b i [] = true
all_at_most b i (r ∷ rs) = nat_le (get_or r i 0) b && all_at_most b i rs

-- an entry of a table of small numbers is small
at_most : (b i : ℕ) (rs : List (List ℕ)) (k : ℕ) → all_at_most b i rs ≡ true → get_or (get_or rs k []) i 0 ≤ b
at_most b i [] k h = omega arith
at_most b i (r ∷ rs) zero h = grind (arith, nat_tests)
at_most b i (r ∷ rs) (suc k) h = at_most b i rs k (grind (arith, nat_tests))

-- the strengths for radius 1 are at most 3236
pub strength_1 : (set : ℕ) → strength set 1 ≤ 3236
strength_1 set = at_most 3236 1 SGRPROJ_PARAMS_S set refl

-- the strengths for radius 2 are at most 140
pub strength_2 : (set : ℕ) → strength set 2 ≤ 140
strength_2 set = at_most 140 0 SGRPROJ_PARAMS_S set refl

-- the weight of the sample itself is from 1 to 256
pub weight_low : (p s : ℕ) → 1 ≤ weight p s
weight_low p s = at (rounded_shift (p * s) 20)
  where
    at : (z : ℕ) → 1 ≤ (if nat_le 255 z then 256 else if z == 0 then 1 else (z * 256 + z / 2) / (z + 1))
    at z =
        let some : 0 < z → 1 ≤ (z * 256 + z / 2) / (z + 1) = λ l. (le-div_iff_mul-le (omega arith)).1 (omega arith) in
        grind (arith, nat_tests)

-- a sum in two parts is the sum of both
pub total_split : (a b : ℕ) (g : ℕ → ℕ) → total_of_first (a + b) g ≡ total_of_first a g + total_of_first b (λ i. g (a + i))
total_split a zero g =
    let e : a + 0 ≡ a = omega arith in
    let z : total_of_first a g ≡ total_of_first a g + 0 = omega arith in
    ap (λ (n : ℕ). total_of_first n g) e ∙ z
total_split a (suc b) g =
    let e : a + suc b ≡ suc (a + b) = omega arith in
    let rest : total_of_first (a + b) g ≡ total_of_first a g + total_of_first b (λ i. g (a + i)) = total_split a b g in
    let last : total_of_first (a + b) g + g (a + b) ≡ total_of_first a g + (total_of_first b (λ i. g (a + i)) + g (a + b)) = omega arith in
    ap (λ (n : ℕ). total_of_first n g) e ∙ last

-- the sum of two functions' sums is the sum of their sums
total_sum : (n : ℕ) (g h : ℕ → ℕ) → total_of_first n (λ i. g i + h i) ≡ total_of_first n g + total_of_first n h
total_sum zero g h = refl
total_sum (suc n) g h =
    let rest : total_of_first n (λ i. g i + h i) ≡ total_of_first n g + total_of_first n h = total_sum n g h in
    omega arith

-- sums of equal terms are equal
total_same : (n : ℕ) (g h : ℕ → ℕ) → ((i : ℕ) → g i ≡ h i) → total_of_first n g ≡ total_of_first n h
total_same zero g h e = refl
total_same (suc n) g h e = ap (λ a. a + g n) (total_same n g h e) ∙ ap (λ a. total_of_first n h + a) (e n)

-- the sums at the corners of a rectangle give the sum over it
pub corners : (f : Table) (x y n m : ℕ) → corner_sum f (x + n) (y + m) + corner_sum f x y ≡ corner_sum f (x + n) y + corner_sum f x (y + m) + total_of_first m (λ j. total_of_first n (λ i. f (x + i) (y + j)))
unfolding corner_sum
corners f x y n m =
    let wide = λ (j : ℕ). total_of_first (x + n) (λ i. f i j) in
    let thin = λ (j : ℕ). total_of_first x (λ i. f i j) in
    let part = λ (j : ℕ). total_of_first n (λ i. f (x + i) (y + j)) in
    let rows : total_of_first (y + m) wide ≡ total_of_first y wide + total_of_first m (λ j. wide (y + j)) = total_split y m wide in
    let lines : total_of_first (y + m) thin ≡ total_of_first y thin + total_of_first m (λ j. thin (y + j)) = total_split y m thin in
    let each : total_of_first m (λ j. wide (y + j)) ≡ total_of_first m (λ j. thin (y + j) + part j) = total_same m (λ j. wide (y + j)) (λ j. thin (y + j) + part j) (λ j. total_split x n (λ i. f i (y + j))) in
    let both : total_of_first m (λ j. thin (y + j) + part j) ≡ total_of_first m (λ j. thin (y + j)) + total_of_first m part = total_sum m (λ j. thin (y + j)) part in
    omega arith

-- a wrapping difference is the number itself where that fits
wrap_four : (a b c d s : ℕ) → a + d ≡ b + c + s → s < 2 ^ 32 → wrapped a b c d ≡ s
wrap_four a b c d s e l = omega arith

-- the sums over a square of radius 1 are within their bounds
pub sums_9 : (bd : ℕ) (f : Table) (x y : ℕ) → IsDepth bd → SquareBelow bd 3 f x y → AreSums 4 (2 ^ bd - 1) (box f 3 x y) (box (squared f) 3 x y)
sums_9 bd f x y h r =
    let low : (i j : ℕ) → i < 3 → j < 3 → f (x + i) (y + j) ≤ 2 ^ bd - 1 = λ i j li lj. omega (arith, r i j li lj) in
    record { varies = box_varies 3 4 (2 ^ bd - 1) f x y refl low; total = omega (arith, box_total 3 (2 ^ bd - 1) f x y low) }

-- the sums over a square of radius 2 are within their bounds
pub sums_25 : (bd : ℕ) (f : Table) (x y : ℕ) → IsDepth bd → SquareBelow bd 5 f x y → AreSums 12 (2 ^ bd - 1) (box f 5 x y) (box (squared f) 5 x y)
sums_25 bd f x y h r =
    let low : (i j : ℕ) → i < 5 → j < 5 → f (x + i) (y + j) ≤ 2 ^ bd - 1 = λ i j li lj. omega (arith, r i j li lj) in
    record { varies = box_varies 5 12 (2 ^ bd - 1) f x y refl low; total = omega (arith, box_total 5 (2 ^ bd - 1) f x y low) }

-- the greatest sample of a depth is at most 4095
pub depth_most : (bd : ℕ) → IsDepth bd → 2 ^ bd - 1 ≤ 4095
depth_most bd h = elim h [ inl e ↦ rw e (lit≤ tt) | inr k ↦ elim k [ inl e ↦ rw e (lit≤ tt) | inr e ↦ rw e (lit≤ tt) ] ]

-- the variation of a square of radius 1, by the strength of a set, fits 32 bits
pub variation_fits_1 : (bd set sum squares : ℕ) → IsDepth bd → AreSums 4 (2 ^ bd - 1) sum squares → variation bd 9 sum squares * strength set 1 + 2 ^ 19 < 2 ^ 32
variation_fits_1 bd set sum squares h s =
    let all : variation bd 9 sum squares * strength set 1 ≤ 1312100 * 3236 = mul-le (variation bd 9 sum squares) (strength set 1) 1312100 3236 (variation_9 bd sum squares h s) (strength_1 set) in
    omega arith

-- the variation of a square of radius 2, by the strength of a set, fits 32 bits
pub variation_fits_2 : (bd set sum squares : ℕ) → IsDepth bd → AreSums 12 (2 ^ bd - 1) sum squares → variation bd 25 sum squares * strength set 2 + 2 ^ 19 < 2 ^ 32
variation_fits_2 bd set sum squares h s =
    let all : variation bd 25 sum squares * strength set 2 ≤ 10300000 * 140 = mul-le (variation bd 25 sum squares) (strength set 2) 10300000 140 (variation_25 bd sum squares h s) (strength_2 set) in
    omega arith

-- a weighted mean fits 32 bits
pub mean_fits : (c m w sum o : ℕ) → 1 ≤ w → sum ≤ (2 * c + 1) * m → m ≤ 4095 → (2 * c + 1) * 4095 * 255 * o + 2 ^ 11 < 2 ^ 32 → (256 - w) * sum * o + 2 ^ 11 < 2 ^ 32
mean_fits c m w sum o lw ls lm lo =
    let most : (2 * c + 1) * m ≤ (2 * c + 1) * 4095 = mul-le (2 * c + 1) m (2 * c + 1) 4095 (omega arith) lm in
    let part : (256 - w) * sum ≤ 255 * ((2 * c + 1) * 4095) = mul-le (256 - w) sum 255 ((2 * c + 1) * 4095) (omega arith) (omega arith) in
    let all : (256 - w) * sum * o ≤ 255 * ((2 * c + 1) * 4095) * o = mul-le ((256 - w) * sum) o (255 * ((2 * c + 1) * 4095)) o part (omega arith) in
    grind arith

-- 32 bits hold each number that is computed for any square of samples
pub box_fits : EachBoxFits
box_fits bd radius set f x y h r below = elim r [
  | inl e ↦ subst (λ (k : ℕ). Fits32 bd k set f x y) (sym e) (one (subst (λ (k : ℕ). SquareBelow bd (box_side k) f x y) e below))
  | inr e ↦ subst (λ (k : ℕ). Fits32 bd k set f x y) (sym e) (two (subst (λ (k : ℕ). SquareBelow bd (box_side k) f x y) e below))
]
  where
    one : SquareBelow bd 3 f x y → Fits32 bd 1 set f x y
    one b = record {
      product = variation_fits_1 bd set (box f 3 x y) (box (squared f) 3 x y) h (sums_9 bd f x y h b);
      mean = mean_fits 4 (2 ^ bd - 1) (weight (variation bd 9 (box f 3 x y) (box (squared f) 3 x y)) (strength set 1)) (box f 3 x y) 455 (weight_low (variation bd 9 (box f 3 x y) (box (squared f) 3 x y)) (strength set 1)) (sums_9 bd f x y h b).total (depth_most bd h) (lit< tt);
    }

    two : SquareBelow bd 5 f x y → Fits32 bd 2 set f x y
    two b = record {
      product = variation_fits_2 bd set (box f 5 x y) (box (squared f) 5 x y) h (sums_25 bd f x y h b);
      mean = mean_fits 12 (2 ^ bd - 1) (weight (variation bd 25 (box f 5 x y) (box (squared f) 5 x y)) (strength set 2)) (box f 5 x y) 164 (weight_low (variation bd 25 (box f 5 x y) (box (squared f) 5 x y)) (strength set 2)) (sums_25 bd f x y h b).total (depth_most bd h) (lit< tt);
    }

-- a corner difference is the sum over the square
direct : (f : Table) (n m x y : ℕ) → n * (n * m) < 2 ^ 32 → ((i j : ℕ) → i < n → j < n → f (x + i) (y + j) ≤ m) → IsDirect f n x y
direct f n m x y l r =
    let few : box f n x y ≤ n * (n * m) = box_total n m f x y r in
    wrap_four (corner_sum f (x + n) (y + n)) (corner_sum f x (y + n)) (corner_sum f (x + n) y) (corner_sum f x y) (box f n x y) (corners f x y n n ∙ ap (λ (k : ℕ). k + box f n x y) (add_comm (corner_sum f (x + n) y) (corner_sum f x (y + n)))) (omega arith)

-- the prefix sums at a square's corners give the sum over the square
pub box_is_direct : EachBoxIsDirect
box_is_direct bd radius f x y h r below = elim r [ inl e ↦ at (omega arith) | inr e ↦ at (omega arith) ]
  where
    at : radius ≤ 2 → IsDirect f (box_side radius) x y × IsDirect (squared f) (box_side radius) x y
    at small =
        let n : ℕ = 2 * radius + 1 in
        let most : 2 ^ bd - 1 ≤ 4095 = depth_most bd h in
        let low : (i j : ℕ) → i < 2 * radius + 1 → j < 2 * radius + 1 → f (x + i) (y + j) ≤ 4095 = λ i j li lj. omega (arith, below i j li lj) in
        let squares : (i j : ℕ) → i < 2 * radius + 1 → j < 2 * radius + 1 → squared f (x + i) (y + j) ≤ 4095 * 4095 = λ i j li lj. mul-le (f (x + i) (y + j)) (f (x + i) (y + j)) 4095 4095 (low i j li lj) (low i j li lj) in
        let a : (2 * radius + 1) * ((2 * radius + 1) * 4095) ≤ 5 * (5 * 4095) = mul-le (2 * radius + 1) ((2 * radius + 1) * 4095) 5 (5 * 4095) (omega arith) (omega arith) in
        let b : (2 * radius + 1) * ((2 * radius + 1) * (4095 * 4095)) ≤ 5 * (5 * (4095 * 4095)) = mul-le (2 * radius + 1) ((2 * radius + 1) * (4095 * 4095)) 5 (5 * (4095 * 4095)) (omega arith) (omega arith) in
        (direct f (2 * radius + 1) 4095 x y (omega (arith, a)) low, direct (squared f) (2 * radius + 1) (4095 * 4095) x y (omega (arith, b)) squares)
