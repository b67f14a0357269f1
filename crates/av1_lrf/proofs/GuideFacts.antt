-- Weights and means in cells, row by row.
use Rattle.std.proofs.Common.{◌≡◌, ℕ, ◌+◌, ◌-◌, ◌*◌, ◌/◌, ◌<◌, ◌≤◌, List, get_or, ◌∙◌, ap, sym, arith}
use Rattle.std.proofs.Math.Nat.{div-lt_iff_lt-mul}
use Rattle.std.proofs.lemmas.Bool.Decides.{nat_tests}
use Rattle.av1_lrf.specs.declared.guide.Guide.{Guide}
use Rattle.av1_lrf.specs.Integral.{HasSumRun}
use Rattle.av1_lrf.specs.Guides.{index_by, cell_box, cell_weight, cell_mean, weight_at, mean_by, AtMost, HasGuides}

-- the product of variation and strength is cut to 255
pub index_small : (g : Guide) (sum squares : ℕ) → index_by g sum squares ≤ 255
unfolding index_by
index_small g sum squares = omega arith

-- a run that is written over by another is the other run
pub run_then : (at n : ℕ) (f g h : ℕ → ℕ) (xs ys zs : List ℕ) → HasSumRun at n f xs ys → HasSumRun at n g ys zs → ((i : ℕ) → i < n → g i ≡ h i) → HasSumRun at n h xs zs
run_then at n f g h xs ys zs p q e = record { on = λ i l. q.on i l ∙ e i l; off = λ k o. q.off k o ∙ p.off k o; long = q.long ∙ p.long }

-- cells of no rows have all values asked for
pub guides_none : (n : ℕ) (f : ℕ → ℕ → ℕ) (xs : List ℕ) → HasGuides n 0 f xs
guides_none n f xs = record { each = λ i k l m. absurd (omega arith) }

-- one row of cells more has its values
pub guides_more : (n m : ℕ) (f : ℕ → ℕ → ℕ) (g : ℕ → ℕ) (xs ys : List ℕ) → n ≤ 66 → HasGuides n m f xs → HasSumRun (m * 66) n g xs ys → ((i : ℕ) → i < n → g i ≡ f i m) → HasGuides n (m + 1) f ys
guides_more n m f g xs ys small h run e = record { each = each }
  where
    each : (i k : ℕ) → i < n → k < m + 1 → get_or ys (k * 66 + i) 0 ≡ f i k
    each i k li lk =
        let kept : k < m → get_or ys (k * 66 + i) 0 ≡ f i k = λ l. run.off (k * 66 + i) (λ j lj. λ d. omega arith) ∙ h.each i k li l in
        let made : k ≡ m → get_or ys (k * 66 + i) 0 ≡ f i k = λ d. ap (λ j. get_or ys (j * 66 + i) 0) d ∙ run.on i li ∙ e i li ∙ sym (ap (f i) d) in
        grind (arith, nat_tests)

-- a run of small numbers leaves all cells small
pub run_most : (top at n : ℕ) (f : ℕ → ℕ) (xs ys : List ℕ) → AtMost top xs → HasSumRun at n f xs ys → ((i : ℕ) → i < n → f i ≤ top) → AtMost top ys
run_most top at n f xs ys h run e = record { each = each }
  where
    each : (k : ℕ) → get_or ys k 0 ≤ top
    each k =
        let inside : at ≤ k → k < at + n → get_or ys k 0 ≤ top = λ l r.
        let place : k ≡ at + (k - at) = omega arith in
        let value : get_or ys k 0 ≡ f (k - at) = ap (λ (j : ℕ). get_or ys j 0) place ∙ run.on (k - at) (omega arith) in
        omega (arith, value, e (k - at) (omega arith)) in
        let before : k < at → get_or ys k 0 ≤ top = λ l. omega (arith, run.off k (λ i li. λ d. omega arith), h.each k) in
        let behind : at + n ≤ k → get_or ys k 0 ≤ top = λ l. omega (arith, run.off k (λ i li. λ d. omega arith), h.each k) in
        grind (arith, nat_tests)

-- a weight is at most 256
pub weight_most : (z : ℕ) → weight_at z ≤ 256
weight_most z =
    let part : (z * 256 + z / 2) / (z + 1) < 257 = (div-lt_iff_lt-mul (omega arith)).1 (omega arith) in
    grind (arith, nat_tests)

-- a mean is at most 2 ^ 20
pub mean_most : (one_by w sum : ℕ) → mean_by one_by w sum ≤ 1048576
unfolding mean_by
mean_most one_by w sum = omega arith

-- a weight in cells is at most 256
pub cell_weight_most : (g : Guide) (cells squares : List ℕ) (step at : ℕ) → cell_weight g cells squares step at ≤ 256
cell_weight_most g cells squares step at = weight_most (index_by g (cell_box cells at step g.side) (cell_box squares at step g.side))

-- a mean in cells is at most 2^20
pub cell_mean_most : (g : Guide) (cells squares : List ℕ) (step at : ℕ) → cell_mean g cells squares step at ≤ 1048576
cell_mean_most g cells squares step at = mean_most g.one_by (cell_weight g cells squares step at) (cell_box cells at step g.side)

-- small numbers are below a greater bound
pub most_more : (m n : ℕ) (xs : List ℕ) → m ≤ n → AtMost m xs → AtMost n xs
most_more m n xs l h = record { each = λ i. omega (arith, h.each i) }

pub ruleset guides = (guides_none, most_more)
