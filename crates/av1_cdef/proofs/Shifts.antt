-- One constant on all samples.
use Rattle.std.proofs.Common.{◌≡◌, ℕ, zero, suc, ◌+◌, ◌-◌, ◌*◌, ◌/◌, ◌%◌, ◌<◌, ◌≤◌, List, length, map, All, refl, sym, ◌∙◌, ap, arith, inl, inr, ◌⊎◌, Bool, true, false}
use Rattle.std.specs.Prelude.{if◌then◌else◌, ◌==◌, nat_lt}
use Rattle.std.proofs.lemmas.Bool.Decides.{nat_tests}
use Rattle.std.proofs.lemmas.Bool.{cases_eq, ne_eqb}
use Rattle.std.proofs.lemmas.List.{get_or-map}
use Rattle.av1_cdef.specs.Sums.{total_below, first_greatest}
use Rattle.av1_cdef.specs.Direction.{line_of, sample_in_block, along, line_sum, line_places, line_cost, cost, direction, direction_variance}
use Rattle.av1_cdef.specs.Laws.{ConstantChangesNothing}
use Rattle.av1_cdef.proofs.Lines.{first_inside, all_lengths, line_sum_most, cost_is}

-- sums of equal terms
sum_same : (f g : ℕ → ℕ) (n : ℕ) → ((i : ℕ) → i < n → f i ≡ g i) → total_below n f ≡ total_below n g
unfolding total_below
sum_same f g zero h = refl
sum_same f g (suc n) h = let a = sum_same f g n (λ i l. h i (omega arith)) in let b = h n (omega arith) in omega arith

-- the sum of two functions' sums is the sum of their sums
sum_plus : (f g : ℕ → ℕ) (n : ℕ) → total_below n (λ i. f i + g i) ≡ total_below n f + total_below n g
unfolding total_below
sum_plus f g zero = refl
sum_plus f g (suc n) = let a = sum_plus f g n in omega arith

-- a factor of all terms is a factor of the sum
sum_times : (c : ℕ) (f : ℕ → ℕ) (n : ℕ) → total_below n (λ i. c * f i) ≡ c * total_below n f
unfolding total_below
sum_times c f zero = omega arith
sum_times c f (suc n) = let a = sum_times c f n in let b : c * (total_below n f + f n) ≡ c * total_below n f + c * f n = grind arith in omega arith

-- a sum of zeros is 0
sum_zero : (n : ℕ) → total_below n (λ i. 0) ≡ 0
unfolding total_below
sum_zero zero = refl
sum_zero (suc n) = let a = sum_zero n in omega arith

-- two sums may be taken in either order
sum_swap : (f : ℕ → ℕ → ℕ) (n m : ℕ) → total_below n (λ i. total_below m (f i)) ≡ total_below m (λ j. total_below n (λ i. f i j))
unfolding total_below
sum_swap f zero m = sym (sum_zero m)
sum_swap f (suc n) m = ap (λ s. s + total_below m (f n)) (sum_swap f n m) ∙ sym (sum_plus (λ j. total_below n (λ i. f i j)) (f n) m)

-- a value counted on one line only adds once
sum_one : (l v n : ℕ) → total_below n (λ k. if l == k then v else 0) ≡ (if nat_lt l n then v else 0)
unfolding total_below
sum_one l v zero = let t : nat_lt l 0 ≡ false = grind (arith, nat_tests) in rw t refl
sum_one l v (suc n) = elim (cases_eq l n) [
  | inl e ↦
      let a : nat_lt l n ≡ false = grind (arith, nat_tests) in
      let b : nat_lt l (suc n) ≡ true = grind (arith, nat_tests) in
      let c : (l == n) ≡ true = grind (arith, nat_tests) in
      rw (sum_one l v n, a, b, c) (omega arith)
  | inr d ↦
      let c : (l == n) ≡ false = ne_eqb l n d in
      let s : nat_lt l (suc n) ≡ nat_lt l n = grind (arith, nat_tests) in
      rw (sum_one l v n, c, s) (omega arith)
]

-- no direction has more than 15 lines
line_small : (d i j : ℕ) → i < 8 → j < 8 → line_of d i j < 15
line_small d i j li lj = at (d == 0) (d == 1) (d == 2) (d == 3) (d == 4) (d == 5) (d == 6)
  where
    at : (a b c e f g h : Bool) → (if a then i + j else if b then i + j / 2 else if c then i else if e then 3 + i - j / 2 else if f then 7 + i - j else if g then 3 - i / 2 + j else if h then j else i / 2 + j) < 15
    at a b c e f g h = grind arith

-- the sums of all lines are the sum of the block
lines_all : (d : ℕ) (f : ℕ → ℕ → ℕ) → total_below 15 (λ n. along d n f) ≡ total_below 8 (λ i. total_below 8 (λ j. f i j))
lines_all d f =
    sum_swap (λ n i. total_below 8 (λ j. if line_of d i j == n then f i j else 0)) 15 8
    ∙ sum_same (λ i. total_below 15 (λ n. total_below 8 (λ j. if line_of d i j == n then f i j else 0))) (λ i. total_below 8 (λ j. f i j)) 8 (λ i li.
    sum_swap (λ n j. if line_of d i j == n then f i j else 0) 15 8
    ∙ sum_same (λ j. total_below 15 (λ n. if line_of d i j == n then f i j else 0)) (λ j. f i j) 8 (λ j lj.
    sum_one (line_of d i j) (f i j) 15 ∙ (let t : nat_lt (line_of d i j) 15 ≡ true = (let s = line_small d i j li lj in small (line_of d i j) s) in rw t refl)))
  where
    small : (l : ℕ) → l < 15 → nat_lt l 15 ≡ true
    small l h = grind (arith, nat_tests)

-- a choice of a sum is the sum of the choices
if_plus : (t : Bool) (a c : ℕ) → (if t then a + c else 0) ≡ (if t then a else 0) + c * (if t then 1 else 0)
if_plus true a c = omega arith
if_plus false a c = omega arith

-- raising all samples raises the sum along a line by its length
along_plus : (d n c : ℕ) (f g : ℕ → ℕ → ℕ) → ((i j : ℕ) → i < 8 → j < 8 → g i j ≡ f i j + c) → along d n g ≡ along d n f + c * line_places d n
along_plus d n c f g h =
    sum_same (λ i. total_below 8 (λ j. if line_of d i j == n then g i j else 0)) (λ i. total_below 8 (λ j. if line_of d i j == n then f i j else 0) + c * total_below 8 (λ j. if line_of d i j == n then 1 else 0)) 8
    (λ i li. sum_same (λ j. if line_of d i j == n then g i j else 0) (λ j. (if line_of d i j == n then f i j else 0) + c * (if line_of d i j == n then 1 else 0)) 8
    (λ j lj. ap (λ v. if line_of d i j == n then v else 0) (h i j li lj) ∙ if_plus (line_of d i j == n) (f i j) c)
    ∙ sum_plus (λ j. if line_of d i j == n then f i j else 0) (λ j. c * (if line_of d i j == n then 1 else 0)) 8
    ∙ ap (λ s. total_below 8 (λ j. if line_of d i j == n then f i j else 0) + s) (sum_times c (λ j. if line_of d i j == n then 1 else 0) 8))
    ∙ sum_plus (λ i. total_below 8 (λ j. if line_of d i j == n then f i j else 0)) (λ i. c * total_below 8 (λ j. if line_of d i j == n then 1 else 0)) 8
    ∙ ap (λ s. along d n f + s) (sum_times c (λ i. total_below 8 (λ j. if line_of d i j == n then 1 else 0)) 8)

-- a block with c more in each sample
raised : List ℕ → ℕ → List ℕ
raised block c = map (λ (p : ℕ). p + c) block

-- raising a block raises the sum of a line by the line's length
line_raised : (block : List ℕ) (c d n : ℕ) → length block ≡ 64 → line_sum (map (λ p. p + c) block) d n ≡ line_sum block d n + c * line_places d n
line_raised block c d n e = along_plus d n c (sample_in_block block) (sample_in_block (map (λ p. p + c) block)) (λ i j li lj. get_or-map (λ (p : ℕ). p + c) block (8 * i + j) 0 0 (omega arith))

-- no line has more than 8 places
no_long : (d : ℕ) → d < 8 → total_below 15 (λ n. line_places d n / 9) ≡ 0
unfolding total_below
no_long zero l = refl
no_long (suc zero) l = refl
no_long (suc (suc zero)) l = refl
no_long (suc (suc (suc zero))) l = refl
no_long (suc (suc (suc (suc zero)))) l = refl
no_long (suc (suc (suc (suc (suc zero))))) l = refl
no_long (suc (suc (suc (suc (suc (suc zero)))))) l = refl
no_long (suc (suc (suc (suc (suc (suc (suc zero))))))) l = refl
no_long (suc (suc (suc (suc (suc (suc (suc (suc n)))))))) l = absurd (omega arith)

-- a term is at most the sum
term_most : (f : ℕ → ℕ) (n m : ℕ) → n < m → f n ≤ total_below m f
unfolding total_below
term_most f n zero l = absurd (omega arith)
term_most f n (suc m) l = elim (cases_eq n m) [
  | inl e ↦ rw e (omega arith)
  | inr d ↦ let a = term_most f n m (omega arith) in omega arith
]

-- a line has at most 8 places
length_small : (d n : ℕ) → d < 8 → n < 15 → line_places d n ≤ 8
length_small d n ld ln =
    let a = term_most (λ n. line_places d n / 9) n 15 ln in
    let b = no_long d ld in
    last (line_places d n) (total_below 15 (λ n. line_places d n / 9)) a b
  where
    last : (k s : ℕ) → k / 9 ≤ s → s ≡ 0 → k ≤ 8
    last k s h e = omega arith

-- 840 is a multiple of each length
full : (k : ℕ) → k ≤ 8 → (k ≡ 0) ⊎ (840 / k * k ≡ 840)
full zero l = inl refl
full (suc zero) l = inr refl
full (suc (suc zero)) l = inr refl
full (suc (suc (suc zero))) l = inr refl
full (suc (suc (suc (suc zero)))) l = inr refl
full (suc (suc (suc (suc (suc zero))))) l = inr refl
full (suc (suc (suc (suc (suc (suc zero)))))) l = inr refl
full (suc (suc (suc (suc (suc (suc (suc zero))))))) l = inr refl
full (suc (suc (suc (suc (suc (suc (suc (suc zero)))))))) l = inr refl
full (suc (suc (suc (suc (suc (suc (suc (suc (suc n))))))))) l = absurd (omega arith)

-- the share of a raised line's square grows by terms of its sum and its length
square_plus : (share s c k : ℕ) → share * k ≡ 840 → share * ((s + c * k) * (s + c * k)) ≡ share * (s * s) + (1680 * c * s + 840 * (c * c) * k)
square_plus share s c k e =
    let a : share * ((s + c * k) * (s + c * k)) ≡ share * (s * s) + (share * k) * (2 * c * s) + (share * k) * (c * c * k) = grind arith in
    let b : (share * k) * (2 * c * s) ≡ 840 * (2 * c * s) = ap (λ m. m * (2 * c * s)) e in
    let g : (share * k) * (c * c * k) ≡ 840 * (c * c * k) = ap (λ m. m * (c * c * k)) e in
    let h : 840 * (2 * c * s) ≡ 1680 * c * s = grind arith in
    let i : 840 * (c * c * k) ≡ 840 * (c * c) * k = grind arith in
    omega arith

-- a line without places costs nothing
empty_line : (share c s k : ℕ) → s ≡ 0 → k ≡ 0 → share * ((s + c * k) * (s + c * k)) ≡ share * (s * s) + (1680 * c * s + 840 * (c * c) * k)
empty_line share c s k es ek =
    let z : c * 0 ≡ 0 = omega arith in
    let y : 1680 * c * 0 ≡ 0 = omega arith in
    let x : 840 * (c * c) * 0 ≡ 0 = omega arith in
    rw (es, ek, z, y, x) (omega arith)

-- the cost of a raised line grows by the line's sum and length
cost_of_line : (block : List ℕ) (c d n : ℕ) → length block ≡ 64 → All (λ p. p ≤ 255) block → d < 8 → n < 15
    → line_cost (map (λ p. p + c) block) d n ≡ line_cost block d n + (1680 * c * line_sum block d n + 840 * (c * c) * line_places d n)
cost_of_line block c d n e h ld ln =
    ap (λ s. 840 / line_places d n * (s * s)) (line_raised block c d n e)
    ∙ (elim (full (line_places d n) (length_small d n ld ln)) [
      | inl none ↦ let most = line_sum_most block d n e h in empty_line (840 / line_places d n) c (line_sum block d n) (line_places d n) (zero_sum (line_sum block d n) (line_places d n) most none) none
      | inr all ↦ square_plus (840 / line_places d n) (line_sum block d n) c (line_places d n) all
    ])
  where
    zero_sum : (s k : ℕ) → s ≤ 255 * k → k ≡ 0 → s ≡ 0
    zero_sum s k l z = omega arith

-- the sum of the samples of a block
whole : List ℕ → ℕ
whole block = total_below 8 (λ i. total_below 8 (λ j. sample_in_block block i j))

-- by how much the cost of each direction grows when a constant is added
more_cost : List ℕ → ℕ → ℕ
more_cost block c = 1680 * c * whole block + 840 * (c * c) * 64

-- the cost of a direction of a raised block
cost_raised : (block : List ℕ) (c d : ℕ) → length block ≡ 64 → All (λ p. p ≤ 255) block → d < 8 → cost (map (λ p. p + c) block) d ≡ cost block d + more_cost block c
unfolding whole more_cost
cost_raised block c d e h ld =
    sym (cost_is (map (λ p. p + c) block) d)
    ∙ sum_same (line_cost (map (λ p. p + c) block) d) (λ n. line_cost block d n + (1680 * c * line_sum block d n + 840 * (c * c) * line_places d n)) 15 (λ n ln. cost_of_line block c d n e h ld ln)
    ∙ sum_plus (line_cost block d) (λ n. 1680 * c * line_sum block d n + 840 * (c * c) * line_places d n) 15
    ∙ ap (λ s. s + total_below 15 (λ n. 1680 * c * line_sum block d n + 840 * (c * c) * line_places d n)) (cost_is block d)
    ∙ ap (λ s. cost block d + s)
    (sum_plus (λ n. 1680 * c * line_sum block d n) (λ n. 840 * (c * c) * line_places d n) 15
    ∙ ap (λ s. s + total_below 15 (λ n. 840 * (c * c) * line_places d n)) (sum_times (1680 * c) (line_sum block d) 15 ∙ ap (λ s. 1680 * c * s) (lines_all d (sample_in_block block)))
    ∙ ap (λ s. 1680 * c * total_below 8 (λ i. total_below 8 (λ j. sample_in_block block i j)) + s) (sum_times (840 * (c * c)) (line_places d) 15 ∙ ap (λ s. 840 * (c * c) * s) (all_lengths d ld)))

-- adding the same number to both sides keeps a test for less
lt_plus : (a b k : ℕ) → nat_lt (a + k) (b + k) ≡ nat_lt a b
lt_plus a b k = grind (arith, nat_tests)

-- what is added to all changes no first greatest
first_plus : (n k : ℕ) (f g : ℕ → ℕ) → ((d : ℕ) → d ≤ n → g d ≡ f d + k) → first_greatest n g ≡ first_greatest n f
unfolding first_greatest
first_plus zero k f g h = refl
first_plus (suc n) k f g h =
    let r : first_greatest n g ≡ first_greatest n f = first_plus n k f g (λ d l. h d (omega arith)) in
    let inside : first_greatest n f ≤ n = first_inside n f in
    let a : g (first_greatest n f) ≡ f (first_greatest n f) + k = h (first_greatest n f) (omega arith) in
    let b : g (suc n) ≡ f (suc n) + k = h (suc n) (omega arith) in
    rw (r, a, b, lt_plus (f (first_greatest n f)) (f (suc n)) k) refl

-- a constant changes neither the direction nor the variance
pub constant_changes_nothing : ConstantChangesNothing
constant_changes_nothing block c e h = (same, margin)
  where
    each : (d : ℕ) → d ≤ 7 → cost (map (λ p. p + c) block) d ≡ cost block d + more_cost block c
    each d l = cost_raised block c d e h (omega arith)

    same : direction (map (λ p. p + c) block) ≡ direction block
    same = first_plus 7 (more_cost block c) (cost block) (cost (map (λ p. p + c) block)) each

    less : (a b k : ℕ) → (a + k) - (b + k) ≡ a - b
    less a b k = omega arith

    margin : direction_variance (map (λ p. p + c) block) ≡ direction_variance block
    margin =
        let inside : direction block ≤ 7 = first_inside 7 (cost block) in
        ap (λ d. (cost (map (λ p. p + c) block) d - cost (map (λ p. p + c) block) ((d + 4) % 8)) / 1024) same
        ∙ ap (λ v. (v - cost (map (λ p. p + c) block) ((direction block + 4) % 8)) / 1024) (each (direction block) inside)
        ∙ ap (λ v. ((cost block (direction block) + more_cost block c) - v) / 1024) (each ((direction block + 4) % 8) (omega arith))
        ∙ ap (λ v. v / 1024) (less (cost block (direction block)) (cost block ((direction block + 4) % 8)) (more_cost block c))
