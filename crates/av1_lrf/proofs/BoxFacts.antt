-- How far the samples of a square can vary: with c the sum and q the sum of the squares of n numbers up
-- to m, n * q is at most b + c * c, where b is the greatest of e * (n - e) * m * m. It holds for numbers
-- that are 0 or m, and each number may be moved to one of these.
use Rattle.std.proofs.Common.{◌≡◌, ℕ, zero, suc, ◌+◌, ◌-◌, ◌*◌, ◌/◌, ◌<◌, ◌≤◌, refl, sym, subst, arith, ◌^◌, inl, inr, lit≤}
use Rattle.std.proofs.lemmas.Nat.{mul-le}
use Rattle.av1_lrf.specs.Sums.{total_of_first}
use Rattle.av1_lrf.specs.Guided.{Table, box, squared, variation}
use Rattle.av1_lrf.specs.Wiener.{IsDepth}

-- what holds of numbers that are 0 or m, e of the l that are left being m
pub record Varies (n m b l c q : ℕ) : Type 0 where
  pub each : (e : ℕ) → e ≤ l → n * (q + e * (m * m)) ≤ b + (c + e * m) * (c + e * m)

-- a number between 0 and m, x and d more being m, is no worse than both
between : (k m b c q x d : ℕ) → m ≡ x + d → (k + 1) * q ≤ b + c * c → (k + 1) * (q + m * m) ≤ b + (c + m) * (c + m) → (k + 1) * (q + x * x) ≤ b + (c + x) * (c + x)
between k m b c q x d e h0 h1 =
    let low : k * x ≤ 2 * c → (k + 1) * (q + x * x) ≤ b + (c + x) * (c + x) = λ l.
    let p : (k * x) * x ≤ (2 * c) * x = mul-le (k * x) x (2 * c) x l (omega arith) in
    grind arith in
    let high : 2 * c ≤ k * x → (k + 1) * (q + x * x) ≤ b + (c + x) * (c + x) = λ l.
    let p : (2 * c) * d ≤ (k * x) * d = mul-le (2 * c) d (k * x) d l (omega arith) in
    let g : (k + 1) * (q + (x + d) * (x + d)) ≤ b + (c + (x + d)) * (c + (x + d)) = subst (λ (a : ℕ). (k + 1) * (q + a * a) ≤ b + (c + a) * (c + a)) e h1 in
    grind arith in
    grind arith

-- one number more keeps the bound on how much numbers vary
varies_more : (k m b l c q x : ℕ) → x ≤ m → Varies (k + 1) m b (l + 1) c q → Varies (k + 1) m b l (c + x) (q + x * x)
varies_more k m b l c q x lx h = record { each = each }
  where
    each : (e : ℕ) → e ≤ l → (k + 1) * (q + x * x + e * (m * m)) ≤ b + (c + x + e * m) * (c + x + e * m)
    each e le =
        let h0 : (k + 1) * (q + e * (m * m)) ≤ b + (c + e * m) * (c + e * m) = h.each e (omega arith) in
        let h1 : (k + 1) * (q + (e + 1) * (m * m)) ≤ b + (c + (e + 1) * m) * (c + (e + 1) * m) = h.each (e + 1) (omega arith) in
        let sq : q + (e + 1) * (m * m) ≡ q + e * (m * m) + m * m = grind arith in
        let sc : c + (e + 1) * m ≡ c + e * m + m = grind arith in
        let g1 : (k + 1) * (q + e * (m * m) + m * m) ≤ b + (c + e * m + m) * (c + e * m + m) = subst (λ (a : ℕ). (k + 1) * (q + e * (m * m) + m * m) ≤ b + a * a) sc (subst (λ (a : ℕ). (k + 1) * a ≤ b + (c + (e + 1) * m) * (c + (e + 1) * m)) sq h1) in
        let g : (k + 1) * (q + e * (m * m) + x * x) ≤ b + (c + e * m + x) * (c + e * m + x) = between k m b (c + e * m) (q + e * (m * m)) x (m - x) (omega arith) h0 g1 in
        let tq : q + e * (m * m) + x * x ≡ q + x * x + e * (m * m) = grind arith in
        let tc : c + e * m + x ≡ c + x + e * m = omega arith in
        subst (λ (a : ℕ). (k + 1) * (q + x * x + e * (m * m)) ≤ b + a * a) tc (subst (λ (a : ℕ). (k + 1) * a ≤ b + (c + e * m + x) * (c + e * m + x)) tq g)

-- a bound on how much numbers vary holds of equal sums
varies_is : (n m b l c q l' c' q' : ℕ) → l ≡ l' → c ≡ c' → q ≡ q' → Varies n m b l c q → Varies n m b l' c' q'
varies_is n m b l c q l' c' q' el ec eq h = subst (λ (a : ℕ). Varies n m b a c' q') el (subst (λ (a : ℕ). Varies n m b l a q') ec (subst (λ (a : ℕ). Varies n m b l c a) eq h))

-- a row of numbers more keeps the bound on how much numbers vary
varies_row : (k m b l c q j : ℕ) (g : ℕ → ℕ) → ((i : ℕ) → i < j → g i ≤ m) → Varies (k + 1) m b (l + j) c q → Varies (k + 1) m b l (c + total_of_first j g) (q + total_of_first j (λ i. g i * g i))
varies_row k m b l c q zero g r h = varies_is _ _ _ _ _ _ _ _ _ (omega arith) (omega arith) (omega arith) h
varies_row k m b l c q (suc j) g r h =
    varies_is _ _ _ _ _ _ _ _ _ refl (omega arith) (omega arith)
    (varies_more k m b l (c + total_of_first j g) (q + total_of_first j (λ i. g i * g i)) (g j) (r j (omega arith))
    (varies_row k m b (l + 1) c q j g (λ i li. r i (omega arith)) (varies_is _ _ _ _ _ _ _ _ _ (omega arith) refl refl h)))

-- rows of numbers have a bound on how much they vary
varies_rows : (k m b l j w : ℕ) (g : ℕ → ℕ → ℕ) → ((y i : ℕ) → y < j → i < w → g y i ≤ m) → Varies (k + 1) m b (l + j * w) 0 0 → Varies (k + 1) m b l (total_of_first j (λ y. total_of_first w (g y))) (total_of_first j (λ y. total_of_first w (λ i. g y i * g y i)))
varies_rows k m b l zero w g r h = varies_is _ _ _ _ _ _ _ _ _ (omega arith) refl refl h
varies_rows k m b l (suc j) w g r h =
    varies_row k m b l (total_of_first j (λ y. total_of_first w (g y))) (total_of_first j (λ y. total_of_first w (λ i. g y i * g y i))) w (g j) (λ i li. r j i (omega arith) li)
    (varies_rows k m b (l + w) j w g (λ y i ly li. r y i (omega arith) li) (varies_is _ _ _ _ _ _ _ _ _ (grind arith) refl refl h))

-- the sum of a row and of rows of numbers up to m
row_total : (j m : ℕ) (g : ℕ → ℕ) → ((i : ℕ) → i < j → g i ≤ m) → total_of_first j g ≤ j * m
row_total zero m g r = omega arith
row_total (suc j) m g r =
    let rest : total_of_first j g ≤ j * m = row_total j m g (λ i li. r i (omega arith)) in
    let last : g j ≤ m = r j (omega arith) in
    grind arith

-- the sum over a square is bounded by its side and its greatest sample
pub box_total : (n m : ℕ) (f : Table) (x y : ℕ) → ((i j : ℕ) → i < n → j < n → f (x + i) (y + j) ≤ m) → box f n x y ≤ n * (n * m)
box_total n m f x y r = row_total n (n * m) (λ j. total_of_first n (λ i. f (x + i) (y + j))) (λ j lj. row_total n m (λ i. f (x + i) (y + j)) (λ i li. r i j li lj))

-- e of 2 * c + 1 numbers that are m, the others being 0
starts : (c e m : ℕ) → (2 * c + 1) * (0 + e * (m * m)) ≤ c * (c + 1) * (m * m) + (0 + e * m) * (0 + e * m)
starts c e m =
    let few : e ≤ c → (2 * c + 1) * e ≤ c * (c + 1) + e * e = λ l.
    let d : ℕ = c - e in
    let k : c ≡ e + (c - e) = omega arith in
    subst (λ (a : ℕ). (2 * a + 1) * e ≤ a * (a + 1) + e * e) (sym k) (grind arith) in
    let many : c + 1 ≤ e → (2 * c + 1) * e ≤ c * (c + 1) + e * e = λ l.
    let k : e ≡ c + 1 + (e - (c + 1)) = omega arith in
    subst (λ (a : ℕ). (2 * c + 1) * a ≤ c * (c + 1) + a * a) (sym k) (grind arith) in
    let either : (2 * c + 1) * e ≤ c * (c + 1) + e * e = grind arith in
    let all : ((2 * c + 1) * e) * (m * m) ≤ (c * (c + 1) + e * e) * (m * m) = mul-le ((2 * c + 1) * e) (m * m) (c * (c + 1) + e * e) (m * m) either (omega arith) in
    grind arith

-- the squares of the samples of a square of n by n
pub box_varies : (n c m : ℕ) (f : Table) (x y : ℕ) → n * n ≡ 2 * c + 1 → ((i j : ℕ) → i < n → j < n → f (x + i) (y + j) ≤ m) → (2 * c + 1) * box (squared f) n x y ≤ c * (c + 1) * (m * m) + box f n x y * box f n x y
box_varies n c m f x y e r =
    let all : Varies (2 * c + 1) m (c * (c + 1) * (m * m)) 0 (box f n x y) (box (squared f) n x y) =
    varies_rows (2 * c) m (c * (c + 1) * (m * m)) 0 n n (λ j i. f (x + i) (y + j)) (λ j i lj li. r i j li lj)
    (record { each = λ k l. starts c k m }) in
    let last = all.each 0 (omega arith) in
    grind (arith, last)

-- The variation after rounding, by h = 2 ^ (bd - 8): p is its greatest number.

-- the spread at 8 bits fits the product
varied_1 : (n b s q p k : ℕ) → n * q ≤ b + s * s → s ≤ k * 1 → b + 0 * k + 0 + 0 * n ≤ 1 * p + 0 → (q + 0) / 1 * n - (s + 0) / 1 * ((s + 0) / 1) ≤ p
varied_1 n b s q p k e l m =
    let d : ℕ = (s + 0) / 1 in
    let a : ℕ = (q + 0) / 1 in
    let near : s ≤ 1 * ((s + 0) / 1) + 0 = omega arith in
    let square : s * s ≤ (1 * ((s + 0) / 1) + 0) * (1 * ((s + 0) / 1) + 0) = mul-le s s (1 * ((s + 0) / 1) + 0) (1 * ((s + 0) / 1) + 0) near near in
    let up : (q + 0) / 1 * 1 ≤ q + 0 = omega arith in
    let scaled : n * ((q + 0) / 1 * 1) ≤ n * (q + 0) = mul-le n ((q + 0) / 1 * 1) n (q + 0) (omega arith) up in
    let few : (s + 0) / 1 ≤ k = omega arith in
    grind arith

-- the spread at 10 bits fits the product
varied_4 : (n b s q p k : ℕ) → n * q ≤ b + s * s → s ≤ k * 4 → b + 8 * k + 1 + 8 * n ≤ 16 * p + 15 → (q + 8) / 16 * n - (s + 2) / 4 * ((s + 2) / 4) ≤ p
varied_4 n b s q p k e l m =
    let d : ℕ = (s + 2) / 4 in
    let a : ℕ = (q + 8) / 16 in
    let near : s ≤ 4 * ((s + 2) / 4) + 1 = omega arith in
    let square : s * s ≤ (4 * ((s + 2) / 4) + 1) * (4 * ((s + 2) / 4) + 1) = mul-le s s (4 * ((s + 2) / 4) + 1) (4 * ((s + 2) / 4) + 1) near near in
    let up : (q + 8) / 16 * 16 ≤ q + 8 = omega arith in
    let scaled : n * ((q + 8) / 16 * 16) ≤ n * (q + 8) = mul-le n ((q + 8) / 16 * 16) n (q + 8) (omega arith) up in
    let few : (s + 2) / 4 ≤ k = omega arith in
    grind arith

-- the spread at 12 bits fits the product
varied_16 : (n b s q p k : ℕ) → n * q ≤ b + s * s → s ≤ k * 16 → b + 224 * k + 49 + 128 * n ≤ 256 * p + 255 → (q + 128) / 256 * n - (s + 8) / 16 * ((s + 8) / 16) ≤ p
varied_16 n b s q p k e l m =
    let d : ℕ = (s + 8) / 16 in
    let a : ℕ = (q + 128) / 256 in
    let near : s ≤ 16 * ((s + 8) / 16) + 7 = omega arith in
    let square : s * s ≤ (16 * ((s + 8) / 16) + 7) * (16 * ((s + 8) / 16) + 7) = mul-le s s (16 * ((s + 8) / 16) + 7) (16 * ((s + 8) / 16) + 7) near near in
    let up : (q + 128) / 256 * 256 ≤ q + 128 = omega arith in
    let scaled : n * ((q + 128) / 256 * 256) ≤ n * (q + 128) = mul-le n ((q + 128) / 256 * 256) n (q + 128) (omega arith) up in
    let few : (s + 8) / 16 ≤ k = omega arith in
    grind arith

-- sums of a square of n samples up to m, of which there are 2 * c + 1
pub record AreSums (c m sum squares : ℕ) : Type 0 where
  pub varies : (2 * c + 1) * squares ≤ c * (c + 1) * (m * m) + sum * sum
  pub total : sum ≤ (2 * c + 1) * m

-- how much nine samples can vary
pub variation_9 : (bd sum squares : ℕ) → IsDepth bd → AreSums 4 (2 ^ bd - 1) sum squares → variation bd 9 sum squares ≤ 1312100
variation_9 bd sum squares h s = elim h [
  | inl e ↦ at_8 (subst (λ (d : ℕ). AreSums 4 (2 ^ d - 1) sum squares) e s) (sym e)
  | inr k ↦ elim k [
    | inl e ↦ at_10 (subst (λ (d : ℕ). AreSums 4 (2 ^ d - 1) sum squares) e s) (sym e)
    | inr e ↦ at_12 (subst (λ (d : ℕ). AreSums 4 (2 ^ d - 1) sum squares) e s) (sym e)
  ]
]
  where
    at_8 : AreSums 4 255 sum squares → 8 ≡ bd → variation bd 9 sum squares ≤ 1312100
    at_8 g e = subst (λ (d : ℕ). variation d 9 sum squares ≤ 1312100) e (varied_1 9 1300500 sum squares 1312100 2295 g.varies (omega (arith, g.total)) (lit≤ tt))

    at_10 : AreSums 4 1023 sum squares → 10 ≡ bd → variation bd 9 sum squares ≤ 1312100
    at_10 g e = subst (λ (d : ℕ). variation d 9 sum squares ≤ 1312100) e (varied_4 9 20930580 sum squares 1312100 2302 g.varies (omega (arith, g.total)) (lit≤ tt))

    at_12 : AreSums 4 4095 sum squares → 12 ≡ bd → variation bd 9 sum squares ≤ 1312100
    at_12 g e = subst (λ (d : ℕ). variation d 9 sum squares ≤ 1312100) e (varied_16 9 335380500 sum squares 1312100 2304 g.varies (omega (arith, g.total)) (lit≤ tt))

-- how much 25 samples can vary
pub variation_25 : (bd sum squares : ℕ) → IsDepth bd → AreSums 12 (2 ^ bd - 1) sum squares → variation bd 25 sum squares ≤ 10300000
variation_25 bd sum squares h s = elim h [
  | inl e ↦ at_8 (subst (λ (d : ℕ). AreSums 12 (2 ^ d - 1) sum squares) e s) (sym e)
  | inr k ↦ elim k [
    | inl e ↦ at_10 (subst (λ (d : ℕ). AreSums 12 (2 ^ d - 1) sum squares) e s) (sym e)
    | inr e ↦ at_12 (subst (λ (d : ℕ). AreSums 12 (2 ^ d - 1) sum squares) e s) (sym e)
  ]
]
  where
    at_8 : AreSums 12 255 sum squares → 8 ≡ bd → variation bd 25 sum squares ≤ 10300000
    at_8 g e = subst (λ (d : ℕ). variation d 25 sum squares ≤ 10300000) e (varied_1 25 10143900 sum squares 10300000 6375 g.varies (omega (arith, g.total)) (lit≤ tt))

    at_10 : AreSums 12 1023 sum squares → 10 ≡ bd → variation bd 25 sum squares ≤ 10300000
    at_10 g e = subst (λ (d : ℕ). variation d 25 sum squares ≤ 10300000) e (varied_4 25 163258524 sum squares 10300000 6394 g.varies (omega (arith, g.total)) (lit≤ tt))

    at_12 : AreSums 12 4095 sum squares → 12 ≡ bd → variation bd 25 sum squares ≤ 10300000
    at_12 g e = subst (λ (d : ℕ). variation d 25 sum squares ≤ 10300000) e (varied_16 25 2615967900 sum squares 10300000 6399 g.varies (omega (arith, g.total)) (lit≤ tt))
