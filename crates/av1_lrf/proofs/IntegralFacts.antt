-- Prefix sums, row by row.
use Rattle.std.proofs.Common.{◌≡◌, ◌≢◌, ℕ, zero, suc, ◌+◌, ◌*◌, ◌<◌, ◌≤◌, ◌%◌, ◌^◌, List, length, get_or, set, get_or-set_same, get_or-set_other, length-set, refl, ◌∙◌, ap, sym, subst, arith}
use Rattle.std.proofs.lemmas.Nat.{mul-le}
use Rattle.std.proofs.lemmas.Bool.Decides.{nat_tests}
use Rattle.av1_lrf.specs.Sums.{total_of_first}
use Rattle.av1_lrf.specs.Integral.{HasSumRun, HasCornerSums, corner_sum}
use Rattle.av1_lrf.specs.Guided.{Table}

-- a run of no cells changes nothing
pub cells_none : (at : ℕ) (f : ℕ → ℕ) (xs : List ℕ) → HasSumRun at 0 f xs xs
cells_none at f xs = record { on = λ i l. absurd (omega arith); off = λ k h. refl; long = refl }

-- one cell more of a run is written
pub cells_more : (at i : ℕ) (f : ℕ → ℕ) (xs ys : List ℕ) (v : ℕ) → at + i < length ys → v ≡ f i → HasSumRun at i f xs ys → HasSumRun at (i + 1) f xs (set ys (at + i) v)
cells_more at i f xs ys v l e h = record { on = on; off = off; long = length-set ys (at + i) v ∙ h.long }
  where
    same : get_or (set ys (at + i) v) (at + i) 0 ≡ v
    same = get_or-set_same ys (at + i) v 0 l

    other : (k : ℕ) → k ≢ at + i → get_or (set ys (at + i) v) k 0 ≡ get_or ys k 0
    other k n = get_or-set_other ys (at + i) k v 0 n

    on : (j : ℕ) → j < i + 1 → get_or (set ys (at + i) v) (at + j) 0 ≡ f j
    on j lj =
        let below : j < i → get_or ys (at + j) 0 ≡ f j = h.on j in
        let elsewhere : at + j ≢ at + i → get_or (set ys (at + i) v) (at + j) 0 ≡ get_or ys (at + j) 0 = other (at + j) in
        let here : j ≡ i → get_or (set ys (at + i) v) (at + j) 0 ≡ f j = λ d. ap (λ n. get_or (set ys (at + i) v) (at + n) 0) d ∙ same ∙ e ∙ sym (ap f d) in
        grind (arith, nat_tests)

    off : (k : ℕ) → ((j : ℕ) → j < i + 1 → k ≢ at + j) → get_or (set ys (at + i) v) k 0 ≡ get_or xs k 0
    off k n = other k (n i (omega arith)) ∙ h.off k (λ j lj. n j (omega arith))

-- a run of as many cells is the run
pub cells_size : (at m n : ℕ) (f : ℕ → ℕ) (xs ys : List ℕ) → m ≡ n → HasSumRun at m f xs ys → HasSumRun at n f xs ys
cells_size at m n f xs ys e h = subst (λ k. HasSumRun at k f xs ys) e h

-- one entry more adds to a sum modulo 2^32
pub total_more : (i : ℕ) (g : ℕ → ℕ) (s : ℕ) → s ≡ total_of_first i g % 2 ^ 32 → (s + g i) % 2 ^ 32 ≡ total_of_first (i + 1) g % 2 ^ 32
total_more i g s e =
    let next : i + 1 ≡ suc i = omega arith in
    let more : total_of_first (i + 1) g ≡ total_of_first i g + g i = ap (λ (n : ℕ). total_of_first n g) next in
    omega arith

-- the sum of zeros is 0
zero_rows : (n : ℕ) → total_of_first n (λ y. 0) ≡ 0
zero_rows zero = refl
zero_rows (suc n) = let rest : total_of_first n (λ y. 0) ≡ 0 = zero_rows n in omega arith

-- the sum over no column is 0
zero_corner : (f : Table) (r : ℕ) → corner_sum f 0 r ≡ 0
unfolding corner_sum
zero_corner f r = zero_rows r

-- equal numbers modulo 2^32 have equal sums modulo 2^32
wrapped_sum : (a b s t : ℕ) → a ≡ b % 2 ^ 32 → s ≡ t → (a + s) % 2 ^ 32 ≡ (b + t) % 2 ^ 32
wrapped_sum a b s t e f = omega arith

-- the cell above and the row's sum give the corner's sum modulo 2^32
pub cell_sum : (a b s t : ℕ) → a ≡ b → s ≡ t % 2 ^ 32 → (a + s) % 2 ^ 32 ≡ (b + t) % 2 ^ 32
cell_sum a b s t e f = omega arith

-- a corner sum is that of the rows above and a row
corner_row : (f : Table) (c j : ℕ) → corner_sum f c (j + 1) ≡ corner_sum f c j + total_of_first c (λ i. f i j)
unfolding corner_sum
corner_row f c j =
    let next : j + 1 ≡ suc j = omega arith in
    ap (λ (n : ℕ). total_of_first n (λ y. total_of_first c (λ i. f i y))) next

-- sums of equal terms are equal
same_below : (n : ℕ) (g h : ℕ → ℕ) → ((i : ℕ) → i < n → g i ≡ h i) → total_of_first n g ≡ total_of_first n h
same_below zero g h e = refl
same_below (suc n) g h e =
    let rest : total_of_first n g ≡ total_of_first n h = same_below n g h (λ i l. e i (omega arith)) in
    let last : g n ≡ h n = e n (omega arith) in
    omega arith

-- the sums above the first row are 0
pub corners_none : (f : Table) (step cols : ℕ) (xs ys : List ℕ) → HasSumRun 0 (cols + 1) (λ i. 0) xs ys → HasCornerSums f step cols 0 ys
unfolding corner_sum
corners_none f step cols xs ys h = record { each = each }
  where
    each : (c r : ℕ) → c < cols + 1 → r < 0 + 1 → get_or ys (r * step + c) 0 ≡ corner_sum f c r % 2 ^ 32
    each c r lc lr =
        let none : r ≡ 0 = omega arith in
        let place : r * step + c ≡ 0 + c = rw none (omega arith) in
        let total : corner_sum f c r ≡ 0 = rw none refl in
        let rest : corner_sum f c r % 2 ^ 32 ≡ 0 = rw total refl in
        ap (λ (k : ℕ). get_or ys k 0) place ∙ h.on c lc ∙ sym rest

-- one row more of prefix sums is in the cells
pub corners_more : (f : Table) (step cols j : ℕ) (g : ℕ → ℕ) (a b c : List ℕ) → cols < step → (j + 1) * step + cols < length a → b ≡ set a ((j + 1) * step) 0 → HasSumRun ((j + 1) * step + 1) cols (λ i. (get_or b (j * step + 1 + i) 0 + total_of_first (i + 1) g) % 2 ^ 32) b c → HasCornerSums f step cols j a → ((i : ℕ) → i < cols → g i ≡ f i j) → HasCornerSums f step cols (j + 1) c
corners_more f step cols j g a b c wide inside made run h e = record { each = each }
  where
    next : (j + 1) * step ≡ j * step + step
    next = grind arith

    old : (x r : ℕ) → x < cols + 1 → r < j + 1 → get_or b (r * step + x) 0 ≡ corner_sum f x r % 2 ^ 32
    old x r lx lr =
        let rows : (r + 1) * step ≤ (j + 1) * step = mul-le (r + 1) step (j + 1) step (omega arith) (omega arith) in
        let apart : r * step + x ≢ (j + 1) * step = λ d. omega arith in
        ap (λ (ys : List ℕ). get_or ys (r * step + x) 0) made ∙ get_or-set_other a ((j + 1) * step) (r * step + x) 0 0 apart ∙ h.each x r lx lr

    kept : (x r : ℕ) → x < cols + 1 → r < j + 1 → get_or c (r * step + x) 0 ≡ corner_sum f x r % 2 ^ 32
    kept x r lx lr =
        let rows : (r + 1) * step ≤ (j + 1) * step = mul-le (r + 1) step (j + 1) step (omega arith) (omega arith) in
        run.off (r * step + x) (λ i li. λ d. omega arith) ∙ old x r lx lr

    first : get_or c ((j + 1) * step + 0) 0 ≡ corner_sum f 0 (j + 1) % 2 ^ 32
    first =
        let place : (j + 1) * step + 0 ≡ (j + 1) * step = omega arith in
        let none : corner_sum f 0 j % 2 ^ 32 ≡ corner_sum f 0 (j + 1) % 2 ^ 32 = ap (λ (n : ℕ). n % 2 ^ 32) (sym (corner_row f 0 j ∙ omega arith)) in
        let above : corner_sum f 0 (j + 1) ≡ 0 = zero_corner f (j + 1) in
        let zero_rest : 0 ≡ corner_sum f 0 (j + 1) % 2 ^ 32 = rw above refl in
        ap (λ (k : ℕ). get_or c k 0) place
        ∙ run.off ((j + 1) * step) (λ i li. λ d. omega arith)
        ∙ ap (λ (ys : List ℕ). get_or ys ((j + 1) * step) 0) made ∙ get_or-set_same a ((j + 1) * step) 0 0 (omega arith) ∙ zero_rest

    later : (i : ℕ) → i < cols → get_or c ((j + 1) * step + (i + 1)) 0 ≡ corner_sum f (i + 1) (j + 1) % 2 ^ 32
    later i li =
        let place : (j + 1) * step + (i + 1) ≡ (j + 1) * step + 1 + i = omega arith in
        let up : j * step + 1 + i ≡ j * step + (i + 1) = omega arith in
        let above : get_or b (j * step + 1 + i) 0 ≡ corner_sum f (i + 1) j % 2 ^ 32 = ap (λ (k : ℕ). get_or b k 0) up ∙ old (i + 1) j (omega arith) (omega arith) in
        let same : total_of_first (i + 1) g ≡ total_of_first (i + 1) (λ k. f k j) = same_below (i + 1) g (λ k. f k j) (λ k lk. e k (omega arith)) in
        let row : corner_sum f (i + 1) (j + 1) ≡ corner_sum f (i + 1) j + total_of_first (i + 1) (λ k. f k j) = corner_row f (i + 1) j in
        ap (λ (k : ℕ). get_or c k 0) place ∙ run.on i li
        ∙ wrapped_sum _ (corner_sum f (i + 1) j) _ (total_of_first (i + 1) (λ k. f k j)) above same
        ∙ ap (λ (n : ℕ). n % 2 ^ 32) (sym row)

    each : (x r : ℕ) → x < cols + 1 → r < j + 1 + 1 → get_or c (r * step + x) 0 ≡ corner_sum f x r % 2 ^ 32
    each x r lx lr =
        let above : r < j + 1 → get_or c (r * step + x) 0 ≡ corner_sum f x r % 2 ^ 32 = kept x r lx in
        let here : r ≡ j + 1 → get_or c (r * step + x) 0 ≡ corner_sum f x r % 2 ^ 32 = λ d. subst (λ (k : ℕ). get_or c (k * step + x) 0 ≡ corner_sum f x k % 2 ^ 32) (sym d) (last x lx) in
        grind (arith, nat_tests)
      where
        last : (x : ℕ) → x < cols + 1 → get_or c ((j + 1) * step + x) 0 ≡ corner_sum f x (j + 1) % 2 ^ 32
        last zero l = first
        last (suc i) l =
            let at : suc i ≡ i + 1 = omega arith in
            subst (λ (k : ℕ). get_or c ((j + 1) * step + k) 0 ≡ corner_sum f k (j + 1) % 2 ^ 32) (sym at) (later i (omega arith))

-- the square of a sample of 16 bits fits 32 bits
pub square_fits : (v : ℕ) → v ≤ 65535 → v * v < 2 ^ 32
square_fits v l =
    let most : v * v ≤ 65535 * 65535 = mul-le v v 65535 65535 l l in
    omega arith

pub ruleset sums = (cells_none, square_fits)
