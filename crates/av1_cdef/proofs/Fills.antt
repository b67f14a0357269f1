-- The rows of a block with zeros around them.
use Rattle.std.proofs.Common.{◌≡◌, ◌≢◌, ℕ, zero, suc, ◌+◌, ◌-◌, ◌*◌, ◌/◌, ◌<◌, ◌≤◌, List, length, get_or, ◌⊎◌, refl, sym, ◌∙◌, ap, arith, inl, inr, set, length-set, replicate, true, false, eq-eqb, Bool}
use Rattle.std.specs.Prelude.{if◌then◌else◌, ◌==◌, ◌&&◌, ◌||◌, nat_lt, nat_le}
use Rattle.std.proofs.lemmas.List.{get_or-set_other, get_or-replicate}
use Rattle.std.proofs.lemmas.Grind.{get_or-set_at}
use Rattle.std.proofs.lemmas.Bool.{cases_eq, ne_eqb}
use Rattle.std.proofs.lemmas.Bool.Decides.{nat_tests}
use Rattle.av1_cdef.specs.Sums.{total_below}
use Rattle.av1_cdef.specs.Direction.{line_of, sample_in_block, line_sum}
use Rattle.av1_cdef.specs.Fills.{row_cell, pair_cell, padded_block, IsPaddedBlock}

-- Filling, row by row.

-- entry k of row i, of which the first j cells are written
abbrev filled : ℕ → ℕ → (ℕ → ℕ → ℕ) → ℕ → ℕ → ℕ → ℕ → ℕ
filled w o f i j r k = if nat_le o k && nat_lt k (o + w) && (nat_lt r i || (r == i && nat_lt k (o + j))) then f r (k - o) else 0

-- the rows before i are written, and the first j cells of row i
pub record IsFilled (w o : ℕ) (f : ℕ → ℕ → ℕ) (i j : ℕ) (cells : List ℕ) : Type 0 where
  pub long : length cells ≡ 140
  pub small : (m : ℕ) → m < 140 → get_or cells m 0 ≤ 510
  pub at : (r k : ℕ) → r < 8 → k < o + 16 → get_or cells (16 * r + k) 0 ≡ filled w o f i j r k

-- cells of zeros
abbrev zeros : List ℕ
zeros = replicate 140 0

-- each cell of a list of zeros is 0
zeros_at : (m : ℕ) → m < 140 → get_or zeros m 0 ≡ 0
zeros_at m l = get_or-replicate 140 m 0 0 l

-- at first no cell is written
pub fill_start : (w o : ℕ) (f : ℕ → ℕ → ℕ) (cells : List ℕ) → o ≤ 12 → cells ≡ zeros → IsFilled w o f 0 0 cells
fill_start w o f cells small e = record {
  long = rw e refl;
  small = λ m l. let z : get_or cells m 0 ≡ 0 = rw e (zeros_at m l) in omega arith;
  at = λ r k lr lk.
      let z : get_or cells (16 * r + k) 0 ≡ 0 = rw e (zeros_at (16 * r + k) (omega arith)) in
      let t : (nat_le o k && nat_lt k (o + w) && (nat_lt r 0 || (r == 0 && nat_lt k (o + 0)))) ≡ false = grind (arith, nat_tests) in
      z ∙ (rw t refl);
}

-- one cell more is written
pub fill_more : (w o : ℕ) (f : ℕ → ℕ → ℕ) (i j v : ℕ) (cells : List ℕ) → o + w ≡ 16 → i < 8 → j < w → v ≡ f i j → v ≤ 510 → IsFilled w o f i j cells → IsFilled w o f i (j + 1) (set cells (16 * i + o + j) v)
fill_more w o f i j v cells sixteen li lj e most h = record {
  long = length-set cells (16 * i + o + j) v ∙ h.long;
  small = λ m l. elim (cases_eq m (16 * i + o + j)) [
    | inl same ↦ let s : get_or (set cells (16 * i + o + j) v) m 0 ≡ v = get_or-set_at cells (16 * i + o + j) m v 0 same (let long = h.long in omega arith) in omega arith
    | inr other ↦ let s : get_or (set cells (16 * i + o + j) v) m 0 ≡ get_or cells m 0 = get_or-set_other cells (16 * i + o + j) m v 0 other in let was = h.small m l in omega arith
  ];
  at = λ r k lr lk. elim (cases_eq (16 * r + k) (16 * i + o + j)) [
    | inl same ↦
        let s : get_or (set cells (16 * i + o + j) v) (16 * r + k) 0 ≡ v = get_or-set_at cells (16 * i + o + j) (16 * r + k) v 0 same (let long = h.long in omega arith) in
        let er : r ≡ i = omega arith in
        let ek : k ≡ o + j = omega arith in
        let t : (nat_le o k && nat_lt k (o + w) && (nat_lt r i || (r == i && nat_lt k (o + (j + 1))))) ≡ true = grind (arith, nat_tests) in
        let off : k - o ≡ j = omega arith in
        s ∙ e ∙ (rw (t, off, er) refl)
    | inr other ↦
        let s : get_or (set cells (16 * i + o + j) v) (16 * r + k) 0 ≡ get_or cells (16 * r + k) 0 = get_or-set_other cells (16 * i + o + j) (16 * r + k) v 0 other in
        let apart : (r ≢ i) ⊎ (k ≢ o + j) = elim (cases_eq r i) [
          | inl er ↦ inr (λ ek. other (omega arith))
          | inr d ↦ inl d
        ] in
        let t : (nat_le o k && nat_lt k (o + w) && (nat_lt r i || (r == i && nat_lt k (o + (j + 1))))) ≡ (nat_le o k && nat_lt k (o + w) && (nat_lt r i || (r == i && nat_lt k (o + j)))) = grind (arith, nat_tests, apart) in
        s ∙ h.at r k lr lk ∙ (rw t refl)
  ];
}

-- past the end of a row the next one begins
pub fill_row : (w o : ℕ) (f : ℕ → ℕ → ℕ) (i : ℕ) (cells : List ℕ) → IsFilled w o f i w cells → IsFilled w o f (i + 1) 0 cells
fill_row w o f i cells h = record {
  long = h.long;
  small = h.small;
  at = λ r k lr lk.
      let t : (nat_le o k && nat_lt k (o + w) && (nat_lt r (i + 1) || (r == i + 1 && nat_lt k (o + 0)))) ≡ (nat_le o k && nat_lt k (o + w) && (nat_lt r i || (r == i && nat_lt k (o + w)))) = grind (arith, nat_tests) in
      h.at r k lr lk ∙ (rw t refl);
}

-- cells with all rows written are the padded block
pub fill_done : (w o : ℕ) (f : ℕ → ℕ → ℕ) (cells : List ℕ) → IsFilled w o f 8 0 cells → IsPaddedBlock w o f cells
fill_done w o f cells h = record {
  long = h.long;
  small = h.small;
  at = λ r k lr lk.
      let t : (nat_le o k && nat_lt k (o + w) && (nat_lt r 8 || (r == 8 && nat_lt k (o + 0)))) ≡ (nat_le o k && nat_lt k (o + w)) = grind (arith, nat_tests) in
      h.at r k lr lk ∙ (rw t refl);
}

-- a cell of a row is a sample
pub row_cell_is : (block : List ℕ) (i j : ℕ) → row_cell block i j ≡ get_or block (8 * i + j) 0
unfolding row_cell
row_cell_is block i j = refl

-- a cell of a row of pairs is the sum of two samples
pub pair_cell_is : (block : List ℕ) (i j : ℕ) → pair_cell block i j ≡ get_or block (8 * i + 2 * j) 0 + get_or block (8 * i + 2 * j + 1) 0
unfolding pair_cell
pair_cell_is block i j = ap (λ k. get_or block (8 * i + 2 * j) 0 + get_or block k 0) (omega arith)

pub ruleset fills = (fill_row, fill_done)

-- Sums along a line.

-- a sum of eight terms after a leading 0 is the sum of the terms
from_zero : (a b c d e f g h : ℕ) → 0 + a + b + c + d + e + f + g + h ≡ a + b + c + d + e + f + g + h
from_zero a b c d e f g h = omega arith

-- a sum over the numbers below 8 is the sum of its eight terms
eight_terms : (f : ℕ → ℕ) → total_below 8 f ≡ f 0 + f 1 + f 2 + f 3 + f 4 + f 5 + f 6 + f 7
unfolding total_below
eight_terms f = from_zero (f 0) (f 1) (f 2) (f 3) (f 4) (f 5) (f 6) (f 7)

-- two equations that imply each other have equal tests
same_test : (a b c d : ℕ) → (a ≡ b → c ≡ d) → (c ≡ d → a ≡ b) → (a == b) ≡ (c == d)
same_test a b c d f g = elim (cases_eq a b) [
  | inl e ↦ eq-eqb a b e ∙ sym (eq-eqb c d (f e))
  | inr n ↦ ne_eqb a b n ∙ sym (ne_eqb c d (λ e. n (g e)))
]

-- at most one place of a row is on the line
pick : (g f : ℕ → ℕ) (n o k m : ℕ) → ((j : ℕ) → j < m → (g j == n) ≡ (o + j == k)) → total_below m (λ j. if g j == n then f j else 0) ≡ padded_block m o f k
unfolding total_below
pick g f n o k zero h = let t : (nat_le o k && nat_lt k (o + 0)) ≡ false = grind (arith, nat_tests) in rw t refl
pick g f n o k (suc m) h =
    let before = pick g f n o k m (λ j l. h j (omega arith)) in
    elim (cases_eq (o + m) k) [
      | inl e ↦
          let a : (g m == n) ≡ true = h m (omega arith) ∙ eq-eqb (o + m) k e in
          let b : (nat_le o k && nat_lt k (o + m)) ≡ false = grind (arith, nat_tests) in
          let c : (nat_le o k && nat_lt k (o + suc m)) ≡ true = grind (arith, nat_tests) in
          let d : k - o ≡ m = omega arith in
          rw (before, a, b, c, d) (omega arith)
      | inr d ↦
          let a : (g m == n) ≡ false = h m (omega arith) ∙ ne_eqb (o + m) k d in
          let b : (nat_le o k && nat_lt k (o + suc m)) ≡ (nat_le o k && nat_lt k (o + m)) = grind (arith, nat_tests) in
          rw (before, a, b) (omega arith)
    ]

-- the sum of two choices by one test is the choice of the sum
if_plus : (t : Bool) (x y : ℕ) → (if t then x else 0) + (if t then y else 0) ≡ (if t then x + y else 0)
if_plus true x y = refl
if_plus false x y = refl

-- the sum of four pairs by four tests is the sum of their eight terms
four : (a b c d : Bool) (x0 x1 x2 x3 x4 x5 x6 x7 : ℕ)
    → 0 + (if a then x0 else 0) + (if a then x1 else 0) + (if b then x2 else 0) + (if b then x3 else 0) + (if c then x4 else 0) + (if c then x5 else 0) + (if d then x6 else 0) + (if d then x7 else 0)
    ≡ 0 + (if a then x0 + x1 else 0) + (if b then x2 + x3 else 0) + (if c then x4 + x5 else 0) + (if d then x6 + x7 else 0)
four a b c d x0 x1 x2 x3 x4 x5 x6 x7 =
    let p = if_plus a x0 x1 in let q = if_plus b x2 x3 in let r = if_plus c x4 x5 in let s = if_plus d x6 x7 in omega arith

-- summing over neighbours on one line sums over the pairs of them
halves : (g f : ℕ → ℕ) (n : ℕ) → total_below 8 (λ j. if g (j / 2) == n then f j else 0) ≡ total_below 4 (λ j. if g j == n then f (2 * j) + f (2 * j + 1) else 0)
unfolding total_below
halves g f n = four (g 0 == n) (g 1 == n) (g 2 == n) (g 3 == n) (f 0) (f 1) (f 2) (f 3) (f 4) (f 5) (f 6) (f 7)

-- line n of direction d, by the sum of each row
abbrev row_sum : List ℕ → ℕ → ℕ → ℕ → ℕ
row_sum block d n i = total_below 8 (λ j. if line_of d i j == n then sample_in_block block i j else 0)

-- a line is the sum of eight cells, one of each row
pub by_rows : (w o : ℕ) (f : ℕ → ℕ → ℕ) (cells block : List ℕ) (d n : ℕ) (place : ℕ → ℕ) (p0 p1 p2 p3 p4 p5 p6 p7 : ℕ) → IsPaddedBlock w o f cells
    → ((i : ℕ) → i < 8 → row_sum block d n i ≡ padded_block w o (f i) (place i)) → ((i : ℕ) → i < 8 → place i < o + 16)
    → p0 ≡ place 0 → p1 ≡ 16 + place 1 → p2 ≡ 32 + place 2 → p3 ≡ 48 + place 3 → p4 ≡ 64 + place 4 → p5 ≡ 80 + place 5 → p6 ≡ 96 + place 6 → p7 ≡ 112 + place 7
    → get_or cells p0 0 + get_or cells p1 0 + get_or cells p2 0 + get_or cells p3 0 + get_or cells p4 0 + get_or cells p5 0 + get_or cells p6 0 + get_or cells p7 0 ≡ line_sum block d n
by_rows w o f cells block d n place p0 p1 p2 p3 p4 p5 p6 p7 h same inside e0 e1 e2 e3 e4 e5 e6 e7 =
    last _ _ _ _ _ _ _ _ _ _ _ _ _ _ _ _ _ (eight_terms (row_sum block d n))
    (row 0 p0 (omega arith) (omega arith)) (row 1 p1 (omega arith) (omega arith)) (row 2 p2 (omega arith) (omega arith)) (row 3 p3 (omega arith) (omega arith)) (row 4 p4 (omega arith) (omega arith)) (row 5 p5 (omega arith) (omega arith)) (row 6 p6 (omega arith) (omega arith)) (row 7 p7 (omega arith) (omega arith))
  where
    row : (i p : ℕ) → i < 8 → p ≡ 16 * i + place i → get_or cells p 0 ≡ row_sum block d n i
    row i p l e = ap (λ m. get_or cells m 0) e ∙ h.at i (place i) l (inside i l) ∙ sym (same i l)

    last : (a b c d e f g h a' b' c' d' e' f' g' h' s : ℕ) → s ≡ a' + b' + c' + d' + e' + f' + g' + h' → a ≡ a' → b ≡ b' → c ≡ c' → d ≡ d' → e ≡ e' → f ≡ f' → g ≡ g' → h ≡ h' → a + b + c + d + e + f + g + h ≡ s
    last a b c d e f g h a' b' c' d' e' f' g' h' s p q0 q1 q2 q3 q4 q5 q6 q7 = omega arith

-- The rows of the eight directions.

-- the cell of a row on a line of direction 0
pub row_0 : (block : List ℕ) (n i : ℕ) → n < 16 → i < 8 → row_sum block 0 n i ≡ padded_block 8 8 (row_cell block i) (8 + n - i)
unfolding row_cell
row_0 block n i ln li = pick (λ j. i + j) (row_cell block i) n 8 (8 + n - i) 8 (λ j l. same_test (i + j) n (8 + j) (8 + n - i) (λ e. omega arith) (λ e. omega arith))

-- the cell of a row on a line of direction 4
pub row_4 : (block : List ℕ) (n i : ℕ) → n < 16 → i < 8 → row_sum block 4 n i ≡ padded_block 8 8 (row_cell block i) (15 + i - n)
unfolding row_cell
row_4 block n i ln li = pick (λ j. 7 + i - j) (row_cell block i) n 8 (15 + i - n) 8 (λ j l. same_test (7 + i - j) n (8 + j) (15 + i - n) (λ e. omega arith) (λ e. omega arith))

-- the cell of a row on a line of direction 5
pub row_5 : (block : List ℕ) (n i : ℕ) → n < 16 → i < 8 → row_sum block 5 n i ≡ padded_block 8 8 (row_cell block i) (5 + n + i / 2)
unfolding row_cell
row_5 block n i ln li = pick (λ j. 3 - i / 2 + j) (row_cell block i) n 8 (5 + n + i / 2) 8 (λ j l. same_test (3 - i / 2 + j) n (8 + j) (5 + n + i / 2) (λ e. omega arith) (λ e. omega arith))

-- the cell of a row on a line of direction 6
pub row_6 : (block : List ℕ) (n i : ℕ) → n < 16 → i < 8 → row_sum block 6 n i ≡ padded_block 8 8 (row_cell block i) (8 + n)
unfolding row_cell
row_6 block n i ln li = pick (λ j. j) (row_cell block i) n 8 (8 + n) 8 (λ j l. same_test j n (8 + j) (8 + n) (λ e. omega arith) (λ e. omega arith))

-- the cell of a row on a line of direction 7
pub row_7 : (block : List ℕ) (n i : ℕ) → n < 16 → i < 8 → row_sum block 7 n i ≡ padded_block 8 8 (row_cell block i) (8 + n - i / 2)
unfolding row_cell
row_7 block n i ln li = pick (λ j. i / 2 + j) (row_cell block i) n 8 (8 + n - i / 2) 8 (λ j l. same_test (i / 2 + j) n (8 + j) (8 + n - i / 2) (λ e. omega arith) (λ e. omega arith))

-- the pair of a row on a line of direction 1
pub row_1 : (block : List ℕ) (n i : ℕ) → n < 16 → i < 8 → row_sum block 1 n i ≡ padded_block 4 12 (pair_cell block i) (12 + n - i)
unfolding pair_cell
row_1 block n i ln li = halves (λ c. i + c) (sample_in_block block i) n ∙ pick (λ j. i + j) (pair_cell block i) n 12 (12 + n - i) 4 (λ j l. same_test (i + j) n (12 + j) (12 + n - i) (λ e. omega arith) (λ e. omega arith))

-- the pair of a row on a line of direction 3
pub row_3 : (block : List ℕ) (n i : ℕ) → n < 16 → i < 8 → row_sum block 3 n i ≡ padded_block 4 12 (pair_cell block i) (15 + i - n)
unfolding pair_cell
row_3 block n i ln li = halves (λ c. 3 + i - c) (sample_in_block block i) n ∙ pick (λ j. 3 + i - j) (pair_cell block i) n 12 (15 + i - n) 4 (λ j l. same_test (3 + i - j) n (12 + j) (15 + i - n) (λ e. omega arith) (λ e. omega arith))

-- The lines of direction 2 are the rows.

-- a test that doesn't depend on the term may stand before the sum
if_sum : (t : Bool) (f : ℕ → ℕ) → total_below 8 (λ j. if t then f j else 0) ≡ (if t then total_below 8 f else 0)
unfolding total_below
if_sum true f = refl
if_sum false f = refl

-- sums of equal terms are equal
sum_same : (f g : ℕ → ℕ) (n : ℕ) → ((i : ℕ) → i < n → f i ≡ g i) → total_below n f ≡ total_below n g
unfolding total_below
sum_same f g zero h = refl
sum_same f g (suc n) h = let a = sum_same f g n (λ i l. h i (omega arith)) in let b = h n (omega arith) in omega arith

-- a line of direction 2 is a row of the block
line_2 : (block : List ℕ) (n : ℕ) → line_sum block 2 n ≡ padded_block 8 0 (λ i. total_below 8 (sample_in_block block i)) n
line_2 block n =
    sum_same (row_sum block 2 n) (λ i. if i == n then total_below 8 (sample_in_block block i) else 0) 8 (λ i l. if_sum (i == n) (sample_in_block block i))
    ∙ pick (λ i. i) (λ i. total_below 8 (sample_in_block block i)) n 0 n 8 (λ j l. ap (λ m. m == n) (omega arith))

-- direction 2 has no more than eight lines
pub line_2_past : (block : List ℕ) (n : ℕ) → 8 ≤ n → line_sum block 2 n ≡ 0
line_2_past block n l = line_2 block n ∙ (let t : (nat_le 0 n && nat_lt n (0 + 8)) ≡ false = grind (arith, nat_tests) in rw t refl)

-- a line of direction 2 is the sum of four pairs
pub line_2_row : (block pairs : List ℕ) (n : ℕ) → n < 8 → IsPaddedBlock 4 12 (pair_cell block) pairs
    → get_or pairs (16 * n + 12) 0 + get_or pairs (16 * n + 13) 0 + get_or pairs (16 * n + 14) 0 + get_or pairs (16 * n + 15) 0 ≡ line_sum block 2 n
unfolding pair_cell
line_2_row block pairs n l h =
    last _ _ _ _ _ _ _ _ _ _ _ _ _ (eight_terms (sample_in_block block n)) (h.at n 12 l (omega arith)) (h.at n 13 l (omega arith)) (h.at n 14 l (omega arith)) (h.at n 15 l (omega arith))
    ∙ sym (line_2 block n ∙ (let t : (nat_le 0 n && nat_lt n (0 + 8)) ≡ true = grind (arith, nat_tests) in rw t (ap (λ i. total_below 8 (sample_in_block block i)) (omega arith))))
  where
    last : (p q r t a b c d e f g h s : ℕ) → s ≡ a + b + c + d + e + f + g + h → p ≡ a + b → q ≡ c + d → r ≡ e + f → t ≡ g + h → p + q + r + t ≡ s
    last p q r t a b c d e f g h s w x y z u = omega arith
