-- The cells of a block are the samples near its samples.
use Rattle.std.proofs.Common.{◌≡◌, ℕ, ℤ, pos, negsuc, ◌+◌, ◌-◌, ◌*◌, ◌/◌, ◌%◌, ◌<◌, ◌≤◌, List, length, get_or, replicate, refl, sym, ◌∙◌, ap, subst, arith, inl, inr, ◌⊎◌, Bool, true, false}
use Rattle.std.specs.Prelude.{if◌then◌else◌, ◌==◌, nat_lt, nat_le, ◌&&◌, not, Some, None}
use Rattle.std.specs.Int.RustNames.{unsigned_abs}
use Rattle.std.proofs.Math.Nat.{mul-le-mul_right}
use Rattle.std.proofs.Math.Bool.{and-false}
use Rattle.std.proofs.lemmas.Int.{ints}
use Rattle.std.proofs.lemmas.Bool.{cases_lt, ne_eqb}
use Rattle.std.proofs.lemmas.Bool.Decides.{nat_tests}
use Rattle.std.proofs.lemmas.List.{get_or-replicate, get_or_default}
use Rattle.av1_plane.specs.Numbers.{InDepth}
use Rattle.av1_cdef.specs.declared.settings.Settings.{Settings}
use Rattle.av1_cdef.specs.declared.pad.Sides.{Sides}
use Rattle.av1_cdef.specs.declared.taps.Taps.{Taps}
use Rattle.av1_cdef.specs.Filter.{InRange, filtered_near}
use Rattle.av1_cdef.specs.Cells.{seen, AreCells, HasSamples, HasBlock}
use Rattle.av1_cdef.specs.Tally.{HasTaps, block_value}
use Rattle.av1_cdef.specs.Pad.{missing, row_cells, window_cells, HoldsWindow, HasPaddedCells}
use Rattle.av1_cdef.specs.Picture.{CdefPicture, sample_at, near, filtered_at, IsHeld, IsBlockOf}
use Rattle.av1_cdef.proofs.Samples.{CellOk, AreSeen, filtered_is}
use Rattle.av1_cdef.proofs.Pads.{rows_after}

-- a cell is missing where the plane has no sample
axis : (k n start size : ℕ) (before after : Bool) → (before ≡ true → 2 ≤ start) → (before ≡ false → start ≡ 0) → (after ≡ true → start + n + 2 ≤ size) → (after ≡ false → start + n ≡ size) → k < n + 4
    → missing k n before after ≡ not (nat_le 2 (start + k) && nat_lt (start + k) (size + 2))
axis k n start size true true a b c d l = let p = a refl in let q = c refl in grind (arith, nat_tests)
axis k n start size true false a b c d l = let p = a refl in let q = d refl in grind (arith, nat_tests)
axis k n start size false true a b c d l = let p = b refl in let q = c refl in grind (arith, nat_tests)
axis k n start size false false a b c d l = let p = b refl in let q = d refl in grind (arith, nat_tests)

-- a number in depth as a cell shows itself
cell_is : (bound : ℕ) (v : ℤ) → bound ≤ 4096 → InDepth bound v → (seen (unsigned_abs v) ≡ Some v) × (unsigned_abs v < bound)
cell_is bound (pos n) l d = let m : n < bound = grind (arith, ints) in let f : (n == 0x8000) ≡ false = ne_eqb n 0x8000 (λ e. omega arith) in (rw f refl, m)
cell_is bound (negsuc n) l d = absurd (grind (arith, ints))

-- a test whose negation holds fails
not_is_true : (t : Bool) → not t ≡ true → t ≡ false
not_is_true true e = sym e
not_is_true false e = refl

-- a test whose negation fails holds
not_is_false : (t : Bool) → not t ≡ false → t ≡ true
not_is_false true e = refl
not_is_false false e = sym e

-- a cell's sample stands at the place that the cell's row and column give
place_is : (origin step x y r c : ℕ) → 2 ≤ y + r → 2 ≤ x + c → (origin + y * step + x) + r * step - 2 * step + c - 2 ≡ origin + (y + r - 2) * step + (x + c - 2)
place_is origin step x y r c lr lc =
    let sum : (y + r) * step ≡ y * step + r * step = grind arith in
    let less : (y + r - 2) * step + 2 * step ≡ (y + r) * step = rows_after (y + r) step lr in
    omega arith

-- a cell of the window is the picture's sample at its place, or the mark of a missing one
pub window_is : (bound n : ℕ) (p : CdefPicture) (x y w h : ℕ) (s : Sides) (r c cell : ℕ) → bound ≤ 4096 → IsHeld bound n p → IsBlockOf p x y w h s → r < h + 4 → c < w + 4
    → cell ≡ window_cells p.samples (p.origin + y * p.step + x) p.step w h s r c → (seen cell ≡ near p x y r c) × ((cell < bound) ⊎ (cell ≡ 0x8000))
unfolding window_cells row_cells
window_is bound n p x y w h s r c cell lb held b lr lc e =
    go (missing r h s.top s.bottom) (missing c w s.left s.right) refl refl
  where
    rows : missing r h s.top s.bottom ≡ not (nat_le 2 (y + r) && nat_lt (y + r) (p.height + 2))
    rows = axis r h y p.height s.top s.bottom b.top b.no_top b.bottom b.no_bottom lr

    columns : missing c w s.left s.right ≡ not (nat_le 2 (x + c) && nat_lt (x + c) (p.width + 2))
    columns = axis c w x p.width s.left s.right b.left b.no_left b.right b.no_right lc

    go : (m k : Bool) → missing r h s.top s.bottom ≡ m → missing c w s.left s.right ≡ k → (seen cell ≡ near p x y r c) × ((cell < bound) ⊎ (cell ≡ 0x8000))
    go true k em ek =
        let is : cell ≡ 0x8000 = e ∙ (rw em refl) in
        let t : (nat_le 2 (y + r) && nat_lt (y + r) (p.height + 2)) ≡ false = not_is_true _ (sym rows ∙ em) in
        (rw (is, t, and-false (nat_le 2 (x + c) && nat_lt (x + c) (p.width + 2))) refl, inr is)
    go false true em ek =
        let is : cell ≡ 0x8000 = e ∙ (rw (em, ek) refl) in
        let t : (nat_le 2 (x + c) && nat_lt (x + c) (p.width + 2)) ≡ false = not_is_true _ (sym columns ∙ ek) in
        (rw (is, t) refl, inr is)
    go false false em ek =
        let ty : (nat_le 2 (y + r) && nat_lt (y + r) (p.height + 2)) ≡ true = not_is_false _ (sym rows ∙ em) in
        let tx : (nat_le 2 (x + c) && nat_lt (x + c) (p.width + 2)) ≡ true = not_is_false _ (sym columns ∙ ek) in
        let fx : (2 ≤ x + c) × (x + c < p.width + 2) = (grind (arith, nat_tests), grind (arith, nat_tests)) in
        let fy : (2 ≤ y + r) × (y + r < p.height + 2) = (grind (arith, nat_tests), grind (arith, nat_tests)) in
        let at : (p.origin + y * p.step + x) + r * p.step - 2 * p.step + c - 2 ≡ p.origin + (y + r - 2) * p.step + (x + c - 2) = place_is p.origin p.step x y r c fy.0 fx.0 in
        let is : cell ≡ unsigned_abs (sample_at p (x + c - 2) (y + r - 2)) = e ∙ (rw (em, ek, at) refl) in
        let fact = cell_is bound (sample_at p (x + c - 2) (y + r - 2)) lb (held.depth (x + c - 2) (y + r - 2) (omega arith) (omega arith)) in
        (rw (is, tx, ty) (fact.0), inl (rw is (fact.1)))

-- The cells of a whole block.

-- the cells near a sample are the samples near it
pub block_seen : (bound n : ℕ) (p : CdefPicture) (x y w h : ℕ) (s : Sides) (xs ys : List ℕ) (i j : ℕ) → bound ≤ 4096 → IsHeld bound n p → IsBlockOf p x y w h s
    → HasPaddedCells 12 w (h + 4) (window_cells p.samples (p.origin + y * p.step + x) p.step w h s) xs ys → i < h → j < w → AreSeen ys (12 * i + j) (near p (x + j) (y + i))
block_seen bound n p x y w h s xs ys i j lb held b cells li lj = record {
  inside = λ r c lr lc. elim (fact r c lr lc).1 [ inl l ↦ inl (omega arith) | inr e ↦ inr e ];
  each = λ r c lr lc. (fact r c lr lc).0;
}
  where
    fact : (r c : ℕ) → r ≤ 4 → c ≤ 4 → (seen (get_or ys (12 * i + j + (12 * r + c)) 0) ≡ near p (x + j) (y + i) r c) × ((get_or ys (12 * i + j + (12 * r + c)) 0 < bound) ⊎ (get_or ys (12 * i + j + (12 * r + c)) 0 ≡ 0x8000))
    fact r c lr lc =
        let at : 12 * i + j + (12 * r + c) ≡ (i + r) * 12 + (j + c) = omega arith in
        let a : x + (j + c) ≡ x + j + c = omega arith in
        let b' : y + (i + r) ≡ y + i + r = omega arith in
        let w' = window_is bound n p x y w h s (i + r) (j + c) (get_or ys ((i + r) * 12 + (j + c)) 0) lb held b (omega arith) (omega arith) (cells.on (i + r) (j + c) (omega arith) (omega arith)) in
        rw at (w'.0 ∙ (rw (a, b') refl), w'.1)

-- the sample in the middle of its neighbours is the sample itself
middle : (p : CdefPicture) (x y : ℕ) → x < p.width → y < p.height → near p x y 2 2 ≡ Some (sample_at p x y)
middle p x y lx ly =
    let tx : (nat_le 2 (x + 2) && nat_lt (x + 2) (p.width + 2)) ≡ true = grind (arith, nat_tests) in
    let ty : (nat_le 2 (y + 2) && nat_lt (y + 2) (p.height + 2)) ≡ true = grind (arith, nat_tests) in
    let ex : x + 2 - 2 ≡ x = omega arith in
    let ey : y + 2 - 2 ≡ y = omega arith in
    rw (tx, ty, ex, ey) refl

-- a cell that shows a sample is its number
some_cell : (c : ℕ) (v : ℤ) → seen c ≡ Some v → CellOk c → (c < 4096) × (pos c ≡ v)
some_cell c v e (inl l) = let f : (c == 0x8000) ≡ false = ne_eqb c 0x8000 (λ e. omega arith) in let is : Some (pos c) ≡ Some v = sym (rw f refl) ∙ e in (l, cc)
some_cell c v e (inr l) = let is : None ≡ Some v = sym (rw l refl) ∙ e in absurd cc

-- the cell of a block's sample is the sample
pub block_sample : (bound n : ℕ) (p : CdefPicture) (x y w h : ℕ) (s : Sides) (xs ys : List ℕ) (i j : ℕ) → bound ≤ 4096 → IsHeld bound n p → IsBlockOf p x y w h s → x + w ≤ p.width → y + h ≤ p.height
    → HasPaddedCells 12 w (h + 4) (window_cells p.samples (p.origin + y * p.step + x) p.step w h s) xs ys → i < h → j < w → (get_or ys (12 * i + j + 26) 0 < 4096) × (pos (get_or ys (12 * i + j + 26) 0) ≡ sample_at p (x + j) (y + i))
block_sample bound n p x y w h s xs ys i j lb held b lx ly cells li lj =
    let are = block_seen bound n p x y w h s xs ys i j lb held b cells li lj in
    let m = middle p (x + j) (y + i) (omega arith) (omega arith) in
    some_cell (get_or ys (12 * i + j + 26) 0) (sample_at p (x + j) (y + i)) (are.each 2 2 (omega arith) (omega arith) ∙ m) (are.inside 2 2 (omega arith) (omega arith))

-- the cells of a block are samples
pub block_samples : (bound n : ℕ) (p : CdefPicture) (x y w h : ℕ) (s : Sides) (xs ys : List ℕ) → bound ≤ 4096 → IsHeld bound n p → IsBlockOf p x y w h s → x + w ≤ p.width → y + h ≤ p.height
    → HasPaddedCells 12 w (h + 4) (window_cells p.samples (p.origin + y * p.step + x) p.step w h s) xs ys → HasSamples w h ys
block_samples bound n p x y w h s xs ys lb held b lx ly cells = record { each = λ i j li lj. (block_sample bound n p x y w h s xs ys i j lb held b lx ly cells li lj).0 }

-- the filtered cells are the filtered samples
pub block_filtered : (bound n : ℕ) (p : CdefPicture) (x y w h : ℕ) (s : Sides) (xs ys : List ℕ) (st : Settings) (t : Taps) (i j : ℕ) → bound ≤ 4096 → IsHeld bound n p → IsBlockOf p x y w h s → x + w ≤ p.width → y + h ≤ p.height → InRange st → HasTaps st t
    → HasPaddedCells 12 w (h + 4) (window_cells p.samples (p.origin + y * p.step + x) p.step w h s) xs ys → i < h → j < w → block_value ys t i j ≡ filtered_at p st x y i j
unfolding block_value filtered_at
block_filtered bound n p x y w h s xs ys st t i j lb held b lx ly range taps cells li lj =
    let are = block_seen bound n p x y w h s xs ys i j lb held b cells li lj in
    let mid = block_sample bound n p x y w h s xs ys i j lb held b lx ly cells li lj in
    filtered_is ys (12 * i + j) st t (near p (x + j) (y + i)) are mid.0 range taps ∙ ap (filtered_near (near p (x + j) (y + i)) st) mid.1

-- the cells before padding
abbrev blank : List ℕ
blank = replicate 144 0x8000

-- the cells of a padded block are in range
pub block_cells : (bound n : ℕ) (p : CdefPicture) (x y w h : ℕ) (s : Sides) (xs ys : List ℕ) → bound ≤ 4096 → w ≤ 8 → IsHeld bound n p → IsBlockOf p x y w h s → xs ≡ blank
    → HasPaddedCells 12 w (h + 4) (window_cells p.samples (p.origin + y * p.step + x) p.step w h s) xs ys → AreCells bound ys
block_cells bound n p x y w h s xs ys lb lw held b e cells = record { each = λ k d l. subst (λ c. (c < bound) ⊎ (c ≡ 0x8000)) (get_or_default ys k 0 d l) (at k l) }
  where
    at : (k : ℕ) → k < length ys → (get_or ys k 0 < bound) ⊎ (get_or ys k 0 ≡ 0x8000)
    at k l =
        let split : k ≡ k / 12 * 12 + k % 12 = omega arith in
        elim (cases_lt (k / 12) (h + 4)) [
          | inl row ↦ elim (cases_lt (k % 12) (w + 4)) [
            | inl column ↦
                let w' = window_is bound n p x y w h s (k / 12) (k % 12) (get_or ys (k / 12 * 12 + k % 12) 0) lb held b row column (cells.on (k / 12) (k % 12) row column) in
                subst (λ m. (get_or ys m 0 < bound) ⊎ (get_or ys m 0 ≡ 0x8000)) (sym split) w'.1
            | inr past ↦ inr (cells.off k (λ y' c ly lc f. omega arith) ∙ old k l)
          ]
          | inr past ↦ inr (cells.off k (λ y' c ly lc f. omega arith) ∙ old k l)
        ]
      where
        old : (k : ℕ) → k < length ys → get_or xs k 0 ≡ 0x8000
        old k l = let same = cells.long in let size : length blank ≡ 144 = refl in let long : length xs ≡ length blank = ap length e in rw e (get_or-replicate 144 k 0x8000 0 (omega arith))

-- what lies before a block is stored
before_fits : (origin step x y : ℕ) (t l : Bool) → (t ≡ true → 2 ≤ y) → (l ≡ true → 2 ≤ x) → (if t then 2 * step else 0) + (if l then 2 else 0) ≤ origin + y * step + x
before_fits origin step x y true true a b = let m : 2 * step ≤ y * step = mul-le-mul_right step (a refl) in let q = b refl in omega arith
before_fits origin step x y true false a b = let m : 2 * step ≤ y * step = mul-le-mul_right step (a refl) in omega arith
before_fits origin step x y false true a b = let q = b refl in omega arith
before_fits origin step x y false false a b = omega arith

-- what lies after a block is stored
after_fits : (n origin step x y w h width height b r : ℕ) → x + w + r ≤ width → y + h + b ≤ height → origin + height * step + width ≤ n + step → origin + y * step + x + (h + b) * step + w + r ≤ n + step
after_fits n origin step x y w h width height b r lx ly inside =
    let rows : (y + h + b) * step ≤ height * step = mul-le-mul_right step ly in
    let split : (y + h + b) * step ≡ y * step + (h + b) * step = grind arith in
    omega arith

-- two samples more fit where the plane goes on
more : (s : Bool) (a b : ℕ) → (s ≡ true → a + 2 ≤ b) → a ≤ b → a + (if s then 2 else 0) ≤ b
more true a b h l = h refl
more false a b h l = omega arith

-- the window of a block is stored
pub window_held : (bound n : ℕ) (p : CdefPicture) (x y w h : ℕ) (s : Sides) → IsHeld bound n p → IsBlockOf p x y w h s → x + w ≤ p.width → y + h ≤ p.height → HoldsWindow n (p.origin + y * p.step + x) p.step w h s
window_held bound n p x y w h s held b lx ly = record {
  before = before_fits p.origin p.step x y s.top s.left b.top b.left;
  after = after_fits n p.origin p.step x y w h p.width p.height (if s.bottom then 2 else 0) (if s.right then 2 else 0) (more s.right (x + w) p.width b.right lx) (more s.bottom (y + h) p.height b.bottom ly) held.inside;
}

-- cells below a bound are below every greater bound
pub cells_wider : (a b : ℕ) (cells : List ℕ) → a ≤ b → AreCells a cells → AreCells b cells
cells_wider a b cells l h = record { each = λ k d lk. elim (h.each k d lk) [ inl m ↦ inl (omega arith) | inr e ↦ inr e ] }

-- a block with equal values is equally filtered
pub block_same : (start step x y w h : ℕ) (f g : ℕ → ℕ → ℤ) (xs ys : List ℤ) → ((i j : ℕ) → i < h → j < w → f i j ≡ g i j) → HasBlock start step x y w h f xs ys → HasBlock start step x y w h g xs ys
block_same start step x y w h f g xs ys e b = record { long = b.long; on = λ i j li lj. b.on i j li lj ∙ e i j li lj; off = b.off }
