-- Sums by taps, and cells that hold them.
use Rattle.std.proofs.Common.{◌≡◌, ℕ, zero, suc, ℤ, pos, ◌+◌, ◌-◌, ◌*◌, ◌+ℤ◌, ◌*ℤ◌, ◌<◌, ◌≤◌, List, length, get_or, refl, sym, ◌∙◌, ap, arith}
use Rattle.std.proofs.lemmas.Bool.Decides.{nat_tests}
use Rattle.av1_lrf.specs.Sums.{sum_of_first}
use Rattle.av1_lrf.specs.Rows.{sample, Scene, stripe_source, nearest_in_stripe, in_stripe}
use Rattle.av1_lrf.specs.Runs.{HasSampleRun}
use Rattle.av1_lrf.specs.Wiener.{Rounding, reduced, tapped, wiener_across, down}
use Rattle.av1_lrf.specs.Taps.{HasStripeCells}

-- sums of equal terms are equal
pub sum_same : (n : ℕ) (f g : ℕ → ℤ) → ((k : ℕ) → k < n → f k ≡ g k) → sum_of_first n f ≡ sum_of_first n g
sum_same zero f g h = refl
sum_same (suc n) f g h =
    let rest : sum_of_first n f ≡ sum_of_first n g = sum_same n f g (λ k l. h k (omega arith)) in
    let last : f n ≡ g n = h n (omega arith) in
    ap (λ a. a +ℤ f n) rest ∙ ap (λ b. sum_of_first n g +ℤ b) last

-- equal numbers have equal sums by taps
pub tapped_same : (ts : List ℤ) (f g : ℕ → ℤ) → ((k : ℕ) → k < 7 → f k ≡ g k) → tapped ts f ≡ tapped ts g
tapped_same ts f g h = sum_same 7 (λ i. sample ts i *ℤ f i) (λ i. sample ts i *ℤ g i) (λ k l. ap (λ v. sample ts k *ℤ v) (h k l))

-- a sum across of read samples is the sum of the definition
pub across_made : (r : Rounding) (ts : List ℤ) (s : Scene) (x y : ℕ) (f : ℕ → ℤ) → ((k : ℕ) → k < 7 → f k ≡ stripe_source s (x + k) y) → reduced r (tapped ts f) ≡ wiener_across r ts s x y
unfolding wiener_across
across_made r ts s x y f h = ap (reduced r) (tapped_same ts f (λ k. stripe_source s (x + k) y) h)

-- equal rows have equal sums down
pub down_made : (ra : Rounding) (ta : List ℤ) (rd : Rounding) (td : List ℤ) (s : Scene) (x y : ℕ) (f : ℕ → ℤ) → ((k : ℕ) → k < 7 → f k ≡ wiener_across ra ta s x (y + k)) → reduced rd (tapped td f) ≡ down ra ta rd td s x y
unfolding down
down_made ra ta rd td s x y f h = ap (reduced rd) (tapped_same td f (λ k. wiener_across ra ta s x (y + k)) h)

-- a line that holds a row has the numbers that the stripe reads
pub line_source : (s : Scene) (row line : List ℤ) (x y i width : ℕ) → 0 < s.enhanced.width → i < length line → width ≡ s.enhanced.width → ((at : ℕ) → at < s.enhanced.width → get_or row at (pos 0) ≡ in_stripe s at (nearest_in_stripe s.enhanced.height y)) → ((k : ℕ) → k < length line → get_or line k (pos 0) ≡ get_or row (nearest_in_stripe width (x + k)) (pos 0)) → get_or line i (pos 0) ≡ stripe_source s (x + i) y
line_source s row line x y i width some l e r f =
    f i l ∙ ap (λ w. get_or row (nearest_in_stripe w (x + i)) (pos 0)) e ∙ r (nearest_in_stripe s.enhanced.width (x + i)) (omega arith)

-- a row that is read past its ends reads as the stripe's row
pub row_source : (s : Scene) (row : List ℤ) (x y width : ℕ) → 0 < s.enhanced.width → width ≡ s.enhanced.width → ((at : ℕ) → at < s.enhanced.width → get_or row at (pos 0) ≡ in_stripe s at (nearest_in_stripe s.enhanced.height y)) → get_or row (nearest_in_stripe width x) (pos 0) ≡ stripe_source s x y
row_source s row x y width some e r =
    ap (λ w. get_or row (nearest_in_stripe w x) (pos 0)) e ∙ r (nearest_in_stripe s.enhanced.width x) (omega arith)

-- cells of no rows have all values asked for
pub no_cells : (n : ℕ) (f : ℕ → ℕ → ℤ) (xs : List ℤ) → HasStripeCells n 0 f xs
no_cells n f xs = record { each = λ i j l m. absurd (omega arith) }

-- one row of cells more is filtered
pub cells_more : (n m : ℕ) (f : ℕ → ℕ → ℤ) (g : ℕ → ℤ) (xs ys : List ℤ) → n ≤ 64 → HasStripeCells n m f xs → HasSampleRun (m * 64) n g xs ys → ((i : ℕ) → i < n → g i ≡ f i m) → HasStripeCells n (m + 1) f ys
cells_more n m f g xs ys small h run e = record { each = each }
  where
    each : (i j : ℕ) → i < n → j < m + 1 → get_or ys (j * 64 + i) (pos 0) ≡ f i j
    each i j li lj =
        let kept : j < m → get_or ys (j * 64 + i) (pos 0) ≡ f i j = λ l. run.off (j * 64 + i) (λ k lk. λ d. omega arith) ∙ h.each i j li l in
        let made : j ≡ m → get_or ys (j * 64 + i) (pos 0) ≡ f i j = λ d. ap (λ k. get_or ys (k * 64 + i) (pos 0)) d ∙ run.on i li ∙ e i li ∙ sym (ap (f i) d) in
        grind (arith, nat_tests)

-- the sum down of cells that hold sums across
pub cells_down : (ra : Rounding) (ta : List ℤ) (rd : Rounding) (td : List ℤ) (s : Scene) (x y n rows : ℕ) (xs : List ℤ) → HasStripeCells n (rows + 6) (λ i j. wiener_across ra ta s (x + i) (y + j)) xs → (a b : ℕ) → x ≤ a → a < x + n → y ≤ b → b < y + rows → reduced rd (tapped td (λ k. sample xs ((b - y) * 64 + (a - x) + k * 64))) ≡ down ra ta rd td s a b
cells_down ra ta rd td s x y n rows xs h a b lx hx ly hy =
    down_made ra ta rd td s a b (λ k. sample xs ((b - y) * 64 + (a - x) + k * 64)) each
  where
    each : (k : ℕ) → k < 7 → sample xs ((b - y) * 64 + (a - x) + k * 64) ≡ wiener_across ra ta s a (b + k)
    each k l =
        let at : (b - y) * 64 + (a - x) + k * 64 ≡ (b - y + k) * 64 + (a - x) = omega arith in
        let col : x + (a - x) ≡ a = omega arith in
        let row : y + (b - y + k) ≡ b + k = omega arith in
        ap (λ (i : ℕ). sample xs i) at ∙ h.each (a - x) (b - y + k) (omega arith) (omega arith)
        ∙ ap (λ (i : ℕ). wiener_across ra ta s i (y + (b - y + k))) col ∙ ap (λ (j : ℕ). wiener_across ra ta s a j) row

pub ruleset cells = (no_cells)
