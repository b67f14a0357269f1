-- Blocks written row by row.
use Rattle.std.proofs.Common.{◌≡◌, ◌≢◌, ℕ, ℤ, pos, zero, suc, ◌+◌, ◌-◌, ◌*◌, ◌/◌, ◌<◌, ◌≤◌, min, max, List, length, get_or, map, refl, sym, ◌∙◌, ap, subst, arith, zero-add, inl, inr, ◌⊎◌}
use Rattle.std.specs.Prelude.{if◌then◌else◌, nat_lt}
use Rattle.std.specs.Int.{abs_diff}
use Rattle.std.proofs.Math.Nat.{mul-le-mul_right}
use Rattle.std.proofs.lemmas.Bool.{cases_lt, cases_eq}
use Rattle.std.proofs.lemmas.List.{get_or-set_other, get_or-map, length-map}
use Rattle.std.proofs.lemmas.Grind.{get_or-set_at}
use Rattle.std.proofs.lemmas.List.Elements.{All-get_or}
use Rattle.av1_plane.specs.Numbers.{Below, InDepth}
use Rattle.av1_plane.specs.Region.{spot}
use Rattle.av1_plane.specs.Runs.{placed}
use Rattle.av1_cdef.specs.Cells.{AreCells, HasBlock}
use Rattle.av1_cdef.specs.Picture.{CdefPicture}
use Rattle.av1_cdef.specs.Part.{copied_at}
use Rattle.av1_cdef.specs.Tally.{counted, counted_pair, tallied, filtered_cell, block_value}
use Rattle.av1_cdef.specs.declared.tally.Tally.{Tally}
use Rattle.av1_cdef.specs.declared.taps.Taps.{Taps}
use Rattle.av1_plane.proofs.Runs.{length-placed}

-- a placed number stands at its place
pub placed_at : (xs : List ℤ) (at : ℕ) (ys : List ℤ) (first n i d : ℕ) → i ≡ at + d → d < n → i < length xs → get_or (placed xs at ys first n) i (pos 0) ≡ get_or ys (first + d) (pos 0)
unfolding placed
placed_at xs at ys first zero i d e l h = absurd (omega arith)
placed_at xs at ys first (suc n) i d e l h =
    let long : length (placed xs at ys first n) ≡ length xs = length-placed xs at ys first n in
    elim (cases_eq d n) [
      | inl same ↦ get_or-set_at (placed xs at ys first n) (at + n) i (get_or ys (first + n) (pos 0)) (pos 0) (omega arith) (omega arith) ∙ ap (λ m. get_or ys (first + m) (pos 0)) (sym same)
      | inr other ↦ get_or-set_other (placed xs at ys first n) (at + n) i (get_or ys (first + n) (pos 0)) (pos 0) (λ f. other (omega arith)) ∙ placed_at xs at ys first n i d e (omega arith) h
    ]

-- places outside a run keep what stood there
pub placed_off : (xs : List ℤ) (at : ℕ) (ys : List ℤ) (first n i : ℕ) → ((d : ℕ) → d < n → i ≢ at + d) → get_or (placed xs at ys first n) i (pos 0) ≡ get_or xs i (pos 0)
unfolding placed
placed_off xs at ys first zero i h = refl
placed_off xs at ys first (suc n) i h =
    get_or-set_other (placed xs at ys first n) (at + n) i (get_or ys (first + n) (pos 0)) (pos 0) (λ f. h n (omega arith) f) ∙ placed_off xs at ys first n i (λ d l. h d (omega arith))

-- a row ends before each later row begins
row_below : (s y i j : ℕ) → i < j → (y + i) * s + s ≤ (y + j) * s
row_below s y i j l =
    let rows : (y + i + 1) * s ≤ (y + j) * s = mul-le-mul_right s (omega arith) in
    let more : (y + i + 1) * s ≡ (y + i) * s + s = grind arith in
    omega arith

-- a block of no rows changes nothing
pub block_none : (start step x y w : ℕ) (value : ℕ → ℕ → ℤ) (xs : List ℤ) → HasBlock start step x y w 0 value xs xs
block_none start step x y w value xs = record { long = refl; on = λ i j li lj. absurd (omega arith); off = λ k h. refl }

-- one row of a block more, which stands in a list from place `first` on
pub block_more : (start step x y w h : ℕ) (value : ℕ → ℕ → ℤ) (xs ys row : List ℤ) (first : ℕ) (zs : List ℤ) → x + w ≤ step → spot start step (x + w) (y + h) ≤ length xs → HasBlock start step x y w h value xs ys
    → ((j : ℕ) → j < w → get_or row (first + j) (pos 0) ≡ value h j) → zs ≡ placed ys (spot start step x (y + h)) row first w → HasBlock start step x y w (h + 1) value xs zs
block_more start step x y w h value xs ys row first zs wide inside b is e = record {
  long = rw e (length-placed ys (spot start step x (y + h)) row first w ∙ b.long);
  on = λ i j li lj. rw e (elim (cases_lt i h) [
    | inl before ↦
        let apart = row_below step y i h before in
        placed_off ys (spot start step x (y + h)) row first w (spot start step (x + j) (y + i)) (λ d ld f. omega arith) ∙ b.on i j before lj
    | inr here ↦
        let same : i ≡ h = omega arith in
        rw same (let at : spot start step (x + j) (y + h) ≡ spot start step x (y + h) + j = omega arith in
        let long = b.long in
        placed_at ys (spot start step x (y + h)) row first w (spot start step (x + j) (y + h)) j at lj (omega arith) ∙ is j lj)
  ]);
  off = λ k f. rw e (placed_off ys (spot start step x (y + h)) row first w k (λ d ld g. f h d (omega arith) ld (g ∙ omega arith)) ∙ b.off k (λ i j li lj. f i j (omega arith) lj));
}

-- Filtered samples are no greater than their taps.

-- a cell below a bound, or the cell past the plane
abbrev Ok : ℕ → ℕ → Type 0
Ok b c = (c < b) ⊎ (c ≡ 0x8000)

-- a tap leaves the greatest below the bound
counted_below : (b : ℕ) (t : Tally) (x cell weight strength shift : ℕ) → t.greatest < b → Ok b cell → (counted t x cell weight strength shift).greatest < b
unfolding counted
counted_below b t x cell weight strength shift h (inl l) = omega arith
counted_below b t x cell weight strength shift h (inr e) = rw e (omega arith)

-- each cell of a list of cells is a sample below the bound, or the mark of a missing one
cell_ok : (b : ℕ) (cells : List ℕ) (i : ℕ) → AreCells b cells → i < length cells → Ok b (get_or cells i 0)
cell_ok b cells i h l = All-get_or (λ c. (c < b) ⊎ (c ≡ 0x8000)) cells i 0 l h.each

-- counting two taps keeps the greatest sample below the bound
pair_below : (b : ℕ) (t : Tally) (cells : List ℕ) (at x place weight strength shift : ℕ) → place ≤ 52 → at + 52 < length cells → AreCells b cells → t.greatest < b → (counted_pair t cells at x place weight strength shift).greatest < b
unfolding counted_pair
pair_below b t cells at x place weight strength shift l m h g =
    counted_below b (counted t x (get_or cells (at + place) 0) weight strength shift) x (get_or cells (at + (52 - place)) 0) weight strength shift
    (counted_below b t x (get_or cells (at + place) 0) weight strength shift g (cell_ok b cells (at + place) h (omega arith)))
    (cell_ok b cells (at + (52 - place)) h (omega arith))

-- counting all taps keeps the greatest sample below the bound
tallied_below : (b : ℕ) (cells : List ℕ) (at x : ℕ) (s : Taps) → at + 52 < length cells → AreCells b cells → x < b → (tallied cells at x s).greatest < b
unfolding tallied
tallied_below b cells at x s m h l =
    pair_below b _ cells at x s.left_far 1 s.secondary s.secondary_shift s.left_far_inside m h
    (pair_below b _ cells at x s.right_far 1 s.secondary s.secondary_shift s.right_far_inside m h
    (pair_below b _ cells at x s.primary_far s.far_weight s.primary s.primary_shift s.primary_far_inside m h
    (pair_below b _ cells at x s.left_near 2 s.secondary s.secondary_shift s.left_near_inside m h
    (pair_below b _ cells at x s.right_near 2 s.secondary s.secondary_shift s.right_near_inside m h
    (pair_below b _ cells at x s.primary_near s.near_weight s.primary s.primary_shift s.primary_near_inside m h l)))))

-- a filtered sample is below the bound
pub filtered_below : (b : ℕ) (cells : List ℕ) (at : ℕ) (s : Taps) → at + 52 < length cells → AreCells b cells → get_or cells (at + 26) 0 < 4096 → filtered_cell cells at s < b
filtered_below b cells at s m h l =
    let ok : Ok b (get_or cells (at + 26) 0) = cell_ok b cells (at + 26) h (omega arith) in
    let x : get_or cells (at + 26) 0 < b = elim ok [ inl k ↦ k | inr e ↦ absurd (omega arith) ] in
    let g = tallied_below b cells at (get_or cells (at + 26) 0) s m h x in
    last (if nat_lt (tallied cells at (get_or cells (at + 26) 0) s).up (tallied cells at (get_or cells (at + 26) 0) s).down then get_or cells (at + 26) 0 - (abs_diff (tallied cells at (get_or cells (at + 26) 0) s).up (tallied cells at (get_or cells (at + 26) 0) s).down + 8) / 16 else get_or cells (at + 26) 0 + (abs_diff (tallied cells at (get_or cells (at + 26) 0) s).up (tallied cells at (get_or cells (at + 26) 0) s).down + 8) / 16)
    (tallied cells at (get_or cells (at + 26) 0) s).least (tallied cells at (get_or cells (at + 26) 0) s).greatest g
  where
    last : (v a c : ℕ) → c < b → min (max v a) c < b
    last v a c k = omega arith

-- a row of filtered samples is below the bound
pub row_range : (b : ℕ) (cells : List ℕ) (at : ℕ) (s : Taps) (out : List ℕ) → at + length out + 51 < length cells → AreCells b cells → ((k : ℕ) → k < length out → get_or cells (at + k + 26) 0 < 4096)
    → ((k : ℕ) → k < length out → get_or out k 0 ≡ filtered_cell cells (at + k) s) → Below b (map pos out)
row_range b cells at s out m h l f = record {
  each = λ k d lm.
      let long : length (map pos out) ≡ length out = length-map out pos in
      let lk : k < length out = omega arith in
      let low : filtered_cell cells (at + k) s < b = filtered_below b cells (at + k) s (omega arith) h (l k lk) in
      let is : get_or (map pos out) k d ≡ pos (filtered_cell cells (at + k) s) = get_or-map pos out k 0 d lk ∙ ap pos (f k lk) in
      subst (InDepth b) (sym is) (grind arith, grind arith);
}

-- a row of filtered samples is the block's
pub row_values : (cells : List ℕ) (s : Taps) (h w : ℕ) (out : List ℕ) → w ≤ length out → ((k : ℕ) → k < w → get_or out k 0 ≡ filtered_cell cells (12 * h + k) s) → (j : ℕ) → j < w → get_or (map pos out) (0 + j) (pos 0) ≡ block_value cells s h j
unfolding block_value
row_values cells s h w out long f j l = ap (λ m. get_or (map pos out) m (pos 0)) (zero-add j) ∙ get_or-map pos out j 0 (pos 0) (omega arith) ∙ ap pos (f j l)

-- a row of copied samples is the block's
pub copied_values : (p : CdefPicture) (x y i from j : ℕ) → from ≡ p.origin + (y + i) * p.step + x → get_or p.samples (from + j) (pos 0) ≡ copied_at p x y i j
unfolding copied_at
copied_values p x y i from j e =
    let at : from + j ≡ p.origin + (y + i) * p.step + (x + j) = omega arith in
    ap (λ m. get_or p.samples m (pos 0)) at

-- a row of a block lies in the list
pub row_fits : (n origin step x y i w h : ℕ) → i < h → origin + (y + h) * step + x + w ≤ n + step → origin + (y + i) * step + x + w ≤ n
row_fits n origin step x y i w h l inside =
    let rows : (y + i + 1) * step ≤ (y + h) * step = mul-le-mul_right step (omega arith) in
    let more : (y + i + 1) * step ≡ (y + i) * step + step = grind arith in
    omega arith

pub ruleset blocks = (block_none, block_more)
