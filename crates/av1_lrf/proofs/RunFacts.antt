-- Lists of numbers that are written one number after another.
use Rattle.std.proofs.Common.{◌≡◌, ◌≢◌, ℕ, ℤ, pos, ◌+◌, ◌<◌, ◌≤◌, List, length, get_or, set, min, ◌-◌, subst, get_or-set_same, get_or-set_other, length-set, refl, ◌∙◌, ap, arith, sym}
use Rattle.std.proofs.lemmas.List.{map-set}
use Rattle.std.proofs.lemmas.Int.{to_z-of_z}
use Rattle.std.proofs.lemmas.Bool.Decides.{nat_tests}
use Rattle.av1_plane.specs.Numbers.{InDepth, Below}
use Rattle.av1_lrf.specs.Rows.{nearest_in_stripe}
use Rattle.av1_lrf.specs.Runs.{HasSampleRun}

-- a run of no numbers changes nothing
pub run_none : (at : ℕ) (f : ℕ → ℤ) (xs : List ℤ) → HasSampleRun at 0 f xs xs
run_none at f xs = record { on = λ i l. absurd (omega arith); off = λ k h. refl; long = refl }

-- one number more of a run is written
pub run_more : (at i : ℕ) (f : ℕ → ℤ) (xs ys : List ℤ) (v : ℤ) → at + i < length ys → v ≡ f i → HasSampleRun at i f xs ys → HasSampleRun at (i + 1) f xs (set ys (at + i) v)
run_more at i f xs ys v l e h = record { on = on; off = off; long = length-set ys (at + i) v ∙ h.long }
  where
    same : get_or (set ys (at + i) v) (at + i) (pos 0) ≡ v
    same = get_or-set_same ys (at + i) v (pos 0) l

    other : (k : ℕ) → k ≢ at + i → get_or (set ys (at + i) v) k (pos 0) ≡ get_or ys k (pos 0)
    other k n = get_or-set_other ys (at + i) k v (pos 0) n

    on : (j : ℕ) → j < i + 1 → get_or (set ys (at + i) v) (at + j) (pos 0) ≡ f j
    on j lj =
        let below : j < i → get_or ys (at + j) (pos 0) ≡ f j = h.on j in
        let elsewhere : at + j ≢ at + i → get_or (set ys (at + i) v) (at + j) (pos 0) ≡ get_or ys (at + j) (pos 0) = other (at + j) in
        let here : j ≡ i → get_or (set ys (at + i) v) (at + j) (pos 0) ≡ f j = λ d. ap (λ n. get_or (set ys (at + i) v) (at + n) (pos 0)) d ∙ same ∙ e ∙ sym (ap f d) in
        grind (arith, nat_tests)

    off : (k : ℕ) → ((j : ℕ) → j < i + 1 → k ≢ at + j) → get_or (set ys (at + i) v) k (pos 0) ≡ get_or xs k (pos 0)
    off k n = other k (n i (omega arith)) ∙ h.off k (λ j lj. n j (omega arith))

-- a run of as many numbers is the run
pub run_size : (at m n : ℕ) (f : ℕ → ℤ) (xs ys : List ℤ) → m ≡ n → HasSampleRun at m f xs ys → HasSampleRun at n f xs ys
run_size at m n f xs ys e h = subst (λ k. HasSampleRun at k f xs ys) e h

-- a number of a list whose numbers are in range
pub below_at : (bound : ℕ) (xs : List ℤ) (i : ℕ) → Below bound xs → i < length xs → InDepth bound (get_or xs i (pos 0))
below_at bound xs i h l = h.each i (pos 0) l

-- A line that is filled in three parts: the first sample of a row, the row itself, and its last sample.
pub line_filled : (row : List ℤ) (width at n left right : ℕ) (a b c d : List ℤ) (i : ℕ) → 0 < width → at < width → left ≡ 3 - min at 3 → right ≡ min n (width + 3 - at) → left ≤ n →
    HasSampleRun 0 (left - 0) (λ j. get_or row 0 (pos 0)) a b →
    HasSampleRun left (right - left) (λ j. get_or row (at + left - 3 + j) (pos 0)) b c →
    HasSampleRun right (n - right) (λ j. get_or row (width - 1) (pos 0)) c d →
    i < n → get_or d i (pos 0) ≡ get_or row (nearest_in_stripe width (at + i)) (pos 0)
line_filled row width at n left right a b c d i some near el er ln f g h l =
    let first : i < left → get_or b i (pos 0) ≡ get_or row 0 (pos 0) = λ m. ap (λ k. get_or b k (pos 0)) (omega arith) ∙ f.on i (omega arith) in
    let kept_c : i < left → get_or c i (pos 0) ≡ get_or b i (pos 0) = λ m. g.off i (λ j lj. λ e. omega arith) in
    let kept_d : i < right → get_or d i (pos 0) ≡ get_or c i (pos 0) = λ m. h.off i (λ j lj. λ e. omega arith) in
    let middle : left ≤ i → i < right → get_or c i (pos 0) ≡ get_or row (at + left - 3 + (i - left)) (pos 0) = λ m r. ap (λ k. get_or c k (pos 0)) (omega arith) ∙ g.on (i - left) (omega arith) in
    let last : right ≤ i → get_or d i (pos 0) ≡ get_or row (width - 1) (pos 0) = λ r. ap (λ k. get_or d k (pos 0)) (omega arith) ∙ h.on (i - right) (omega arith) in
    let same_first : i < left → get_or row 0 (pos 0) ≡ get_or row (nearest_in_stripe width (at + i)) (pos 0) = λ m. ap (λ k. get_or row k (pos 0)) (omega arith) in
    let same_middle : left ≤ i → i < right → get_or row (at + left - 3 + (i - left)) (pos 0) ≡ get_or row (nearest_in_stripe width (at + i)) (pos 0) = λ m r. ap (λ k. get_or row k (pos 0)) (omega arith) in
    let same_last : right ≤ i → get_or row (width - 1) (pos 0) ≡ get_or row (nearest_in_stripe width (at + i)) (pos 0) = λ r. ap (λ k. get_or row k (pos 0)) (omega arith) in
    let order : left ≤ right = omega arith in
    grind (arith, nat_tests)

pub ruleset runs = (run_none, run_more)

pub ruleset writes = (to_z-of_z, map-set)
