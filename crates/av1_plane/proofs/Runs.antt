-- Runs of numbers, written over a part of a list, a row of a region or a whole plane.
use Rattle.std.proofs.Common.{◌≡◌, ℕ, ℤ, pos, zero, suc, ◌+◌, ◌-◌, ◌*◌, ◌<◌, ◌≤◌, List, [], ◌++◌, length, map, take, drop, set, get_or, refl, sym, ◌∙◌, ap, arith, add-one, length-drop, length-append, length-set}
use Rattle.std.proofs.lemmas.List.{map-append, take-map, drop-map, map-set, take-append-drop, set-append_left, set-append_right, length-take-le, length-map, with_items_is, append-nil}
use Rattle.std.proofs.Math.ListN.{drop_of_length-le}
use Rattle.std.proofs.lemmas.Int.{to_z-of_z}
use Rattle.av1_plane.specs.declared.region_mut.PlaneRegionMut.{PlaneRegionMut}
use Rattle.av1_plane.specs.Region.{spot, samples_under, numbers_under, first_place, row_step, area, IsStored, with_run}
use Rattle.av1_plane.specs.Runs.{placed}
use Rattle.av1_plane.proofs.Views.{row_inside}

-- placing no numbers leaves the list as it is
pub placed_none : (xs : List ℤ) (at : ℕ) (ys : List ℤ) (first : ℕ) → placed xs at ys first 0 ≡ xs
unfolding placed
placed_none xs at ys first = refl

-- one number more of a run is placed
pub placed_more : (xs : List ℤ) (at : ℕ) (ys : List ℤ) (first n : ℕ) → placed xs at ys first (n + 1) ≡ set (placed xs at ys first n) (at + n) (get_or ys (first + n) (pos 0))
unfolding placed
placed_more xs at ys first n = rw add-one refl

-- placing keeps the length
pub length-placed : (xs : List ℤ) (at : ℕ) (ys : List ℤ) (first n : ℕ) → length (placed xs at ys first n) ≡ length xs
unfolding placed
length-placed xs at ys first zero = refl
length-placed xs at ys first (suc n) = length-set (placed xs at ys first n) (at + n) (get_or ys (first + n) (pos 0)) ∙ length-placed xs at ys first n

-- xs with the run rs in its places from k on
abbrev pub spliced : ℕ → List ℤ → List ℤ → List ℤ
spliced k rs xs = take k xs ++ (rs ++ drop (length rs) (drop k xs))

-- changing one number of a spliced run changes it in the list
pub spliced_set : (k i : ℕ) (rs xs : List ℤ) (v : ℤ) → i < length rs → k ≤ length xs → spliced k (set rs i v) xs ≡ set (spliced k rs xs) (k + i) v
spliced_set k i rs xs v l h =
    let front : length (take k xs) ≡ k = length-take-le k xs h in
    let same : length (set rs i v) ≡ length rs = length-set rs i v in
    let skipped : k + i - k ≡ i = omega arith in
    ap (λ m. take k xs ++ (set rs i v ++ drop m (drop k xs))) same
    ∙ ap (λ ys. take k xs ++ ys) (sym (set-append_left rs (drop (length rs) (drop k xs)) i v l))
    ∙ ap (λ j. take k xs ++ set (rs ++ drop (length rs) (drop k xs)) j v) (sym skipped)
    ∙ sym (set-append_right (take k xs) (rs ++ drop (length rs) (drop k xs)) k (k + i) v front (omega arith))

-- splicing in the run that stands there changes nothing
pub spliced_same : (k w : ℕ) (xs : List ℤ) → k + w ≤ length xs → spliced k (take w (drop k xs)) xs ≡ xs
spliced_same k w xs h =
    let long : length (drop k xs) ≡ length xs - k = length-drop k xs in
    let run : length (take w (drop k xs)) ≡ w = length-take-le w (drop k xs) (omega arith) in
    ap (λ m. take k xs ++ (take w (drop k xs) ++ drop m (drop k xs))) run
    ∙ ap (λ ys. take k xs ++ ys) (take-append-drop w (drop k xs))
    ∙ take-append-drop k xs

-- numbers placed in a run of a list are placed in the list
pub spliced_placed : (k w x : ℕ) (xs ys : List ℤ) (first n : ℕ) → x + n ≤ w → k + w ≤ length xs → spliced k (placed (take w (drop k xs)) x ys first n) xs ≡ placed xs (k + x) ys first n
unfolding placed
spliced_placed k w x xs ys first zero l h = spliced_same k w xs h
spliced_placed k w x xs ys first (suc n) l h =
    let long : length (drop k xs) ≡ length xs - k = length-drop k xs in
    let run : length (take w (drop k xs)) ≡ w = length-take-le w (drop k xs) (omega arith) in
    let kept : length (placed (take w (drop k xs)) x ys first n) ≡ w = length-placed (take w (drop k xs)) x ys first n ∙ run in
    let at : k + (x + n) ≡ k + x + n = omega arith in
    spliced_set k (x + n) (placed (take w (drop k xs)) x ys first n) xs (get_or ys (first + n) (pos 0)) (omega arith) (omega arith)
    ∙ ap (λ zs. set zs (k + (x + n)) (get_or ys (first + n) (pos 0))) (spliced_placed k w x xs ys first n (omega arith) h)
    ∙ ap (λ i. set (placed xs (k + x) ys first n) i (get_or ys (first + n) (pos 0))) at

-- the numbers under a region with a run of samples written over
pub run_numbers : {X : Type 0} → (f : X → ℤ) (r : PlaneRegionMut X) (k : ℕ) (row : List X) → k + length row ≤ length (samples_under r) → numbers_under f (with_run r k row) ≡ spliced k (map f row) (numbers_under f r)
run_numbers f r k row h =
    let items = samples_under r in
    let long : length (drop k items) ≡ length items - k = length-drop k items in
    let rest : length (drop (length row) (drop k items)) ≡ length (drop k items) - length row = length-drop (length row) (drop k items) in
    let front : length (take k items) ≡ k = length-take-le k items (omega arith) in
    let tail : length (row ++ drop (length row) (drop k items)) ≡ length row + length (drop (length row) (drop k items)) = length-append row (drop (length row) (drop k items)) in
    let whole : length (take k items ++ (row ++ drop (length row) (drop k items))) ≡ length (take k items) + length (row ++ drop (length row) (drop k items)) = length-append (take k items) (row ++ drop (length row) (drop k items)) in
    let size : length (take k items ++ (row ++ drop (length row) (drop k items))) ≡ length items = omega arith in
    ap (map f) (with_items_is r.plane.now.samples _ (size ∙ sym r.plane.now.samples.ok.0))
    ∙ map-append f (take k items) (row ++ drop (length row) (drop k items))
    ∙ ap (λ ys. map f (take k items) ++ ys) (map-append f row (drop (length row) (drop k items)))
    ∙ ap (λ ys. ys ++ (map f row ++ map f (drop (length row) (drop k items)))) (sym (take-map f k items))
    ∙ ap (λ ys. take k (map f items) ++ (map f row ++ ys)) (sym (drop-map f (length row) (drop k items)))
    ∙ ap (λ ys. take k (map f items) ++ (map f row ++ drop (length row) ys)) (sym (drop-map f k items))
    ∙ ap (λ m. take k (map f items) ++ (map f row ++ drop m (drop k (map f items)))) (sym (length-map row f))

-- the numbers under a region after a run was written in a row
pub numbers-run : {X : Type 0} → (f : X → ℤ) (r : PlaneRegionMut X) (row made : List X) (x y : ℕ) (ys : List ℤ) (first n : ℕ) → IsStored r → x + n ≤ (area r).width → y < (area r).height →
    row ≡ take (area r).width (drop (spot (first_place r) (row_step r) 0 y) (samples_under r)) → map f made ≡ placed (map f row) x ys first n →
    numbers_under f (with_run r (spot (first_place r) (row_step r) 0 y) made) ≡ placed (numbers_under f r) (spot (first_place r) (row_step r) x y) ys first n
numbers-run f r row made x y ys first n stored lx ly e h =
    let k = spot (first_place r) (row_step r) 0 y in
    let w = (area r).width in
    let inside : first_place r + y * row_step r + w ≤ length (samples_under r) = row_inside (first_place r) (row_step r) w (area r).height y (length (samples_under r)) ly stored.inside in
    let cut : length (drop k (samples_under r)) ≡ length (samples_under r) - k = length-drop k (samples_under r) in
    let run : length row ≡ w = ap length e ∙ length-take-le w (drop k (samples_under r)) (omega arith) in
    let size : length made ≡ w = sym (length-map made f) ∙ ap length h ∙ length-placed (map f row) x ys first n ∙ length-map row f ∙ run in
    let numbers : length (numbers_under f r) ≡ length (samples_under r) = length-map (samples_under r) f in
    let read : map f row ≡ take w (drop k (numbers_under f r)) =
    ap (map f) e ∙ sym (take-map f w (drop k (samples_under r))) ∙ ap (take w) (sym (drop-map f k (samples_under r))) in
    let place : k + x ≡ spot (first_place r) (row_step r) x y = omega arith in
    run_numbers f r k made (omega arith)
    ∙ ap (λ rs. spliced k rs (numbers_under f r)) (h ∙ ap (λ rs. placed rs x ys first n) read)
    ∙ spliced_placed k w x (numbers_under f r) ys first n lx (omega arith)
    ∙ ap (λ i. placed (numbers_under f r) i ys first n) place

-- the numbers under a region all of whose plane was written
pub whole_run : {X : Type 0} → (f : X → ℤ) (r : PlaneRegionMut X) (made : List X) → length made ≡ length (samples_under r) → numbers_under f (with_run r 0 made) ≡ map f made
whole_run f r made e =
    let items = samples_under r in
    let none : drop (length made) items ≡ [] = drop_of_length-le items (omega arith) in
    let same : made ++ drop (length made) items ≡ made = ap (λ ys. made ++ ys) none ∙ append-nil made in
    let size : length (made ++ drop (length made) items) ≡ length items = ap length same ∙ e in
    ap (map f) (with_items_is r.plane.now.samples _ (size ∙ sym r.plane.now.samples.ok.0) ∙ same)

-- the place of a column j further right is j greater
pub run_place : (o s x y j : ℕ) → spot o s (x + j) y ≡ spot o s x y + j
run_place o s x y j = omega arith

pub ruleset runs = (placed_none, placed_more, length-placed, run_place, to_z-of_z, map-set)
