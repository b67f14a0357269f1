-- Samples of rows of a region, read one by one.
use Rattle.std.proofs.Common.{◌≡◌, ℕ, ℤ, pos, ◌+◌, ◌-◌, ◌*◌, ◌<◌, ◌≤◌, min, List, length, take, drop, get_or, sym, ◌∙◌, ap, arith, length-drop}
use Rattle.std.proofs.lemmas.List.{get_or-take, get_or-drop, get_or-map, length-take}
use Rattle.std.proofs.Math.Nat.{mul-le-mul_right}
use Rattle.av1_plane.specs.declared.region.PlaneRegion.{PlaneRegion}
use Rattle.av1_plane.specs.declared.region_mut.PlaneRegionMut.{PlaneRegionMut}
use Rattle.av1_plane.specs.Reading.{samples_seen, step_seen, area_seen, row_seen, numbers_seen}
use Rattle.av1_plane.specs.Region.{spot, samples_under, numbers_under, first_place, row_step, area, IsStored}

-- an entry of a row is the list's entry at the row's place and the entry's number
pub get_or-row : {X : Type 0} → (n k : ℕ) (xs : List X) (x : ℕ) (d : X) → x < n → get_or (take n (drop k xs)) x d ≡ get_or xs (k + x) d
get_or-row n k xs x d h = get_or-take n (drop k xs) x d h ∙ get_or-drop k xs x d

pub ruleset reads = (get_or-row)

-- the row of a stored region lies in its plane
pub row_inside : (start step width height y n : ℕ) → y < height → start + height * step + width ≤ n + step → start + y * step + width ≤ n
row_inside start step width height y n l h =
    let rows : (y + 1) * step ≤ height * step = mul-le-mul_right step (omega arith) in
    let more : (y + 1) * step ≡ y * step + step = grind arith in
    omega arith

-- the number of a sample of a row of a region for writing
pub number-read : {X : Type 0} → (f : X → ℤ) (r : PlaneRegionMut X) (row : List X) (x y : ℕ) (a : X) → IsStored r → x < (area r).width → y < (area r).height →
    row ≡ take (area r).width (drop (spot (first_place r) (row_step r) 0 y) (samples_under r)) → a ≡ get_or row x a →
    f a ≡ get_or (numbers_under f r) (spot (first_place r) (row_step r) x y) (pos 0)
number-read f r row x y a stored lx ly e h =
    let inside : first_place r + y * row_step r + (area r).width ≤ length (samples_under r) = row_inside (first_place r) (row_step r) (area r).width (area r).height y (length (samples_under r)) ly stored.inside in
    let place : spot (first_place r) (row_step r) 0 y + x ≡ spot (first_place r) (row_step r) x y = omega arith in
    let entry : a ≡ get_or (samples_under r) (spot (first_place r) (row_step r) 0 y + x) a =
    h ∙ ap (λ ys. get_or ys x a) e ∙ get_or-row (area r).width (spot (first_place r) (row_step r) 0 y) (samples_under r) x a lx in
    ap f entry ∙ sym (get_or-map f (samples_under r) (spot (first_place r) (row_step r) 0 y + x) a (pos 0) (omega arith)) ∙ ap (λ i. get_or (numbers_under f r) i (pos 0)) place

-- the number of a sample of a row of a region for reading
pub number-seen : {X : Type 0} → (f : X → ℤ) (r : PlaneRegion X) (row : List X) (x y : ℕ) (a : X) → x < (area_seen r).width → length row ≡ (area_seen r).width →
    row ≡ row_seen r y → a ≡ get_or row x a → f a ≡ get_or (numbers_seen f r) (spot 0 (step_seen r) x y) (pos 0)
number-seen f r row x y a lx long e h =
    let k = y * step_seen r in
    let cut : length row ≡ min (area_seen r).width (length (drop k (samples_seen r))) = ap length e ∙ length-take (area_seen r).width (drop k (samples_seen r)) in
    let rest : length (drop k (samples_seen r)) ≡ length (samples_seen r) - k = length-drop k (samples_seen r) in
    let place : k + x ≡ spot 0 (step_seen r) x y = omega arith in
    let entry : a ≡ get_or (samples_seen r) (k + x) a = h ∙ ap (λ ys. get_or ys x a) e ∙ get_or-row (area_seen r).width k (samples_seen r) x a lx in
    ap f entry ∙ sym (get_or-map f (samples_seen r) (k + x) a (pos 0) (omega arith)) ∙ ap (λ i. get_or (numbers_seen f r) i (pos 0)) place
