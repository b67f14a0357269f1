-- A row that goes on past its ends.
use Rattle.std.proofs.Common.{◌≡◌, ℕ, zero, suc, ◌+◌, ◌-◌, ◌<◌, List, [], ◌∷◌, ◌++◌, ◌∙◌, min, take, drop, length, get_or, refl, sym, ap, arith, drop-cons, length-append, length-drop, sub-one}
use Rattle.std.proofs.lemmas.List.{length-take-le}
use Rattle.av1_plane.specs.declared.plane.Plane.{Plane}
use Rattle.av1_lrf.specs.declared.rows.Extent.{Extent}
use Rattle.av1_lrf.specs.Padded.{far, padded_row, stripe_row, stripe_rows}

-- no samples of a row are the empty list
pub padded_none : {X : Type 0} (row : List X) (at n : ℕ) → n ≡ 0 → padded_row row at n ≡ []
unfolding padded_row
padded_none row at n e = rw e refl

-- the first sample of the rest of a row is the sample at its place
one_of : {X : Type 0} (row : List X) (i : ℕ) (x : X) → i < length row → x ≡ get_or row i x → take 1 (drop i row) ≡ x ∷ []
one_of row i x l e = ap (take 1) (drop-cons row i x l) ∙ ap (λ y. y ∷ []) (sym e)

-- the next sample of a row comes first in the list of those left
pub padded_next : {X : Type 0} (row : List X) (at n i : ℕ) (x : X) → 0 < n → 0 < length row → i ≡ min (at - far) (length row - 1) → x ≡ get_or row i x → padded_row row at n ≡ x ∷ padded_row row (at + 1) (n - 1)
unfolding padded_row
padded_next row at zero i x h some e f = absurd (omega arith)
padded_next row at (suc n) i x h some e f =
    let inside : min (at - far) (length row - 1) < length row = omega arith in
    let same : x ≡ get_or row (min (at - far) (length row - 1)) x = f ∙ ap (λ (k : ℕ). get_or row k x) e in
    ap (λ ys. ys ++ padded_row row (at + 1) n) (one_of row (min (at - far) (length row - 1)) x inside same) ∙ rw sub-one refl

-- as many samples of a row are left as are asked for
pub length-padded : {X : Type 0} (row : List X) (at n : ℕ) → 0 < length row → length (padded_row row at n) ≡ n
unfolding padded_row
length-padded row at zero some = refl
length-padded row at (suc n) some =
    let left : length (drop (min (at - far) (length row - 1)) row) ≡ length row - min (at - far) (length row - 1) = length-drop (min (at - far) (length row - 1)) row in
    let one : length (take 1 (drop (min (at - far) (length row - 1)) row)) ≡ 1 = length-take-le 1 (drop (min (at - far) (length row - 1)) row) (omega arith) in
    let rest : length (padded_row row (at + 1) n) ≡ n = length-padded row (at + 1) n some in
    let all : length (take 1 (drop (min (at - far) (length row - 1)) row) ++ padded_row row (at + 1) n) ≡ length (take 1 (drop (min (at - far) (length row - 1)) row)) + length (padded_row row (at + 1) n) = length-append (take 1 (drop (min (at - far) (length row - 1)) row)) (padded_row row (at + 1) n) in
    omega arith

pub ruleset steps = (padded_none, padded_next, length-padded)

-- no rows of a stripe are the empty list
pub stripe_none : {X : Type 0} (e d : Plane X) (x : Extent) (y n : ℕ) → n ≡ 0 → stripe_rows e d x y n ≡ []
unfolding stripe_rows
stripe_none e d x y n h = rw h refl

-- the next row of a stripe comes first in the list of those left
pub stripe_next : {X : Type 0} (e d : Plane X) (x : Extent) (y n : ℕ) (r : List X) → 0 < n → r ≡ stripe_row e d x y → stripe_rows e d x y n ≡ r ∷ stripe_rows e d x (y + 1) (n - 1)
unfolding stripe_rows
stripe_next e d x y zero r h f = absurd (omega arith)
stripe_next e d x y (suc n) r h f = ap (λ row. row ∷ stripe_rows e d x (y + 1) n) (sym f) ∙ rw sub-one refl

-- as many rows of a stripe are left as are asked for
pub length-stripe_rows : {X : Type 0} (e d : Plane X) (x : Extent) (y n : ℕ) → length (stripe_rows e d x y n) ≡ n
unfolding stripe_rows
length-stripe_rows e d x y zero = refl
length-stripe_rows e d x y (suc n) = let rest : length (stripe_rows e d x (y + 1) n) ≡ n = length-stripe_rows e d x (y + 1) n in omega arith

pub ruleset stripe_steps = (stripe_none, stripe_next, length-stripe_rows)
