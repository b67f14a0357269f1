-- The sums of a summary, one sample, one row and one plane after another.
use Rattle.std.proofs.Common.{◌≡◌, ℕ, ℤ, zero, suc, ◌+◌, ◌*◌, ◌<◌, All, drop, List, [], ◌∷◌, ◌++◌, length, map, take, get_or, refl, sym, ap, ◌∙◌, append_assoc, arith}
use Rattle.std.proofs.lemmas.List.{append-nil, take_more, map_push}
use Rattle.av1_rec.specs.Report.{natural}
use Rattle.av1_rec.specs.Summary.{row_sum, rows_sum, sum_line, sum_lines}
use Rattle.av1_plane.specs.Layout.{rows}
use Rattle.av1_rec.proofs.RegionRows.{taken_count, rows_more, map_take, map_drop}

-- one sample more adds its number to the sum of a row
pub row_push : (vs : List ℤ) (v : ℤ) → row_sum (vs ++ v ∷ []) ≡ row_sum vs + natural v
row_push [] v = omega arith
row_push (x ∷ vs) v = let e = row_push vs v in omega (arith, e)

-- one row more adds its sum
pub rows_push : (rs : List (List ℤ)) (r : List ℤ) → rows_sum (rs ++ r ∷ []) ≡ rows_sum rs + row_sum r
rows_push [] r = omega arith
rows_push (x ∷ rs) r = let e = rows_push rs r in omega (arith, e)

-- one sample more adds its number to the sum of a row
pub sample_more : {X : Type 0} (number : X → ℤ) (row : List X) (i n : ℕ) (x : X) → i < length row → x ≡ get_or row i x → n ≡ natural (number x)
    → row_sum (map number (take i row)) + n ≡ row_sum (map number (take (i + 1) row))
sample_more number row i n x lt e is =
    let taken : map number (take (i + 1) row) ≡ map number (take i row) ++ number x ∷ [] =
    ap (map number) (take_more row i x lt ∙ ap (λ (y : _). take i row ++ y ∷ []) (sym e)) ∙ map_push number (take i row) x in
    ap (λ m. row_sum (map number (take i row)) + m) is ∙ sym (row_push (map number (take i row)) (number x)) ∙ ap row_sum (sym taken)

-- one plane more adds its line at the end
sums_snoc : (p : ℕ) (planes : List (List (List ℤ))) (last : List (List ℤ)) → sum_lines p (planes ++ last ∷ []) ≡ sum_lines p planes ++ sum_line (p + length planes) last
unfolding sum_lines
sums_snoc p [] last = rw (append-nil (sum_line p last)) (ap (λ (n : ℕ). sum_line n last) (let k : p ≡ p + 0 = omega arith in k))
sums_snoc p (rows ∷ planes) last =
    let k : (p + 1) + length planes ≡ p + suc (length planes) = omega arith in
    ap (λ (l : List ℕ). sum_line p rows ++ l) (sums_snoc (p + 1) planes last)
    ∙ ap (λ (n : ℕ). sum_line p rows ++ (sum_lines (p + 1) planes ++ sum_line n last)) k
    ∙ sym (append_assoc (sum_line p rows) (sum_lines (p + 1) planes) (sum_line (p + suc (length planes)) last))

-- one plane more is summed up
pub sums_more : {X : Type 0} (rows_of : X → List (List ℤ)) (planes : List X) (last : X) (bs : List ℕ) (p : ℕ) → p < length planes → last ≡ get_or planes p last
    → (bs ++ sum_lines 0 (map rows_of (take p planes))) ++ sum_line p (rows_of last) ≡ bs ++ sum_lines 0 (map rows_of (take (p + 1) planes))
sums_more rows_of planes last bs p lt e =
    let before = map rows_of (take p planes) in
    let count : p ≡ 0 + length before = let n = taken_count rows_of planes p (omega arith) in omega arith in
    let taken : map rows_of (take (p + 1) planes) ≡ before ++ rows_of last ∷ [] =
    ap (λ (l : List _). map rows_of l) (take_more planes p last lt ∙ ap (λ (x : _). take p planes ++ x ∷ []) (sym e)) ∙ map_push rows_of (take p planes) last in
    append_assoc bs (sum_lines 0 before) (sum_line p (rows_of last))
    ∙ ap (λ (n : ℕ). bs ++ (sum_lines 0 before ++ sum_line n (rows_of last))) count
    ∙ ap (λ (l : List ℕ). bs ++ l) (sym (sums_snoc 0 before (rows_of last)))
    ∙ ap (λ (l : List (List (List ℤ))). bs ++ sum_lines 0 l) (sym taken)

-- no plane is summed up yet
pub sums_start : (bs : List ℕ) → bs ≡ bs ++ sum_lines 0 []
unfolding sum_lines
sums_start bs = sym (append-nil bs)

-- what holds of one element holds of the list of this element
pub all_one : {A : Type 0} (P : A → Type 0) (x : A) → P x → All P (x ∷ [])
all_one P x p zero d l = p
all_one P x p (suc k) d l = absurd (omega (arith, l))

-- What holds of three elements holds of the list of them.
pub all_three : {A : Type 0} (P : A → Type 0) (x y z : A) → P x → P y → P z → All P (x ∷ y ∷ z ∷ [])
all_three P x y z p q r zero d l = p
all_three P x y z p q r (suc zero) d l = q
all_three P x y z p q r (suc (suc zero)) d l = r
all_three P x y z p q r (suc (suc (suc k))) d l = absurd (omega (arith, l))

pub ruleset small_planes = (all_one, all_three)

-- no row is summed up yet
pub rows_none : {X : Type 0} (number : X → ℤ) (step width : ℕ) (samples : List X) → 0 ≡ rows_sum (rows step width 0 (map number samples))
unfolding rows
rows_none number step width samples = refl

-- one row more of a region is summed up
pub row_more : {X : Type 0} (number : X → ℤ) (step width y sum : ℕ) (samples row : List X) → row ≡ take width (drop (y * step) samples) → sum ≡ rows_sum (rows step width y (map number samples))
    → sum + row_sum (map number row) ≡ rows_sum (rows step width (y + 1) (map number samples))
row_more number step width y sum samples row is so_far =
    let one : map number row ≡ take width (drop (y * step) (map number samples)) =
    ap (map number) is ∙ map_take number width (drop (y * step) samples) ∙ ap (λ (l : List ℤ). take width l) (map_drop number (y * step) samples) in
    let k : suc y ≡ y + 1 = omega arith in
    (λ i. so_far i + row_sum (one i)) ∙ sym (rows_push (rows step width y (map number samples)) (take width (drop (y * step) (map number samples))))
    ∙ ap rows_sum (sym (rows_more step width y (map number samples))) ∙ ap (λ (n : ℕ). rows_sum (rows step width n (map number samples))) k
