-- The rows of a region and the planes of a report, one after another.
use Rattle.std.proofs.Common.{◌≡◌, ℕ, zero, suc, ◌+◌, ◌*◌, ◌<◌, ◌≤◌, ℤ, pos, List, [], ◌∷◌, ◌++◌, map, take, drop, length, get_or, Bool, refl, sym, ap, ◌∙◌, append_assoc, arith}
use Rattle.std.specs.List.{flat_map}
use Rattle.std.proofs.lemmas.List.{append-nil, drop-drop, flat_map_more, take_more, map_push}
use Rattle.av1_plane.specs.declared.plane.PlaneConfig.{PlaneConfig}
use Rattle.av1_plane.specs.Layout.{rows}
use Rattle.av1_plane.specs.Place.{stored_at, rect_start, origin_place}
use Rattle.av1_rec.specs.Report.{row_line, plane_text, planes_text}

-- one row more of a list comes last
pub rows_more : {X : Type 0} (step width y : ℕ) (s : List X) → rows step width (suc y) s ≡ rows step width y s ++ take width (drop (y * step) s) ∷ []
unfolding rows
rows_more step width zero s = let k : 0 * step ≡ 0 = omega arith in rw k refl
rows_more step width (suc y) s =
    let k : suc y * step ≡ step + y * step = omega arith in
    ap (λ (l : List (List _)). take width s ∷ l) (rows_more step width y (drop step s)) ∙ rw (k, drop-drop (y * step) step s) refl

-- the front of a list may be taken before or after its elements are mapped
pub map_take : {X Y : Type 0} (f : X → Y) (n : ℕ) (l : List X) → map f (take n l) ≡ take n (map f l)
map_take f zero l = refl
map_take f (suc n) [] = refl
map_take f (suc n) (x ∷ l) = ap (λ (m : List _). f x ∷ m) (map_take f n l)

-- The front of a list may be dropped before or after its elements are mapped.
pub map_drop : {X Y : Type 0} (f : X → Y) (n : ℕ) (l : List X) → map f (drop n l) ≡ drop n (map f l)
map_drop f zero l = refl
map_drop f (suc n) [] = refl
map_drop f (suc n) (x ∷ l) = map_drop f n l

-- one row of a region more adds its line
pub region_more : {X : Type 0} (number : X → ℤ) (wide : Bool) (step width y : ℕ) (samples : List X) (bs : List ℕ)
    → (bs ++ flat_map (row_line wide) (rows step width y (map number samples))) ++ row_line wide (map number (take width (drop (y * step) samples)))
    ≡ bs ++ flat_map (row_line wide) (rows step width (y + 1) (map number samples))
region_more number wide step width y samples bs =
    let one : map number (take width (drop (y * step) samples)) ≡ take width (drop (y * step) (map number samples)) =
    map_take number width (drop (y * step) samples) ∙ ap (λ (l : List ℤ). take width l) (map_drop number (y * step) samples) in
    let k : suc y ≡ y + 1 = omega arith in
    rw one (flat_map_more (row_line wide) bs (rows step width y (map number samples)) (take width (drop (y * step) (map number samples))))
    ∙ ap (λ (l : List (List ℤ)). bs ++ flat_map (row_line wide) l) (sym (rows_more step width y (map number samples)))
    ∙ ap (λ (n : ℕ). bs ++ flat_map (row_line wide) (rows step width n (map number samples))) k

-- no row of a region is written yet
pub region_start : {X : Type 0} (number : X → ℤ) (wide : Bool) (step width : ℕ) (samples : List X) (bs : List ℕ) → bs ≡ bs ++ flat_map (row_line wide) (rows step width 0 (map number samples))
unfolding rows
region_start number wide step width samples bs = sym (append-nil bs)

pub ruleset region_steps = (region_more, region_start)

-- One plane more adds its text at the end, under the next number.
planes_snoc : (wide : Bool) (p : ℕ) (planes : List (List (List ℤ))) (last : List (List ℤ)) → planes_text wide p (planes ++ last ∷ []) ≡ planes_text wide p planes ++ plane_text wide (p + length planes) last
unfolding planes_text
planes_snoc wide p [] last = rw (append-nil (plane_text wide p last)) (ap (λ (n : ℕ). plane_text wide n last) (let k : p ≡ p + 0 = omega arith in k))
planes_snoc wide p (rows ∷ planes) last =
    let k : (p + 1) + length planes ≡ p + suc (length planes) = omega arith in
    ap (λ (l : List ℕ). plane_text wide p rows ++ l) (planes_snoc wide (p + 1) planes last)
    ∙ ap (λ (n : ℕ). plane_text wide p rows ++ (planes_text wide (p + 1) planes ++ plane_text wide n last)) k
    ∙ sym (append_assoc (plane_text wide p rows) (planes_text wide (p + 1) planes) (plane_text wide (p + suc (length planes)) last))

-- as many elements as are taken are mapped
pub taken_count : {X Y : Type 0} (f : X → Y) (xs : List X) (p : ℕ) → p ≤ length xs → length (map f (take p xs)) ≡ p
taken_count f xs zero le = refl
taken_count f [] (suc p) le = absurd (omega arith)
taken_count f (x ∷ xs) (suc p) le = let e = taken_count f xs p (omega arith) in omega arith

-- one plane more adds its text
pub planes_more : {X : Type 0} (rows_of : X → List (List ℤ)) (wide : Bool) (planes : List X) (last : X) (bs : List ℕ) (p : ℕ) → p < length planes → last ≡ get_or planes p last
    → (bs ++ planes_text wide 0 (map rows_of (take p planes))) ++ plane_text wide p (rows_of last) ≡ bs ++ planes_text wide 0 (map rows_of (take (p + 1) planes))
planes_more rows_of wide planes last bs p lt e =
    let before = map rows_of (take p planes) in
    let count : p ≡ 0 + length before = let n = taken_count rows_of planes p (omega arith) in omega arith in
    let taken : map rows_of (take (p + 1) planes) ≡ before ++ rows_of last ∷ [] =
    ap (λ (l : List _). map rows_of l) (take_more planes p last lt ∙ ap (λ (x : _). take p planes ++ x ∷ []) (sym e)) ∙ map_push rows_of (take p planes) last in
    append_assoc bs (planes_text wide 0 before) (plane_text wide p (rows_of last))
    ∙ ap (λ (n : ℕ). bs ++ (planes_text wide 0 before ++ plane_text wide n (rows_of last))) count
    ∙ ap (λ (l : List ℕ). bs ++ l) (sym (planes_snoc wide 0 before (rows_of last)))
    ∙ ap (λ (l : List (List (List ℤ))). bs ++ planes_text wide 0 l) (sym taken)

-- no plane is written yet
pub planes_start : (wide : Bool) (bs : List ℕ) → bs ≡ bs ++ planes_text wide 0 []
unfolding planes_text
planes_start wide bs = sym (append-nil bs)

pub ruleset planes_steps = (planes_more, planes_start)

-- a rectangle that begins at a plane's origin begins with its first sample
from_here : (origin : ℕ) → stored_at origin (pos 0) ≡ origin
from_here origin = omega arith

-- A rectangle at the plane's origin starts at the first sample of the plane.
pub at_origin : (cfg : PlaneConfig) (width height : ℕ) → rect_start cfg (record { x = pos 0; y = pos 0; width = width; height = height }) ≡ origin_place cfg
at_origin cfg width height = λ i. from_here cfg.yorigin i * cfg.stride + from_here cfg.xorigin i
