-- What lines leave at each place of a table of units.
use Rattle.std.proofs.Common.{◌≡◌, ◌⊎◌, inl, inr, ℕ, zero, suc, ◌+◌, ◌*◌, ◌<◌, ◌≤◌, List, [], ◌∷◌, ◌++◌, take, replicate, length, get_or, set, get_or-set_same, get_or-set_other, ap, refl, sym, ◌∙◌, arith}
use Rattle.std.specs.Prelude.{◌==◌, if◌then◌else◌}
use Rattle.std.proofs.lemmas.Nat.{mul-le}
use Rattle.std.proofs.lemmas.List.{take_more}
use Rattle.std.proofs.lemmas.Bool.Decides.{nat_tests}
use Rattle.av1_block.specs.RestorationUnit.{no_unit}
use Rattle.av1_block.specs.declared.restoration_unit.RestorationUnit.{RestorationUnit}
use Rattle.av1_rec.specs.declared.text.extent.Extent.{Extent}
use Rattle.av1_rec.specs.declared.text.unit_line.UnitLine.{UnitLine}
use Rattle.av1_rec.specs.Units.{sets, unit_after, units_said}
use Rattle.av1_rec.proofs.FirstValues.{by_places, all_lines}

-- an entry is the written one at its place, and the old one elsewhere
read_set : (xs : List RestorationUnit) (p i : ℕ) (v : RestorationUnit) → p < length xs → get_or (set xs p v) i no_unit ≡ (if i == p then v else get_or xs i no_unit)
read_set xs p i v l =
    let here : get_or (set xs p v) p no_unit ≡ v = get_or-set_same xs p v no_unit l in
    let other : (i ≡ p → ⊥) → get_or (set xs p v) i no_unit ≡ get_or xs i no_unit = get_or-set_other xs p i v no_unit in
    let same : i ≡ p → get_or (set xs p v) i no_unit ≡ get_or (set xs p v) p no_unit = λ e. ap (λ n. get_or (set xs p v) n no_unit) e in
    grind (arith, nat_tests)

-- a place of a row stands before all rows below
row_before : (s x y v w : ℕ) → x < s → y < w → y * s + x < w * s + v
row_before s x y v w h l =
    let all : (y + 1) * s ≤ w * s = mul-le (y + 1) s w s (omega arith) (omega arith) in
    omega arith

-- the place of a line within the table
pub place_inside : (w h x y n : ℕ) → x < w → y < h → n ≡ w * h → y * w + x < n
place_inside w h x y n hx hy e =
    let all : (y + 1) * w ≤ h * w = mul-le (y + 1) w h w (omega arith) (omega arith) in
    let turn : w * h ≡ h * w = omega arith in
    omega arith

-- a line that sets a unit of the plane was written
pub written : (w h x y p : ℕ) (line : UnitLine) (xs : List RestorationUnit) → x < w → y < h → line.plane ≡ p → line.x < w → line.y < h → length xs ≡ w * h
    → get_or (set xs (line.y * w + line.x) line.unit) (y * w + x) no_unit ≡ (if sets line p x y then line.unit else get_or xs (y * w + x) no_unit)
written w h x y p line xs hx hy plane lx ly count =
    let inside = place_inside w h line.x line.y (length xs) lx ly count in
    let now = read_set xs (line.y * w + line.x) (y * w + x) line.unit inside in
    let above : y < line.y → y * w + x < line.y * w + line.x = row_before w x y line.x line.y hx in
    let below : line.y < y → line.y * w + line.x < y * w + x = row_before w line.x line.y x y lx in
    let same : line.y ≡ y → line.y * w ≡ y * w = λ e. ap (λ n. n * w) e in
    now ∙ grind (arith, nat_tests)

-- a line of another plane or place leaves a unit as it was
pub not_written : (w h x y p : ℕ) (line : UnitLine) (a b : RestorationUnit) → x < w → y < h → ((line.plane ≡ p → ⊥) ⊎ ((w ≤ line.x) ⊎ (h ≤ line.y))) → a ≡ (if sets line p x y then b else a)
not_written w h x y p line a b hx hy (inl other) = grind (arith, nat_tests)
not_written w h x y p line a b hx hy (inr (inl past)) = grind (arith, nat_tests)
not_written w h x y p line a b hx hy (inr (inr past)) = grind (arith, nat_tests)

-- one line more writes its unit over those of the lines before
after_more : (lines : List UnitLine) (line : UnitLine) (before : RestorationUnit) (p x y : ℕ) → unit_after before (lines ++ line ∷ []) p x y ≡ (if sets line p x y then line.unit else unit_after before lines p x y)
after_more [] line before p x y = refl
after_more (l ∷ lines) line before p x y = after_more lines line (if sets l p x y then l.unit else before) p x y

-- An entry that the next line has written is the unit after one line more.
pub line_written : (lines : List UnitLine) (line : UnitLine) (i p x y : ℕ) (entry old : RestorationUnit) → i < length lines → line ≡ get_or lines i line
    → old ≡ unit_after no_unit (take i lines) p x y → entry ≡ (if sets line p x y then line.unit else old) → entry ≡ unit_after no_unit (take (i + 1) lines) p x y
line_written lines line i p x y entry old lt e so_far now =
    let taken : take (i + 1) lines ≡ take i lines ++ line ∷ [] = take_more lines i line lt ∙ ap (λ (l : UnitLine). take i lines ++ l ∷ []) (sym e) in
    now ∙ ap (λ (b : RestorationUnit). if sets line p x y then line.unit else b) so_far ∙ sym (after_more (take i lines) line no_unit p x y) ∙ ap (λ (l : List UnitLine). unit_after no_unit l p x y) (sym taken)

-- a fresh table has no filter in any unit
pub fresh : (n i : ℕ) → get_or (replicate n no_unit) i no_unit ≡ no_unit
fresh zero i = refl
fresh (suc n) zero = refl
fresh (suc n) (suc i) = fresh n i

-- a table into which all lines were written is the table that they describe
pub lines_written : (extent : Extent) (p i : ℕ) (lines : List UnitLine) (items : List RestorationUnit) → length lines ≤ i → length items ≡ extent.width * extent.height
    → ((x y : ℕ) → x < extent.width → y < extent.height → get_or items (y * extent.width + x) no_unit ≡ unit_after no_unit (take i lines) p x y) → items ≡ units_said extent p lines
unfolding units_said
lines_written extent p i lines items le count f =
    by_places no_unit (λ x y. unit_after no_unit lines p x y) extent.width extent.height items count
    (λ x y hx hy. f x y hx hy ∙ ap (λ (l : List UnitLine). unit_after no_unit l p x y) (all_lines lines i le))
