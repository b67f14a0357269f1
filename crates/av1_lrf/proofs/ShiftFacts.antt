-- A table that is a part of another table is guided as the other one.
use Rattle.std.proofs.Common.{◌≡◌, ℕ, ℤ, zero, suc, pos, ◌+◌, ◌-◌, ◌*◌, ◌^◌, ◌<◌, ◌≤◌, Bool, List, refl, sym, subst, ◌∙◌, ap, arith, min, max}
use Rattle.std.specs.Prelude.{unsigned_abs, ◌==◌, if◌then◌else◌, ◌+ℤ◌, ◌-ℤ◌, ◌*ℤ◌}
use Rattle.std.proofs.lemmas.Nat.{mul-le}
use Rattle.std.proofs.lemmas.Int.{ints}
use Rattle.std.proofs.lemmas.Bool.Decides.{nat_tests}
use Rattle.av1_plane.specs.declared.plane.Plane.{Plane}
use Rattle.av1_plane.specs.Numbers.{InDepth}
use Rattle.av1_lrf.specs.Rows.{sample, scene_in, stripe_source, in_stripe, nearest_in_stripe, HasStripePicture}
use Rattle.av1_lrf.specs.Runs.{HasArea, HasRowRoom}
use Rattle.av1_lrf.specs.Sums.{total_of_first, rounded_shift, round2, limited}
use Rattle.av1_lrf.specs.Guided.{Table, box, squared, box_side, count, strength, variation, weight, weighted_mean, own_weight, mean_part, around, around_bits, pass, guided}
use Rattle.av1_lrf.proofs.StripeFacts.{above_row, inside_row, below_row}

-- sums of equal terms are equal
total_same : (n : ℕ) (f g : ℕ → ℕ) → ((i : ℕ) → f i ≡ g i) → total_of_first n f ≡ total_of_first n g
total_same zero f g e = refl
total_same (suc n) f g e =
    let rest : total_of_first n f ≡ total_of_first n g = total_same n f g e in
    let last : f n ≡ g n = e n in
    omega arith

-- sums over squares of equal samples are equal
box_same : (f g : Table) (n x y x' y' : ℕ) → ((i j : ℕ) → f (x + i) (y + j) ≡ g (x' + i) (y' + j)) → box f n x y ≡ box g n x' y'
box_same f g n x y x' y' e = total_same n (λ j. total_of_first n (λ i. f (x + i) (y + j))) (λ j. total_of_first n (λ i. g (x' + i) (y' + j))) (λ j. total_same n (λ i. f (x + i) (y + j)) (λ i. g (x' + i) (y' + j)) (λ i. e i j))

-- the sum over a square of a part of a table
box_shift : (f g : Table) (n r x0 y0 x y : ℕ) → ((i j : ℕ) → f i j ≡ g (x0 + i) (y0 + j)) → r ≤ x → r ≤ y → box f n (x - r) (y - r) ≡ box g n (x0 + x - r) (y0 + y - r)
box_shift f g n r x0 y0 x y e lx ly = box_same f g n (x - r) (y - r) (x0 + x - r) (y0 + y - r) (λ i j.
    let ex : x0 + (x - r + i) ≡ x0 + x - r + i = omega arith in
    let ey : y0 + (y - r + j) ≡ y0 + y - r + j = omega arith in
    e (x - r + i) (y - r + j) ∙ ap (λ (k : ℕ). g k (y0 + (y - r + j))) ex ∙ ap (λ (k : ℕ). g (x0 + x - r + i) k) ey)

-- the squares of a part are the part of the squares
squared_shift : (f g : Table) (x0 y0 : ℕ) → ((i j : ℕ) → f i j ≡ g (x0 + i) (y0 + j)) → (i j : ℕ) → squared f i j ≡ squared g (x0 + i) (y0 + j)
squared_shift f g x0 y0 e i j = ap (λ (k : ℕ). k * k) (e i j)

-- the weight in a part of a table is the weight in the table
own_shift : (bd r s : ℕ) (f g : Table) (x0 y0 x y : ℕ) → ((i j : ℕ) → f i j ≡ g (x0 + i) (y0 + j)) → r ≤ x → r ≤ y → own_weight bd r s f x y ≡ own_weight bd r s g (x0 + x) (y0 + y)
unfolding own_weight
own_shift bd r s f g x0 y0 x y e lx ly =
    ap (λ (k : ℕ). weight (variation bd (count r) k (box (squared f) (box_side r) (x - r) (y - r))) s) (box_shift f g (box_side r) r x0 y0 x y e lx ly)
    ∙ ap (λ (k : ℕ). weight (variation bd (count r) (box g (box_side r) (x0 + x - r) (y0 + y - r)) k) s) (box_shift (squared f) (squared g) (box_side r) r x0 y0 x y (squared_shift f g x0 y0 e) lx ly)

-- the mean in a part of a table is the mean in the table
mean_shift : (bd r s : ℕ) (f g : Table) (x0 y0 x y : ℕ) → ((i j : ℕ) → f i j ≡ g (x0 + i) (y0 + j)) → r ≤ x → r ≤ y → mean_part bd r s f x y ≡ mean_part bd r s g (x0 + x) (y0 + y)
unfolding mean_part
mean_shift bd r s f g x0 y0 x y e lx ly =
    ap (λ (k : ℕ). weighted_mean (count r) k (box f (box_side r) (x - r) (y - r))) (own_shift bd r s f g x0 y0 x y e lx ly)
    ∙ ap (λ (k : ℕ). weighted_mean (count r) (own_weight bd r s g (x0 + x) (y0 + y)) k) (box_shift f g (box_side r) r x0 y0 x y e lx ly)

-- the weighted sums round a place of a part
around_shift : (radius : ℕ) (odd : Bool) (g h : Table) (x0 y0 x y : ℕ) → ((i j : ℕ) → 2 ≤ i → 2 ≤ j → g i j ≡ h (x0 + i) (y0 + j)) → 3 ≤ x → 3 ≤ y → around radius odd g x y ≡ around radius odd h (x0 + x) (y0 + y)
around_shift radius odd g h x0 y0 x y e lx ly =
    let xl : x0 + (x - 1) ≡ x0 + x - 1 = omega arith in
    let xr : x0 + (x + 1) ≡ x0 + x + 1 = omega arith in
    let yl : y0 + (y - 1) ≡ y0 + y - 1 = omega arith in
    let yr : y0 + (y + 1) ≡ y0 + y + 1 = omega arith in
    let at : (a b a' b' : ℕ) → 2 ≤ a → 2 ≤ b → x0 + a ≡ a' → y0 + b ≡ b' → g a b ≡ h a' b' = λ a b a' b' la lb ea eb.
    e a b la lb ∙ ap (λ (k : ℕ). h k (y0 + b)) ea ∙ ap (λ (k : ℕ). h a' k) eb in
    let c1 : g (x - 1) (y - 1) ≡ h (x0 + x - 1) (y0 + y - 1) = at _ _ _ _ (omega arith) (omega arith) xl yl in
    let c2 : g x (y - 1) ≡ h (x0 + x) (y0 + y - 1) = at _ _ _ _ (omega arith) (omega arith) refl yl in
    let c3 : g (x + 1) (y - 1) ≡ h (x0 + x + 1) (y0 + y - 1) = at _ _ _ _ (omega arith) (omega arith) xr yl in
    let c4 : g (x - 1) y ≡ h (x0 + x - 1) (y0 + y) = at _ _ _ _ (omega arith) (omega arith) xl refl in
    let c5 : g x y ≡ h (x0 + x) (y0 + y) = at _ _ _ _ (omega arith) (omega arith) refl refl in
    let c6 : g (x + 1) y ≡ h (x0 + x + 1) (y0 + y) = at _ _ _ _ (omega arith) (omega arith) xr refl in
    let c7 : g (x - 1) (y + 1) ≡ h (x0 + x - 1) (y0 + y + 1) = at _ _ _ _ (omega arith) (omega arith) xl yr in
    let c8 : g x (y + 1) ≡ h (x0 + x) (y0 + y + 1) = at _ _ _ _ (omega arith) (omega arith) refl yr in
    let c9 : g (x + 1) (y + 1) ≡ h (x0 + x + 1) (y0 + y + 1) = at _ _ _ _ (omega arith) (omega arith) xr yr in
    rw (c1, c2, c3, c4, c5, c6, c7, c8, c9) refl

-- a pass in a part of a table is the pass in the table
pass_shift : (bd set radius : ℕ) (odd : Bool) (f g : Table) (v x0 y0 x y : ℕ) → ((i j : ℕ) → f i j ≡ g (x0 + i) (y0 + j)) → radius ≤ 2 → 3 ≤ x → 3 ≤ y → pass bd set radius odd f v x y ≡ pass bd set radius odd g v (x0 + x) (y0 + y)
unfolding pass
pass_shift bd set radius odd f g v x0 y0 x y e l lx ly =
    let s = strength set radius in
    let a = around_shift radius odd (own_weight bd radius s f) (own_weight bd radius s g) x0 y0 x y (λ i j li lj. own_shift bd radius s f g x0 y0 i j e (omega arith) (omega arith)) lx ly in
    let b = around_shift radius odd (mean_part bd radius s f) (mean_part bd radius s g) x0 y0 x y (λ i j li lj. mean_shift bd radius s f g x0 y0 i j e (omega arith) (omega arith)) lx ly in
    ap (λ (k : ℕ). if s == 0 then v * 16 else rounded_shift (k * v + around radius odd (mean_part bd radius s f) x y) (8 + around_bits radius odd - 4)) a
    ∙ ap (λ (k : ℕ). if s == 0 then v * 16 else rounded_shift (around radius odd (own_weight bd radius s g) (x0 + x) (y0 + y) * v + k) (8 + around_bits radius odd - 4)) b

-- a sample that is guided by a part of a table is the one that the table guides
pub guided_shift : (bd set : ℕ) (xqd : List ℤ) (odd : Bool) (f g : Table) (v x0 y0 x y : ℕ) → ((i j : ℕ) → f i j ≡ g (x0 + i) (y0 + j)) → 3 ≤ x → 3 ≤ y → guided bd set xqd odd f v x y ≡ guided bd set xqd odd g v (x0 + x) (y0 + y)
unfolding guided
guided_shift bd set xqd odd f g v x0 y0 x y e lx ly =
    let w0 = sample xqd 0 in
    let w1 = sample xqd 1 in
    let w2 = pos 128 -ℤ w0 -ℤ w1 in
    ap (λ (k : ℕ). limited (pos 0) (pos (2 ^ bd - 1)) (round2 (w0 *ℤ pos k +ℤ w1 *ℤ pos (v * 16) +ℤ w2 *ℤ pos (pass bd set 1 odd f v x y)) 11)) (pass_shift bd set 2 odd f g v x0 y0 x y e (omega arith) lx ly)
    ∙ ap (λ (k : ℕ). limited (pos 0) (pos (2 ^ bd - 1)) (round2 (w0 *ℤ pos (pass bd set 2 odd g v (x0 + x) (y0 + y)) +ℤ w1 *ℤ pos (v * 16) +ℤ w2 *ℤ pos k) 11)) (pass_shift bd set 1 odd f g v x0 y0 x y e (omega arith) lx ly)

-- the place of a column and row of a part in the list of the whole
pub part_place : (origin step x0 y0 x y : ℕ) → x0 ≤ x → y0 ≤ y → origin + y0 * step + x0 + (y - y0) * step + (x - x0) ≡ origin + y * step + x
part_place origin step x0 y0 x y lx ly =
    let e : y ≡ y0 + (y - y0) = omega arith in
    let d : (y0 + (y - y0)) * step ≡ y0 * step + (y - y0) * step = grind arith in
    let rows : y * step ≡ y0 * step + (y - y0) * step = ap (λ (k : ℕ). k * step) e ∙ d in
    omega arith

-- an area that is written by the places of its part is written
pub area_shift : (origin step x0 y0 w h : ℕ) (f g : ℕ → ℕ → ℤ) (a b : List ℤ) → ((x y : ℕ) → x0 ≤ x → x < x0 + w → y0 ≤ y → y < y0 + h → f (x - x0) (y - y0) ≡ g x y) → HasArea (origin + y0 * step + x0) step 0 w 0 h f a b → HasArea origin step x0 (x0 + w) y0 (y0 + h) g a b
area_shift origin step x0 y0 w h f g a b e area = record {
  on = λ x y lx hx ly hy. ap (λ (i : ℕ). sample b i) (sym (part_place origin step x0 y0 x y lx ly)) ∙ area.on (x - x0) (y - y0) (omega arith) (omega arith) (omega arith) (omega arith) ∙ e x y lx hx ly hy;
  off = λ i out. area.off i (λ x y lx hx ly hy d.
      let ex : x0 + x - x0 ≡ x = omega arith in
      let ey : y0 + y - y0 ≡ y = omega arith in
      let p : origin + y0 * step + x0 + y * step + x ≡ origin + (y0 + y) * step + (x0 + x) = grind arith in
      out (x0 + x) (y0 + y) (omega arith) (omega arith) (omega arith) (omega arith) (d ∙ p));
  long = area.long;
}

-- a part of rows that lie in a list lies in the list
pub part_room : (origin step width height n x0 y0 w h : ℕ) → HasRowRoom origin step width height n → x0 + w ≤ width → y0 + h ≤ height → HasRowRoom (origin + y0 * step + x0) step w h n
part_room origin step width height n x0 y0 w h room lx ly =
    let rows : (y0 + h) * step ≤ height * step = mul-le (y0 + h) step height step ly (omega arith) in
    let d : (y0 + h) * step ≡ y0 * step + h * step = grind arith in
    record { wide = omega (arith, room.wide); inside = omega (arith, room.inside) }

-- what a stripe reads is in the range of both pictures
pub source_below : {X : Type 0} → (number : X → ℤ) (bound width height start stop : ℕ) (p d : Plane X) (x y : ℕ) → HasStripePicture number bound width height p → HasStripePicture number bound width height d → start < height → unsigned_abs (stripe_source (scene_in number width height start stop p d) x y) < bound
source_below number bound width height start stop p d x y hp hd l =
    let s = scene_in number width height start stop p d in
    let a : ℕ = nearest_in_stripe width x in
    let b : ℕ = nearest_in_stripe height y in
    let la : nearest_in_stripe width x < width = omega (arith, hp.some_width) in
    let lb : nearest_in_stripe height y < height = omega (arith, hp.some_height) in
    let small : (v : ℤ) → InDepth bound v → unsigned_abs v < bound = λ v r. grind (arith, ints, r.0, r.1) in
    let above : nearest_in_stripe height y < start → unsigned_abs (in_stripe s (nearest_in_stripe width x) (nearest_in_stripe height y)) < bound = λ m.
    subst (λ (v : ℤ). unsigned_abs v < bound) (above_row s (nearest_in_stripe width x) (nearest_in_stripe height y) _ _ refl m refl) (small _ (hd.range (nearest_in_stripe width x) (max (nearest_in_stripe height y) (start - 2)) la (omega arith))) in
    let inside : start ≤ nearest_in_stripe height y → nearest_in_stripe height y < stop → unsigned_abs (in_stripe s (nearest_in_stripe width x) (nearest_in_stripe height y)) < bound = λ m n.
    subst (λ (v : ℤ). unsigned_abs v < bound) (inside_row s (nearest_in_stripe width x) (nearest_in_stripe height y) _ _ refl m n refl) (small _ (hp.range (nearest_in_stripe width x) (nearest_in_stripe height y) la lb)) in
    let below : start ≤ nearest_in_stripe height y → stop ≤ nearest_in_stripe height y → unsigned_abs (in_stripe s (nearest_in_stripe width x) (nearest_in_stripe height y)) < bound = λ m n.
    subst (λ (v : ℤ). unsigned_abs v < bound) (below_row s (nearest_in_stripe width x) (nearest_in_stripe height y) _ _ refl m n refl) (small _ (hd.range (nearest_in_stripe width x) (min (nearest_in_stripe height y) (stop + 1)) la (omega arith))) in
    grind (arith, nat_tests)

-- cells for 71 rows hold the prefix sums of a part of 64 rows
pub cells_room : (h w pitch n : ℕ) → h ≤ 64 → w + 7 ≤ pitch → 71 * pitch ≤ n → (h + 6) * pitch + (w + 6) < n
cells_room h w pitch n lh lw ln =
    let rows : (h + 6) * pitch ≤ 70 * pitch = mul-le (h + 6) pitch 70 pitch (omega arith) (omega arith) in
    omega arith
