-- A part of a stripe by the self-guided filter.
use Rattle.std.proofs.Common.{◌≡◌, ◌≢◌, ℕ, zero, suc, ℤ, pos, ◌+◌, ◌-◌, ◌*◌, ◌/◌, ◌%◌, ◌^◌, ◌<◌, ◌≤◌, ◌+ℤ◌, ◌-ℤ◌, ◌*ℤ◌, List, refl, sym, ◌∙◌, ap, arith, inl, inr, Bool, true, false}
use Rattle.std.specs.Prelude.{◌==◌, if◌then◌else◌}
use Rattle.std.proofs.lemmas.Nat.{mul-le}
use Rattle.std.proofs.lemmas.Bool.Decides.{nat_tests}
use Rattle.av1_lrf.specs.declared.guided.Plan.{Plan}
use Rattle.av1_lrf.specs.declared.mix.Mix.{Mix}
use Rattle.av1_lrf.specs.Rows.{sample}
use Rattle.av1_lrf.specs.Sums.{rounded_shift, limited, round2}
use Rattle.av1_lrf.specs.Wiener.{Rounding, reduced}
use Rattle.av1_lrf.specs.Guided.{Table, box_side, strength, own_weight, mean_part, row_sum, cross_sum, around, around_bits, pass, guided}
use Rattle.av1_lrf.specs.Integral.{cell}
use Rattle.av1_lrf.specs.Guides.{cell_weight, cell_mean, HasGuides, guide_line_at, guide_wide_at, cross_at, pass_result, mixed, guided_sample, IsMixOf, IsPlanOf}
use Rattle.av1_lrf.proofs.PassFacts.{Cells, cells_made}

-- cells with equal values are equal
guides_same : (n m : ℕ) (f g : ℕ → ℕ → ℕ) (xs : List ℕ) → ((i k : ℕ) → i < n → k < m → f i k ≡ g i k) → HasGuides n m f xs → HasGuides n m g xs
guides_same n m f g xs e h = record { each = λ i k li lk. h.each i k li lk ∙ e i k li lk }

-- one cell of a table, of which row k of cells has row r k
cell_at : (h : Table) (n m x : ℕ) (r : ℕ → ℕ) (cells : List ℕ) → HasGuides n m (λ i k. h (x + i + 2) (r k)) cells → (q i k u w : ℕ) → q ≡ k * 66 + i → i < n → k < m → x + i + 2 ≡ u → r k ≡ w → cell cells q ≡ h u w
cell_at h n m x r cells g q i k u w e li lk ex ey =
    ap (λ (j : ℕ). cell cells j) e ∙ g.each i k li lk ∙ ap (λ (a : ℕ). h a (r k)) ex ∙ ap (h u) ey

-- a weighted row of cells is the weighted row of the definition
line_made : (h : Table) (n m x : ℕ) (r : ℕ → ℕ) (cells : List ℕ) → HasGuides (n + 2) m (λ i k. h (x + i + 2) (r k)) cells → (q i k u w : ℕ) → q ≡ k * 66 + i → i < n → k < m → x + i + 3 ≡ u → r k ≡ w → guide_line_at cells q ≡ row_sum h u w
unfolding guide_line_at
line_made h n m x r cells g q i k u w e li lk ex ey =
    let a : cell cells q ≡ h (u - 1) w = cell_at h (n + 2) m x r cells g q i k (u - 1) w e (omega arith) lk (omega arith) ey in
    let b : cell cells (q + 1) ≡ h u w = cell_at h (n + 2) m x r cells g (q + 1) (i + 1) k u w (omega arith) (omega arith) lk (omega arith) ey in
    let c : cell cells (q + 2) ≡ h (u + 1) w = cell_at h (n + 2) m x r cells g (q + 2) (i + 2) k (u + 1) w (omega arith) (omega arith) lk (omega arith) ey in
    rw (a, b, c) refl

-- a choice by the parity of a row is a choice by its test
by_parity : (b : Bool) (v1 v2 v3 o1 o2 o3 : ℕ) → (b ≡ true → v1 ≡ o1) → (b ≡ false → v2 ≡ o2) → (b ≡ false → v3 ≡ o3) → (if b then v1 else v2 + v3) ≡ (if b then o1 else o2 + o3)
by_parity true v1 v2 v3 o1 o2 o3 e f g = e refl
by_parity false v1 v2 v3 o1 o2 o3 e f g = rw (f refl, g refl) refl

-- a row that tests as odd is odd
is_odd : (n : ℕ) → (n % 2 == 1) ≡ true → n % 2 ≡ 1
is_odd n e = grind (arith, nat_tests)

-- a row that doesn't test as odd is even
is_even : (n : ℕ) → (n % 2 == 1) ≡ false → n % 2 ≡ 0
is_even n e = grind (arith, nat_tests)

-- the sum of radius 2 round column u of row w
wide_made : (h : Table) (n m x y : ℕ) (cells : List ℕ) → HasGuides (n + 2) m (λ i k. h (x + i + 2) (y + 2 * k + 2)) cells → (u w : ℕ) → x ≤ u → u < x + n → y ≤ w → (w - y) / 2 + 1 < m → y % 2 ≡ 0 →
    guide_wide_at ((w - y) % 2 == 1) cells ((w - y) / 2 * 66 + (u - x)) ≡ around 2 (w % 2 == 1) h (u + 3) (w + 3)
unfolding guide_wide_at
wide_made h n m x y cells g u w lx hx ly lm even =
    let k : ℕ = (w - y) / 2 in
    let same : (w - y) % 2 ≡ w % 2 = omega arith in
    let row = λ (j : ℕ). y + 2 * j + 2 in
    by_parity ((w - y) % 2 == 1) (guide_line_at cells ((w - y) / 2 * 66 + (u - x) + 66)) (guide_line_at cells ((w - y) / 2 * 66 + (u - x))) (guide_line_at cells ((w - y) / 2 * 66 + (u - x) + 66))
    (row_sum h (u + 3) (w + 3)) (row_sum h (u + 3) (w + 3 - 1)) (row_sum h (u + 3) (w + 3 + 1))
    (λ o. let p = is_odd (w - y) o in line_made h n m x (λ j. y + 2 * j + 2) cells g ((w - y) / 2 * 66 + (u - x) + 66) (u - x) ((w - y) / 2 + 1) (u + 3) (w + 3) (omega arith) (omega arith) lm (omega arith) (omega arith))
    (λ o. let p = is_even (w - y) o in line_made h n m x (λ j. y + 2 * j + 2) cells g ((w - y) / 2 * 66 + (u - x)) (u - x) ((w - y) / 2) (u + 3) (w + 3 - 1) (omega arith) (omega arith) (omega arith) (omega arith) (omega arith))
    (λ o. let p = is_even (w - y) o in line_made h n m x (λ j. y + 2 * j + 2) cells g ((w - y) / 2 * 66 + (u - x) + 66) (u - x) ((w - y) / 2 + 1) (u + 3) (w + 3 + 1) (omega arith) (omega arith) lm (omega arith) (omega arith))
    ∙ ap (λ (j : ℕ). around 2 (j == 1) h (u + 3) (w + 3)) same

-- the sum of radius 1 from cells is the sum of the definition
cross_made : (h : Table) (n m x y : ℕ) (cells : List ℕ) → HasGuides (n + 2) m (λ i k. h (x + i + 2) (y + k + 2)) cells → (u w : ℕ) → x ≤ u → u < x + n → y ≤ w → w - y + 2 < m →
    cross_at cells ((w - y) * 66 + (u - x)) ≡ cross_sum h (u + 3) (w + 3)
unfolding cross_at
cross_made h n m x y cells g u w lx hx ly lm =
    let at : (q i k a b : ℕ) → q ≡ k * 66 + i → i < n + 2 → k < m → x + i + 2 ≡ a → y + k + 2 ≡ b → cell cells q ≡ h a b = cell_at h (n + 2) m x (λ k. y + k + 2) cells g in
    let a0 : cell cells ((w - y) * 66 + (u - x)) ≡ h (u + 3 - 1) (w + 3 - 1) = at _ (u - x) (w - y) _ _ (omega arith) (omega arith) (omega arith) (omega arith) (omega arith) in
    let a1 : cell cells ((w - y) * 66 + (u - x) + 1) ≡ h (u + 3) (w + 3 - 1) = at _ (u - x + 1) (w - y) _ _ (omega arith) (omega arith) (omega arith) (omega arith) (omega arith) in
    let a2 : cell cells ((w - y) * 66 + (u - x) + 2) ≡ h (u + 3 + 1) (w + 3 - 1) = at _ (u - x + 2) (w - y) _ _ (omega arith) (omega arith) (omega arith) (omega arith) (omega arith) in
    let b0 : cell cells ((w - y) * 66 + (u - x) + 66) ≡ h (u + 3 - 1) (w + 3) = at _ (u - x) (w - y + 1) _ _ (omega arith) (omega arith) (omega arith) (omega arith) (omega arith) in
    let b1 : cell cells ((w - y) * 66 + (u - x) + 67) ≡ h (u + 3) (w + 3) = at _ (u - x + 1) (w - y + 1) _ _ (omega arith) (omega arith) (omega arith) (omega arith) (omega arith) in
    let b2 : cell cells ((w - y) * 66 + (u - x) + 68) ≡ h (u + 3 + 1) (w + 3) = at _ (u - x + 2) (w - y + 1) _ _ (omega arith) (omega arith) (omega arith) (omega arith) (omega arith) in
    let c0 : cell cells ((w - y) * 66 + (u - x) + 132) ≡ h (u + 3 - 1) (w + 3 + 1) = at _ (u - x) (w - y + 2) _ _ (omega arith) (omega arith) (omega arith) (omega arith) (omega arith) in
    let c1 : cell cells ((w - y) * 66 + (u - x) + 133) ≡ h (u + 3) (w + 3 + 1) = at _ (u - x + 1) (w - y + 2) _ _ (omega arith) (omega arith) (omega arith) (omega arith) (omega arith) in
    let c2 : cell cells ((w - y) * 66 + (u - x) + 134) ≡ h (u + 3 + 1) (w + 3 + 1) = at _ (u - x + 2) (w - y + 2) _ _ (omega arith) (omega arith) (omega arith) (omega arith) (omega arith) in
    rw (a0, a1, a2, b0, b1, b2, c0, c1, c2) refl

-- a pass with equal sums gives equal samples
pass_cases : (s a b a' b' v n n' : ℕ) → (s ≢ 0 → a ≡ a') → (s ≢ 0 → b ≡ b') → n ≡ n' → (if s == 0 then v * 16 else rounded_shift (a * v + b) n) ≡ (if s == 0 then v * 16 else rounded_shift (a' * v + b') n')
pass_cases zero a b a' b' v n n' ea eb en = refl
pass_cases (suc s) a b a' b' v n n' ea eb en =
    let some : suc s ≢ 0 = λ e. absurd (omega arith) in
    let fa : a ≡ a' = ea some in
    let fb : b ≡ b' = eb some in
    rw (fa, fb, en) refl

-- the bits of a pass of radius 2 are those of the definition
wide_bits : (odd : Bool) → (if odd then 8 else 9) ≡ 8 + around_bits 2 odd - 4
wide_bits true = refl
wide_bits false = refl

-- the pass of radius 2 from cells is the pass of the definition
wide_pass : (bd set s : ℕ) (odd : Bool) (f : Table) (a b v x y : ℕ) → s ≡ strength set 2 → (s ≢ 0 → a ≡ around 2 odd (own_weight bd 2 (strength set 2) f) x y) → (s ≢ 0 → b ≡ around 2 odd (mean_part bd 2 (strength set 2) f) x y) → pass_result s a b v (if odd then 8 else 9) ≡ pass bd set 2 odd f v x y
unfolding pass_result pass
wide_pass bd set s odd f a b v x y e ea eb =
    pass_cases s a b (around 2 odd (own_weight bd 2 (strength set 2) f) x y) (around 2 odd (mean_part bd 2 (strength set 2) f) x y) v (if odd then 8 else 9) (8 + around_bits 2 odd - 4) ea eb (wide_bits odd)
    ∙ ap (λ (k : ℕ). if k == 0 then v * 16 else rounded_shift (around 2 odd (own_weight bd 2 (strength set 2) f) x y * v + around 2 odd (mean_part bd 2 (strength set 2) f) x y) (8 + around_bits 2 odd - 4)) e

-- the pass of radius 1 from cells is the pass of the definition
cross_pass : (bd set s : ℕ) (odd : Bool) (f : Table) (a b v x y : ℕ) → s ≡ strength set 1 → (s ≢ 0 → a ≡ cross_sum (own_weight bd 1 (strength set 1) f) x y) → (s ≢ 0 → b ≡ cross_sum (mean_part bd 1 (strength set 1) f) x y) → pass_result s a b v 9 ≡ pass bd set 1 odd f v x y
unfolding pass_result pass
cross_pass bd set s odd f a b v x y e ea eb =
    pass_cases s a b (cross_sum (own_weight bd 1 (strength set 1) f) x y) (cross_sum (mean_part bd 1 (strength set 1) f) x y) v 9 9 ea eb refl
    ∙ ap (λ (k : ℕ). if k == 0 then v * 16 else rounded_shift (cross_sum (own_weight bd 1 (strength set 1) f) x y * v + cross_sum (mean_part bd 1 (strength set 1) f) x y) 9) e

-- both passes and the sample, mixed by a unit's weights, are the guided sample
mixed_is : (bd set : ℕ) (xqd : List ℤ) (odd : Bool) (f : Table) (m : Mix) (f2 v f1 x y : ℕ) → IsMixOf bd set xqd m → f2 ≡ pass bd set 2 odd f v x y → f1 ≡ pass bd set 1 odd f v x y → mixed m f2 v f1 ≡ guided bd set xqd odd f v x y
unfolding mixed guided
mixed_is bd set xqd odd f m f2 v f1 x y h e2 e1 =
    let w0 = h.w0 in
    let w1 = h.w1 in
    let w2 = h.w2 in
    let e : m.w0 *ℤ pos f2 +ℤ m.w1 *ℤ pos (v * 16) +ℤ m.w2 *ℤ pos f1 ≡ sample xqd 0 *ℤ pos (pass bd set 2 odd f v x y) +ℤ sample xqd 1 *ℤ pos (v * 16) +ℤ (pos 128 -ℤ sample xqd 0 -ℤ sample xqd 1) *ℤ pos (pass bd set 1 odd f v x y) = rw (w0, w1, w2, e2, e1) refl in
    ap (λ (r : Rounding). reduced r (m.w0 *ℤ pos f2 +ℤ m.w1 *ℤ pos (v * 16) +ℤ m.w2 *ℤ pos f1)) h.limits
    ∙ ap (λ (k : ℤ). limited (pos 0) (pos (2 ^ bd - 1)) (round2 k 11)) e

-- the rows of cells, where the pass isn't left out
all_rows : (s m k : ℕ) → m ≡ (if s == 0 then 0 else k) → s ≢ 0 → m ≡ k
all_rows s m k e n = grind (arith, nat_tests)

-- the cells of radius 2 and of radius 1 of a part
wide_cells : (bd set : ℕ) (xqd : List ℤ) (f : Table) (p : Plan) (step width height : ℕ) (cells squares : List ℕ) → IsPlanOf bd set xqd f p step width height cells squares →
    (n rows x y i k : ℕ) → x + n ≤ width → y + rows ≤ height → i < n + 2 → k < (rows + 1) / 2 + 1 → Cells bd set 2 f p.two cells squares step (y * step + x + k * 2 * step + i) (x + i) (y + 2 * k)
wide_cells bd set xqd f p step width height cells squares h n rows x y i k lx ly li lk =
    cells_made bd set 2 f p.two cells squares step (width + 6) (height + 6) (y * step + x + k * 2 * step + i) (x + i) (y + 2 * k) h.depth (inr refl) h.two h.sums h.square_sums (λ a b la lb. h.below a b la lb) (grind arith) (omega arith) (omega arith)

-- the cells of radius 1 have the weights and means of the definition
cross_cells : (bd set : ℕ) (xqd : List ℤ) (f : Table) (p : Plan) (step width height : ℕ) (cells squares : List ℕ) → IsPlanOf bd set xqd f p step width height cells squares →
    (n rows x y i k : ℕ) → x + n ≤ width → y + rows ≤ height → i < n + 2 → k < rows + 2 → Cells bd set 1 f p.one cells squares step ((y + 1) * step + x + 1 + k * 1 * step + i) (x + i + 1) (y + k + 1)
cross_cells bd set xqd f p step width height cells squares h n rows x y i k lx ly li lk =
    cells_made bd set 1 f p.one cells squares step (width + 6) (height + 6) ((y + 1) * step + x + 1 + k * 1 * step + i) (x + i + 1) (y + k + 1) h.depth (inl refl) h.one h.sums h.square_sums (λ a b la lb. h.below a b la lb) (grind arith) (omega arith) (omega arith)

-- the samples of a part are guided as the definition says
pub part_made : (bd set : ℕ) (xqd : List ℤ) (f : Table) (p : Plan) (step width height : ℕ) (cells squares a2 b2 a1 b1 : List ℕ) (n rows x y m2 m1 : ℕ) → IsPlanOf bd set xqd f p step width height cells squares →
    HasGuides (n + 2) m2 (λ i k. cell_weight p.two cells squares step (y * step + x + k * 2 * step + i)) a2 →
    HasGuides (n + 2) m2 (λ i k. cell_mean p.two cells squares step (y * step + x + k * 2 * step + i)) b2 →
    HasGuides (n + 2) m1 (λ i k. cell_weight p.one cells squares step ((y + 1) * step + x + 1 + k * 1 * step + i)) a1 →
    HasGuides (n + 2) m1 (λ i k. cell_mean p.one cells squares step ((y + 1) * step + x + 1 + k * 1 * step + i)) b1 →
    m2 ≡ (if p.two.strength == 0 then 0 else (rows + 1) / 2 + 1) → m1 ≡ (if p.one.strength == 0 then 0 else rows + 2) → x + n ≤ width → y + rows ≤ height → y % 2 ≡ 0 →
    (v : ℕ → ℕ → ℕ) (u w : ℕ) → x ≤ u → u < x + n → y ≤ w → w < y + rows →
    guided_sample p.mix ((w - y) % 2 == 1) a2 b2 a1 b1 ((w - y) / 2 * 66 + (u - x)) ((w - y) * 66 + (u - x)) (v u w) ≡ guided bd set xqd (w % 2 == 1) f (v u w) (u + 3) (w + 3)
unfolding guided_sample
part_made bd set xqd f p step width height cells squares a2 b2 a1 b1 n rows x y m2 m1 h ga2 gb2 ga1 gb1 em2 em1 lx ly even v u w lu hu lw hw =
    ap (λ (odd : Bool). mixed p.mix (pass_result p.mix.strong (guide_wide_at ((w - y) % 2 == 1) a2 ((w - y) / 2 * 66 + (u - x))) (guide_wide_at ((w - y) % 2 == 1) b2 ((w - y) / 2 * 66 + (u - x))) (v u w) (if odd then 8 else 9)) (v u w) (pass_result p.mix.weak (cross_at a1 ((w - y) * 66 + (u - x))) (cross_at b1 ((w - y) * 66 + (u - x))) (v u w) 9)) parity
    ∙ mixed_is bd set xqd (w % 2 == 1) f p.mix _ (v u w) _ (u + 3) (w + 3) h.mix
    (wide_pass bd set p.mix.strong (w % 2 == 1) f _ _ (v u w) (u + 3) (w + 3) h.mix.strong (λ s. wide_a (some2 s)) (λ s. wide_b (some2 s)))
    (cross_pass bd set p.mix.weak (w % 2 == 1) f _ _ (v u w) (u + 3) (w + 3) h.mix.weak (λ s. cross_a (some1 s)) (λ s. cross_b (some1 s)))
  where
    same : (w - y) % 2 ≡ w % 2
    same = omega arith

    parity : ((w - y) % 2 == 1) ≡ (w % 2 == 1)
    parity = ap (λ (k : ℕ). k == 1) same

    some2 : p.mix.strong ≢ 0 → m2 ≡ (rows + 1) / 2 + 1
    some2 s = all_rows p.two.strength m2 ((rows + 1) / 2 + 1) em2 (λ e. s (h.mix.strong ∙ sym h.two.strong ∙ e))

    some1 : p.mix.weak ≢ 0 → m1 ≡ rows + 2
    some1 s = all_rows p.one.strength m1 (rows + 2) em1 (λ e. s (h.mix.weak ∙ sym h.one.strong ∙ e))

    wide_a : m2 ≡ (rows + 1) / 2 + 1 → guide_wide_at ((w - y) % 2 == 1) a2 ((w - y) / 2 * 66 + (u - x)) ≡ around 2 (w % 2 == 1) (own_weight bd 2 (strength set 2) f) (u + 3) (w + 3)
    wide_a e = wide_made (own_weight bd 2 (strength set 2) f) n m2 x y a2 (guides_same (n + 2) m2 (λ i k. cell_weight p.two cells squares step (y * step + x + k * 2 * step + i)) (λ i k. own_weight bd 2 (strength set 2) f (x + i + 2) (y + 2 * k + 2)) a2 (λ i k li lk. (wide_cells bd set xqd f p step width height cells squares h n rows x y i k lx ly li (omega arith)).weight) ga2) u w lu hu lw (omega arith) even

    wide_b : m2 ≡ (rows + 1) / 2 + 1 → guide_wide_at ((w - y) % 2 == 1) b2 ((w - y) / 2 * 66 + (u - x)) ≡ around 2 (w % 2 == 1) (mean_part bd 2 (strength set 2) f) (u + 3) (w + 3)
    wide_b e = wide_made (mean_part bd 2 (strength set 2) f) n m2 x y b2 (guides_same (n + 2) m2 (λ i k. cell_mean p.two cells squares step (y * step + x + k * 2 * step + i)) (λ i k. mean_part bd 2 (strength set 2) f (x + i + 2) (y + 2 * k + 2)) b2 (λ i k li lk. (wide_cells bd set xqd f p step width height cells squares h n rows x y i k lx ly li (omega arith)).mean) gb2) u w lu hu lw (omega arith) even

    two_more : (g : Table) (i k : ℕ) → g (x + i + 1 + 1) (y + k + 1 + 1) ≡ g (x + i + 2) (y + k + 2)
    two_more g i k =
        let c : x + i + 1 + 1 ≡ x + i + 2 = omega arith in
        let r : y + k + 1 + 1 ≡ y + k + 2 = omega arith in
        ap (λ (a : ℕ). g a (y + k + 1 + 1)) c ∙ ap (g (x + i + 2)) r

    cross_a : m1 ≡ rows + 2 → cross_at a1 ((w - y) * 66 + (u - x)) ≡ cross_sum (own_weight bd 1 (strength set 1) f) (u + 3) (w + 3)
    cross_a e = cross_made (own_weight bd 1 (strength set 1) f) n m1 x y a1 (guides_same (n + 2) m1 (λ i k. cell_weight p.one cells squares step ((y + 1) * step + x + 1 + k * 1 * step + i)) (λ i k. own_weight bd 1 (strength set 1) f (x + i + 2) (y + k + 2)) a1 (λ i k li lk. (cross_cells bd set xqd f p step width height cells squares h n rows x y i k lx ly li (omega arith)).weight ∙ two_more (own_weight bd 1 (strength set 1) f) i k) ga1) u w lu hu lw (omega arith)

    cross_b : m1 ≡ rows + 2 → cross_at b1 ((w - y) * 66 + (u - x)) ≡ cross_sum (mean_part bd 1 (strength set 1) f) (u + 3) (w + 3)
    cross_b e = cross_made (mean_part bd 1 (strength set 1) f) n m1 x y b1 (guides_same (n + 2) m1 (λ i k. cell_mean p.one cells squares step ((y + 1) * step + x + 1 + k * 1 * step + i)) (λ i k. mean_part bd 1 (strength set 1) f (x + i + 2) (y + k + 2)) b1 (λ i k li lk. (cross_cells bd set xqd f p step width height cells squares h n rows x y i k lx ly li (omega arith)).mean ∙ two_more (mean_part bd 1 (strength set 1) f) i k) gb1) u w lu hu lw (omega arith)

-- r rows and c columns further on there are cells yet
pub cells_inside : (step width height n r c : ℕ) → (height + 6) * step + width + 6 < n → r ≤ height + 6 → c ≤ width + 7 → r * step + c ≤ n
cells_inside step width height n r c l lr lc =
    let rows : r * step ≤ (height + 6) * step = mul-le r step (height + 6) step lr (omega arith) in
    omega arith

-- the squares of radius 2 lie in the cells
pub wide_inside : (step width height len box_side n rows x y k : ℕ) → (height + 6) * step + width + 6 < len → x + n ≤ width → y + rows ≤ height → box_side ≡ 5 → k < (rows + 1) / 2 + 1 → y * step + x + k * 2 * step + box_side * step + box_side + (n + 2) ≤ len
wide_inside step width height len box_side n rows x y k l lx ly e lk =
    let all : (y + 2 * k + 5) * step + (x + n + 7) ≤ len = cells_inside step width height len (y + 2 * k + 5) (x + n + 7) l (omega arith) (omega arith) in
    let same : y * step + x + k * 2 * step + 5 * step + 5 + (n + 2) ≡ (y + 2 * k + 5) * step + (x + n + 7) = grind arith in
    rw e (omega arith)

-- the squares of radius 1 lie in the cells
pub cross_inside : (step width height len box_side n rows x y k : ℕ) → (height + 6) * step + width + 6 < len → x + n ≤ width → y + rows ≤ height → box_side ≡ 3 → k < rows + 2 → (y + 1) * step + x + 1 + k * 1 * step + box_side * step + box_side + (n + 2) ≤ len
cross_inside step width height len box_side n rows x y k l lx ly e lk =
    let all : (y + k + 4) * step + (x + n + 6) ≤ len = cells_inside step width height len (y + k + 4) (x + n + 6) l (omega arith) (omega arith) in
    let same : (y + 1) * step + x + 1 + k * 1 * step + 3 * step + 3 + (n + 2) ≡ (y + k + 4) * step + (x + n + 6) = grind arith in
    rw e (omega arith)
