-- Areas of a list of numbers in rows, written row by row and part by part.
use Rattle.std.proofs.Common.{◌≡◌, ◌≢◌, ℕ, ℤ, pos, ◌+◌, ◌-◌, ◌*◌, ◌<◌, ◌≤◌, List, get_or, refl, sym, subst, ◌∙◌, ap, arith, inl, inr}
use Rattle.std.specs.Prelude.{◌⊎◌}
use Rattle.std.proofs.lemmas.Nat.{mul-le}
use Rattle.std.proofs.lemmas.Bool.Decides.{nat_tests}
use Rattle.av1_lrf.specs.Rows.{sample}
use Rattle.av1_lrf.specs.Runs.{HasSampleRun, HasArea, HasRowRoom}

-- a row of a room begins and ends in the list
pub row_inside : (origin step width height n y : ℕ) → HasRowRoom origin step width height n → y < height → origin + y * step + width ≤ n
row_inside origin step width height n y h l =
    let rows : (y + 1) * step ≤ height * step = mul-le (y + 1) step height step (omega arith) (omega arith) in
    omega (arith, h.inside)

-- the place of a row of an area is at most the length of the list
pub row_bound : (origin step width height n y : ℕ) → HasRowRoom origin step width height n → y < height → y * step ≤ n
row_bound origin step width height n y h l = omega (arith, row_inside origin step width height n y h l)

pub ruleset rooms = (row_inside, row_bound)

-- places of different rows are different
pub row_apart : (origin step x y x' y' : ℕ) → x < step → y < y' → origin + y * step + x ≢ origin + y' * step + x'
row_apart origin step x y x' y' l h e =
    let rows : (y + 1) * step ≤ y' * step = mul-le (y + 1) step y' step (omega arith) (omega arith) in
    omega arith

-- places of different columns or rows are different
pub place_apart : (origin step x y x' y' : ℕ) → x < step → x' < step → (x ≢ x') ⊎ (y ≢ y') → origin + y * step + x ≢ origin + y' * step + x'
place_apart origin step x y x' y' l l' h e =
    let above : y < y' → origin + y * step + x ≢ origin + y' * step + x' = row_apart origin step x y x' y' l in
    let below : y' < y → origin + y' * step + x' ≢ origin + y * step + x = row_apart origin step x' y' x y l' in
    let same : y ≡ y' → y * step ≡ y' * step = λ d. ap (λ k. k * step) d in
    elim h [ inl n ↦ grind (arith, nat_tests) | inr n ↦ grind (arith, nat_tests) ]

-- an area of no rows changes nothing
pub area_none : (origin step x0 x1 y : ℕ) (f : ℕ → ℕ → ℤ) (xs : List ℤ) → HasArea origin step x0 x1 y y f xs xs
area_none origin step x0 x1 y f xs = record { on = λ a b l m n o. absurd (omega arith); off = λ i h. refl; long = refl }

-- an area of no columns changes nothing
pub area_empty : (origin step x y0 y1 : ℕ) (f : ℕ → ℕ → ℤ) (xs : List ℤ) → HasArea origin step x x y0 y1 f xs xs
area_empty origin step x y0 y1 f xs = record { on = λ a b l m n o. absurd (omega arith); off = λ i h. refl; long = refl }

-- an area and one row below it are one area
pub area_row : (origin step x0 x1 y0 y1 y2 n : ℕ) (f : ℕ → ℕ → ℤ) (g : ℕ → ℤ) (a b c : List ℤ) → x1 ≤ step → x1 ≡ x0 + n → y2 ≡ y1 + 1 → y0 ≤ y1 → HasArea origin step x0 x1 y0 y1 f a b → HasSampleRun (origin + y1 * step + x0) n g b c → ((i : ℕ) → i < n → g i ≡ f (x0 + i) y1) → HasArea origin step x0 x1 y0 y2 f a c
area_row origin step x0 x1 y0 y1 y2 n f g a b c wide ex ey ly h run e = record { on = on; off = off; long = run.long ∙ h.long }
  where
    on : (x y : ℕ) → x0 ≤ x → x < x1 → y0 ≤ y → y < y2 → get_or c (origin + y * step + x) (pos 0) ≡ f x y
    on x y lx hx ly' hy =
        let kept : y < y1 → get_or c (origin + y * step + x) (pos 0) ≡ f x y = λ l.
        run.off (origin + y * step + x) (λ i li. λ d. row_apart origin step x y (x0 + i) y1 (omega arith) l (omega arith))
        ∙ h.on x y lx hx ly' l in
        let made : y ≡ y1 → get_or c (origin + y * step + x) (pos 0) ≡ f x y = λ d.
        ap (λ k. get_or c k (pos 0)) (ap (λ r. origin + r * step + x) d ∙ omega arith)
        ∙ run.on (x - x0) (omega arith) ∙ e (x - x0) (omega arith) ∙ ap (λ k. f k y1) (omega arith) ∙ sym (ap (f x) d) in
        grind (arith, nat_tests)

    off : (i : ℕ) → ((x y : ℕ) → x0 ≤ x → x < x1 → y0 ≤ y → y < y2 → i ≢ origin + y * step + x) → get_or c i (pos 0) ≡ get_or a i (pos 0)
    off i out =
        run.off i (λ k lk. λ d. out (x0 + k) y1 (omega arith) (omega arith) ly (omega arith) (omega arith))
        ∙ h.off i (λ x y lx hx l m. out x y lx hx l (omega arith))

-- an area and the columns beside it are one area
pub area_columns : (origin step x0 x1 x2 y0 y1 : ℕ) (f : ℕ → ℕ → ℤ) (a b c : List ℤ) → x0 ≤ x1 → x1 ≤ x2 → x2 ≤ step → HasArea origin step x0 x1 y0 y1 f a b → HasArea origin step x1 x2 y0 y1 f b c → HasArea origin step x0 x2 y0 y1 f a c
area_columns origin step x0 x1 x2 y0 y1 f a b c l0 l1 wide g h = record { on = on; off = off; long = h.long ∙ g.long }
  where
    on : (x y : ℕ) → x0 ≤ x → x < x2 → y0 ≤ y → y < y1 → get_or c (origin + y * step + x) (pos 0) ≡ f x y
    on x y lx hx ly hy =
        let kept : x < x1 → get_or c (origin + y * step + x) (pos 0) ≡ f x y = λ l.
        h.off (origin + y * step + x) (λ x' y' lx' hx' ly' hy'. place_apart origin step x y x' y' (omega arith) (omega arith) (inl (omega arith)))
        ∙ g.on x y lx l ly hy in
        let made : x1 ≤ x → get_or c (origin + y * step + x) (pos 0) ≡ f x y = λ l. h.on x y l hx ly hy in
        grind (arith, nat_tests)

    off : (i : ℕ) → ((x y : ℕ) → x0 ≤ x → x < x2 → y0 ≤ y → y < y1 → i ≢ origin + y * step + x) → get_or c i (pos 0) ≡ get_or a i (pos 0)
    off i out =
        h.off i (λ x y lx hx l m. out x y (omega arith) hx l m)
        ∙ g.off i (λ x y lx hx l m. out x y lx (omega arith) l m)

-- an area and the rows below it are one area
pub area_rows : (origin step x0 x1 y0 y1 y2 : ℕ) (f : ℕ → ℕ → ℤ) (a b c : List ℤ) → y0 ≤ y1 → y1 ≤ y2 → x1 ≤ step → HasArea origin step x0 x1 y0 y1 f a b → HasArea origin step x0 x1 y1 y2 f b c → HasArea origin step x0 x1 y0 y2 f a c
area_rows origin step x0 x1 y0 y1 y2 f a b c l0 l1 wide g h = record { on = on; off = off; long = h.long ∙ g.long }
  where
    on : (x y : ℕ) → x0 ≤ x → x < x1 → y0 ≤ y → y < y2 → get_or c (origin + y * step + x) (pos 0) ≡ f x y
    on x y lx hx ly hy =
        let kept : y < y1 → get_or c (origin + y * step + x) (pos 0) ≡ f x y = λ l.
        h.off (origin + y * step + x) (λ x' y' lx' hx' ly' hy'. row_apart origin step x y x' y' (omega arith) (omega arith))
        ∙ g.on x y lx hx ly l in
        let made : y1 ≤ y → get_or c (origin + y * step + x) (pos 0) ≡ f x y = λ l. h.on x y lx hx l hy in
        grind (arith, nat_tests)

    off : (i : ℕ) → ((x y : ℕ) → x0 ≤ x → x < x1 → y0 ≤ y → y < y2 → i ≢ origin + y * step + x) → get_or c i (pos 0) ≡ get_or a i (pos 0)
    off i out =
        h.off i (λ x y lx hx l m. out x y lx hx (omega arith) m)
        ∙ g.off i (λ x y lx hx l m. out x y lx hx l (omega arith))

-- an area with equal values is written alike
pub area_same : (origin step x0 x1 y0 y1 : ℕ) (f g : ℕ → ℕ → ℤ) (a b : List ℤ) → ((x y : ℕ) → x0 ≤ x → x < x1 → y0 ≤ y → y < y1 → f x y ≡ g x y) → HasArea origin step x0 x1 y0 y1 f a b → HasArea origin step x0 x1 y0 y1 g a b
area_same origin step x0 x1 y0 y1 f g a b e h = record { on = λ x y lx hx ly hy. h.on x y lx hx ly hy ∙ e x y lx hx ly hy; off = h.off; long = h.long }

-- an area with as many rows is the area
pub area_size : (origin step x0 x1 y0 y1 y2 : ℕ) (f : ℕ → ℕ → ℤ) (a b : List ℤ) → y1 ≡ y2 → HasArea origin step x0 x1 y0 y1 f a b → HasArea origin step x0 x1 y0 y2 f a b
area_size origin step x0 x1 y0 y1 y2 f a b e h = subst (λ y. HasArea origin step x0 x1 y0 y f a b) e h

-- an area with equal sides is written alike
pub area_is : (origin step x0 x1 y0 y1 u0 u1 v0 v1 : ℕ) (f : ℕ → ℕ → ℤ) (a b : List ℤ) → x0 ≡ u0 → x1 ≡ u1 → y0 ≡ v0 → y1 ≡ v1 → HasArea origin step x0 x1 y0 y1 f a b → HasArea origin step u0 u1 v0 v1 f a b
area_is origin step x0 x1 y0 y1 u0 u1 v0 v1 f a b e0 e1 d0 d1 h = record {
  on = λ x y l m n o. h.on x y (omega arith) (omega arith) (omega arith) (omega arith);
  off = λ i out. h.off i (λ x y l m n o. out x y (omega arith) (omega arith) (omega arith) (omega arith));
  long = h.long;
}

pub ruleset areas = (area_none, area_empty)

-- an area that has its values already is written by leaving the list alone
pub area_kept : (origin step x0 x1 y0 y1 : ℕ) (f : ℕ → ℕ → ℤ) (a : List ℤ) → ((x y : ℕ) → x0 ≤ x → x < x1 → y0 ≤ y → y < y1 → sample a (origin + y * step + x) ≡ f x y) → HasArea origin step x0 x1 y0 y1 f a a
area_kept origin step x0 x1 y0 y1 f a h = record { on = h; off = λ i n. refl; long = refl }
