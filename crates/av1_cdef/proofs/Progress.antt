-- Blocks of a region that become a definition's blocks, one after another.
use Rattle.std.proofs.Common.{◌≡◌, ℕ, ℤ, pos, ◌+◌, ◌*◌, ◌<◌, ◌≤◌, List, get_or, refl, ◌∙◌, ap, arith, inl, inr}
use Rattle.std.proofs.Math.Nat.{mul-le-mul_right, mul-le-mul_left}
use Rattle.std.proofs.lemmas.Bool.{cases_lt}
use Rattle.av1_plane.specs.Region.{spot}
use Rattle.av1_cdef.specs.Cells.{HasBlock}
use Rattle.av1_cdef.specs.Done.{IsBefore, HasFilteredBlocks}

-- a row ends before each later row begins
rows_apart : (s i j : ℕ) → i < j → i * s + s ≤ j * s
rows_apart s i j l =
    let rows : (i + 1) * s ≤ j * s = mul-le-mul_right s (omega arith) in
    let more : (i + 1) * s ≡ i * s + s = grind arith in
    omega arith

-- a place of a region is one column of one row
pub same_place : (start step x y x' y' : ℕ) → x < step → x' < step → spot start step x y ≡ spot start step x' y' → (x ≡ x') × (y ≡ y')
same_place start step x y x' y' l l' e = elim (cases_lt y y') [
  | inl less ↦ let a = rows_apart step y y' less in absurd (omega arith)
  | inr h ↦ elim (cases_lt y' y) [
    | inl more ↦ let a = rows_apart step y' y more in absurd (omega arith)
    | inr k ↦ let ey : y ≡ y' = omega arith in let p : y * step ≡ y' * step = ap (λ n. n * step) ey in (omega arith, ey)
  ]
]

-- a sample of a row of blocks is in one block
pub same_block : (w u j u' j' : ℕ) → j < w → j' < w → w * u + j ≡ w * u' + j' → u ≡ u'
same_block w u j u' j' l l' e = elim (cases_lt u u') [
  | inl less ↦ let a : w * (u + 1) ≤ w * u' = mul-le-mul_left w (omega arith) in let b : w * (u + 1) ≡ w * u + w = grind arith in absurd (omega arith)
  | inr h ↦ elim (cases_lt u' u) [
    | inl more ↦ let a : w * (u' + 1) ≤ w * u = mul-le-mul_left w (omega arith) in let b : w * (u' + 1) ≡ w * u' + w = grind arith in absurd (omega arith)
    | inr k ↦ omega arith
  ]
]

-- a column of a block lies in its row
pub column_fits : (w u x1 step j : ℕ) → u < x1 → j < w → w * x1 ≤ step → w * u + j < step
column_fits w u x1 step j l m h = let a : w * (u + 1) ≤ w * x1 = mul-le-mul_left w (omega arith) in let b : w * (u + 1) ≡ w * u + w = grind arith in omega arith

-- at first no block is done
pub blocks_none : (start step w h x0 x1 y0 : ℕ) (value : ℕ → ℕ → ℕ → ℕ → ℤ) (xs : List ℤ) → HasFilteredBlocks start step w h x0 x1 y0 x0 y0 value xs xs
blocks_none start step w h x0 x1 y0 value xs = record {
  long = refl;
  on = λ u v i j b li lj. absurd (let l = b.left in let t = b.top in elim b.order [ inl a ↦ omega arith | inr e ↦ omega arith ]);
  off = λ k f. refl;
}

-- one block more of a part is done
pub blocks_more : (start step w h x0 x1 y0 bx by : ℕ) (value : ℕ → ℕ → ℕ → ℕ → ℤ) (xs ys zs : List ℤ) → x0 ≤ bx → bx < x1 → y0 ≤ by → w * x1 ≤ step
    → HasFilteredBlocks start step w h x0 x1 y0 bx by value xs ys → HasBlock start step (w * bx) (h * by) w h (value bx by) ys zs → HasFilteredBlocks start step w h x0 x1 y0 (bx + 1) by value xs zs
blocks_more start step w h x0 x1 y0 bx by value xs ys zs lx rx ly wide d b = record {
  long = b.long ∙ d.long;
  on = at;
  off = λ k f. b.off k (λ i j li lj. f bx by i j (record { left = lx; right = rx; top = ly; order = inr (refl, omega arith) }) li lj)
      ∙ d.off k (λ u v i j e li lj. f u v i j (later u v e) li lj);
}
  where
    later : (u v : ℕ) → IsBefore x0 x1 y0 bx by u v → IsBefore x0 x1 y0 (bx + 1) by u v
    later u v e = record { left = e.left; right = e.right; top = e.top; order = elim e.order [ inl a ↦ inl a | inr (p, q) ↦ inr (p, omega arith) ] }

    old : (u v i j : ℕ) → IsBefore x0 x1 y0 bx by u v → i < h → j < w → get_or zs (spot start step (w * u + j) (h * v + i)) (pos 0) ≡ value u v i j
    old u v i j e li lj =
        b.off (spot start step (w * u + j) (h * v + i)) (λ r c lr lc k.
        let one = same_place start step (w * u + j) (h * v + i) (w * bx + c) (h * by + r) (column_fits w u x1 step j e.right lj wide) (column_fits w bx x1 step c rx lc wide) k in
        let eu : u ≡ bx = same_block w u j bx c lj lc one.0 in
        let ev : v ≡ by = same_block h v i by r li lr one.1 in
        elim e.order [ inl a ↦ omega arith | inr q ↦ omega arith ])
        ∙ d.on u v i j e li lj

    at : (u v i j : ℕ) → IsBefore x0 x1 y0 (bx + 1) by u v → i < h → j < w → get_or zs (spot start step (w * u + j) (h * v + i)) (pos 0) ≡ value u v i j
    at u v i j e li lj = elim e.order [
      | inl a ↦ old u v i j (record { left = e.left; right = e.right; top = e.top; order = inl a }) li lj
      | inr (p, q) ↦ elim (cases_lt u bx) [
        | inl less ↦ old u v i j (record { left = e.left; right = e.right; top = e.top; order = inr (p, less) }) li lj
        | inr last ↦ let eu : u ≡ bx = omega arith in rw (eu, p) (b.on i j li lj)
      ]
    ]

-- past the last block of a row the next one begins
pub blocks_row : (start step w h x0 x1 y0 by : ℕ) (value : ℕ → ℕ → ℕ → ℕ → ℤ) (xs ys : List ℤ) → HasFilteredBlocks start step w h x0 x1 y0 x1 by value xs ys → HasFilteredBlocks start step w h x0 x1 y0 x0 (by + 1) value xs ys
blocks_row start step w h x0 x1 y0 by value xs ys d = record {
  long = d.long;
  on = λ u v i j e li lj. d.on u v i j (back u v e) li lj;
  off = λ k f. d.off k (λ u v i j e li lj. f u v i j (forth u v e) li lj);
}
  where
    back : (u v : ℕ) → IsBefore x0 x1 y0 x0 (by + 1) u v → IsBefore x0 x1 y0 x1 by u v
    back u v e = record {
      left = e.left;
      right = e.right;
      top = e.top;
      order = elim e.order [
        | inl a ↦ (elim (cases_lt v by) [ inl l ↦ inl l | inr m ↦ inr (omega arith, e.right) ])
        | inr (p, q) ↦ absurd (let l = e.left in omega arith)
      ];
    }

    forth : (u v : ℕ) → IsBefore x0 x1 y0 x1 by u v → IsBefore x0 x1 y0 x0 (by + 1) u v
    forth u v e = record { left = e.left; right = e.right; top = e.top; order = elim e.order [ inl a ↦ inl (omega arith) | inr (p, q) ↦ inl (omega arith) ] }

pub ruleset blocks = (blocks_none, blocks_more, blocks_row)
