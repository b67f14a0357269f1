-- A line cut into parts, and a table cut along both sides.
use Rattle.std.proofs.Common.{◌≡◌, ℕ, ◌+◌, ◌-◌, ◌*◌, ◌/◌, ◌%◌, ◌<◌, ◌≤◌, min, sym, ap, ◌∙◌, subst, arith}
use Rattle.std.proofs.lemmas.Nat.{div_below, mod_below, div-mul-add, mod-mul-add, mul-add-lt, div-add-mod'}
use Rattle.std.proofs.Math.Nat.{div-mul-le_self, lt-div-mul-add, mul_comm}
use Rattle.av1_plane.specs.declared.tile_rect.TileRect.{TileRect}
use Rattle.av1_block.specs.Cut.{IsInside}
use Rattle.av1_tiling.specs.Partition.{Partitions}

-- the parts that begin at start i and are size i long, i below count, cut a line of this length: each place lies in exactly one
pub record IsCut (start size : ℕ → ℕ) (count whole : ℕ) : Type 0 where
  pub inside : (i : ℕ) → i < count → start i + size i ≤ whole
  pub covered : (x : ℕ) → x < whole → (i : ℕ) × (i < count) × ((start i ≤ x) × (x < start i + size i))
  pub apart : (i j x : ℕ) → i < count → j < count → (start i ≤ x) × (x < start i + size i) → (start j ≤ x) × (x < start j + size j) → i ≡ j

-- the part that a place lies in is the quotient
part_of : (a w i x : ℕ) → 0 < a → (min (i * a) w ≤ x) × (x < min (i * a) w + min a (w - i * a)) → i ≡ x / a
part_of a w i x some h =
    let low : i * a ≤ x = let l = h.0 in let r = h.1 in omega arith in
    let high : x < i * a + a = let l = h.0 in let r = h.1 in omega arith in
    sym (ap (λ (y : ℕ). y / a) (let e : x ≡ i * a + (x - i * a) = omega arith in e) ∙ div-mul-add i a (x - i * a) (omega arith))

-- parts of one size, the last one cut, cut a line
pub even_cut : (a w count : ℕ) → 0 < a → w ≤ count * a → IsCut (λ i. min (i * a) w) (λ i. min a (w - i * a)) count w
even_cut a w count some enough = record {
  inside = λ i _. omega arith;
  covered = λ x l.
      let low = div-mul-le_self x a in
      let high : x < x / a * a + a = lt-div-mul-add some in
      (x / a, div_below x a count some (omega arith), (omega arith, omega arith));
  apart = λ i j x _ _ p q. part_of a w i x some p ∙ sym (part_of a w j x some q);
}

-- parts that begin and end alike cut a line alike
pub cut_like : (start size start' size' : ℕ → ℕ) (count whole : ℕ) → ((i : ℕ) → i < count → (start' i ≡ start i) × (size' i ≡ size i)) → IsCut start size count whole → IsCut start' size' count whole
cut_like start size start' size' count whole same cut = record {
  inside = λ i l. let e = same i l in let h = cut.inside i l in let e0 = e.0 in let e1 = e.1 in omega arith;
  covered = λ x l. let c = cut.covered x l in let e = same c.0 c.1 in let e0 = e.0 in let e1 = e.1 in let p = c.2.0 in let q = c.2.1 in (c.0, c.1, (omega arith, omega arith));
  apart = λ i j x li lj p q.
      let e = same i li in let f = same j lj in let e0 = e.0 in let e1 = e.1 in let f0 = f.0 in let f1 = f.1 in
      let p0 = p.0 in let p1 = p.1 in let q0 = q.0 in let q1 = q.1 in
      cut.apart i j x li lj (omega arith, omega arith) (omega arith, omega arith);
}

-- one part that is the whole line cuts the line
pub one_cut : (start size : ℕ → ℕ) (whole : ℕ) → start 0 ≡ 0 → size 0 ≡ whole → IsCut start size 1 whole
one_cut start size whole first all = record {
  inside = λ i l. let e : 0 ≡ i = omega arith in subst (λ (x : ℕ). start x + size x ≤ whole) e (omega arith);
  covered = λ x l. (0, omega arith, (omega arith, omega arith));
  apart = λ i j x li lj _ _. omega arith;
}

-- a place that lies in a rectangle along both sides
inside_of : {r : TileRect} {x y : ℕ} → (r.x ≤ x) × (x < r.x + r.width) → (r.y ≤ y) × (y < r.y + r.height) → IsInside r x y
inside_of along down = record { left = along.0; right = along.1; top = down.0; bottom = down.1 }

-- a table cut along both sides, its parts counted row by row
pub table_cut : (start_x size_x start_y size_y : ℕ → ℕ) (cols rows width height : ℕ) → 0 < cols → IsCut start_x size_x cols width → IsCut start_y size_y rows height
    → Partitions (λ n. record { x = start_x (n % cols); y = start_y (n / cols); width = size_x (n % cols); height = size_y (n / cols) }) (cols * rows) width height
table_cut start_x size_x start_y size_y cols rows width height some along down = record {
  inside = λ n l. (along.inside (n % cols) (mod_below n cols some), down.inside (n / cols) (row_below n cols rows some l));
  covered = λ x y lx ly.
      let c = along.covered x lx in
      let r = down.covered y ly in (
        r.0 * cols + c.0,
        mul-add-lt r.0 cols c.0 rows r.1 c.1,
        inside_of
            (subst (λ (i : ℕ). (start_x i ≤ x) × (x < start_x i + size_x i)) (sym (mod-mul-add r.0 cols c.0 c.1)) c.2)
            (subst (λ (i : ℕ). (start_y i ≤ y) × (y < start_y i + size_y i)) (sym (div-mul-add r.0 cols c.0 c.1)) r.2),
      );
  apart = λ m n x y lm ln p q.
      let column = along.apart (m % cols) (n % cols) x (mod_below m cols some) (mod_below n cols some) (p.left, p.right) (q.left, q.right) in
      let row = down.apart (m / cols) (n / cols) y (row_below m cols rows some lm) (row_below n cols rows some ln) (p.top, p.bottom) (q.top, q.bottom) in
      sym (div-add-mod' m cols) ∙ (ap (λ (i : ℕ). i * cols + m % cols) row ∙ (ap (λ (i : ℕ). n / cols * cols + i) column ∙ div-add-mod' n cols));
}
  where
    row_below : (n cols rows : ℕ) → 0 < cols → n < cols * rows → n / cols < rows
    row_below n cols rows some l = div_below n cols rows some (subst (λ (x : ℕ). n < x) (mul_comm cols rows) l)
