-- Superblock by superblock.
use Rattle.std.proofs.Common.{◌≡◌, ℕ, ℤ, pos, ◌+◌, ◌-◌, ◌*◌, ◌/◌, ◌%◌, ◌<◌, ◌≤◌, List, get_or, min, refl, sym, ◌∙◌, ap, arith, inl, inr, ◌⊎◌}
use Rattle.std.proofs.Math.Nat.{mul-le-mul_left, mul-div-le, lt-div-mul-add, mul-add-div}
use Rattle.std.proofs.lemmas.Bool.{cases_lt}
use Rattle.av1_plane.specs.declared.plane.PlaneConfig.{PlaneConfig}
use Rattle.av1_plane.specs.declared.frame.Frame.{Frame}
use Rattle.av1_plane.specs.declared.tile_mut.TileMut.{TileMut}
use Rattle.av1_plane.specs.declared.region_mut.PlaneRegionMut.{PlaneRegionMut}
use Rattle.av1_cdef.specs.Conditions.{HasViewRoom, HoldsView}
use Rattle.av1_plane.specs.Region.{spot, numbers_under, first_place, row_step, area, IsStored, IsSamePart}
use Rattle.av1_cdef.specs.Frame.{Deblocked, Channel, cdef_block_width, cdef_block_height, block_cdef, index_of, cdef}
use Rattle.av1_cdef.specs.Done.{IsBefore, HasFilteredBlocks}
use Rattle.av1_cdef.specs.Superblock.{IsFilteredPlane, superblock_part, view_cdef}
use Rattle.av1_cdef.specs.Tile.{tile_cdef, sample_cdef, HasTile, IsReached, HasReached, IsFilteredTo, IsFilteredTilePlane}
use Rattle.av1_block.specs.Tables.{TileBlocks, entry_at}
use Rattle.av1_plane.proofs.Parts.{same_step, part_still, stored_still}
use Rattle.av1_cdef.proofs.Progress.{same_place, same_block, column_fits}
use Rattle.av1_cdef.proofs.Superblocks.{blocks_same}

-- no block is reached at first
pub reached_none : (start step w h cols rows : ℕ) (value : ℕ → ℕ → ℕ → ℕ → ℤ) (xs : List ℤ) → HasReached start step w h cols rows 0 0 value xs xs
reached_none start step w h cols rows value xs = record {
  long = refl;
  on = λ u v i j k li lj. absurd (elim k.order [ inl a ↦ omega arith | inr e ↦ omega arith ]);
  off = λ k f. refl;
}

-- the blocks of one superblock more are reached
pub reached_more : (start step w h cols rows sx sy : ℕ) (value : ℕ → ℕ → ℕ → ℕ → ℤ) (xs ys zs : List ℤ) → w * cols ≤ step
    → HasReached start step w h cols rows sx sy value xs ys
    → HasFilteredBlocks start step w h (8 * sx) (min (8 * sx + 8) cols) (8 * sy) (8 * sx) (min (8 * sy + 8) rows) value ys zs
    → HasReached start step w h cols rows (sx + 1) sy value xs zs
reached_more start step w h cols rows sx sy value xs ys zs wide d b = record {
  long = b.long ∙ d.long;
  on = λ u v i j k li lj. elim (here_or_old u v k) [
    | inl e ↦ b.on u v i j e li lj
    | inr e ↦ b.off (spot start step (w * u + j) (h * v + i)) (λ u' v' r c k' lr lc same.
        let cu = k'.right in
        let one = same_place start step (w * u + j) (h * v + i) (w * u' + c) (h * v' + r) (column_fits w u cols step j k.column lj wide) (column_fits w u' cols step c (omega arith) lc wide) same in
        let eu : u ≡ u' = same_block w u j u' c lj lc one.0 in
        let ev : v ≡ v' = same_block h v i v' r li lr one.1 in
        let l = k'.left in
        let t = k'.top in
        elim e.order [ inl a ↦ omega arith | inr q ↦ omega arith ])
        ∙ d.on u v i j e li lj
  ];
  off = λ k f. b.off k (λ u v i j e li lj. f u v i j (from_part u v e) li lj) ∙ d.off k (λ u v i j e li lj. f u v i j (later u v e) li lj);
}
  where
    later : (u v : ℕ) → IsReached cols rows sx sy u v → IsReached cols rows (sx + 1) sy u v
    later u v e = record { column = e.column; row = e.row; order = elim e.order [ inl a ↦ inl a | inr (p, q) ↦ inr (p, omega arith) ] }

    from_part : (u v : ℕ) → IsBefore (8 * sx) (min (8 * sx + 8) cols) (8 * sy) (8 * sx) (min (8 * sy + 8) rows) u v → IsReached cols rows (sx + 1) sy u v
    from_part u v e =
        let l = e.left in
        let r = e.right in
        let b : v < min (8 * sy + 8) rows = elim e.order [ inl a ↦ a | inr q ↦ omega arith ] in
        record { column = omega arith; row = omega arith; order = inr (omega arith, omega arith) }

    here_or_old : (u v : ℕ) → IsReached cols rows (sx + 1) sy u v → IsBefore (8 * sx) (min (8 * sx + 8) cols) (8 * sy) (8 * sx) (min (8 * sy + 8) rows) u v ⊎ IsReached cols rows sx sy u v
    here_or_old u v k = elim (cases_lt v (8 * sy)) [
      | inl above ↦ inr (record { column = k.column; row = k.row; order = inl above })
      | inr m ↦
          let q : (v < 8 * sy + 8) × (u < 8 * (sx + 1)) = elim k.order [ inl a ↦ absurd (omega arith) | inr q ↦ q ] in
          elim (cases_lt u (8 * sx)) [
            | inl left ↦ inr (record { column = k.column; row = k.row; order = inr (q.0, left) })
            | inr n ↦ let col = k.column in let row = k.row in let a = q.0 in let b = q.1 in inl (record { left = n; right = omega arith; top = m; order = inl (omega arith) })
          ]
    ]

-- past the last column the next row begins
pub reached_row : (start step w h cols rows sx sy : ℕ) (value : ℕ → ℕ → ℕ → ℕ → ℤ) (xs ys : List ℤ) → cols ≤ 8 * sx
    → HasReached start step w h cols rows sx sy value xs ys → HasReached start step w h cols rows 0 (sy + 1) value xs ys
reached_row start step w h cols rows sx sy value xs ys wide d = record {
  long = d.long;
  on = λ u v i j k li lj. d.on u v i j (back u v k) li lj;
  off = λ k f. d.off k (λ u v i j e li lj. f u v i j (forth u v e) li lj);
}
  where
    back : (u v : ℕ) → IsReached cols rows 0 (sy + 1) u v → IsReached cols rows sx sy u v
    back u v k = record { column = k.column; row = k.row; order = let c = k.column in elim k.order [ inl a ↦ inr (omega arith, omega arith) | inr q ↦ absurd (omega arith) ] }

    forth : (u v : ℕ) → IsReached cols rows sx sy u v → IsReached cols rows 0 (sy + 1) u v
    forth u v k = record { column = k.column; row = k.row; order = elim k.order [ inl a ↦ inl (omega arith) | inr q ↦ inl (omega arith) ] }

-- past the last row all blocks are reached
reached_all : (start step w h cols rows sy : ℕ) (value : ℕ → ℕ → ℕ → ℕ → ℤ) (xs ys : List ℤ) → rows ≤ 8 * sy
    → HasReached start step w h cols rows 0 sy value xs ys → HasFilteredBlocks start step w h 0 cols 0 0 rows value xs ys
reached_all start step w h cols rows sy value xs ys high d = record {
  long = d.long;
  on = λ u v i j k li lj. d.on u v i j (record { column = k.right; row = below u v k; order = let b = below u v k in inl (omega arith) }) li lj;
  off = λ k f. d.off k (λ u v i j e li lj. f u v i j (record { left = omega arith; right = e.column; top = omega arith; order = inl e.row }) li lj);
}
  where
    below : (u v : ℕ) → IsBefore 0 cols 0 0 rows u v → v < rows
    below u v k = elim k.order [ inl a ↦ a | inr q ↦ absurd (omega arith) ]

-- The index of a part is that of its first block.

-- each block of a superblock has the index that stands in the superblock's first unit
part_index : (d : Deblocked) (sx sy u v : ℕ) → d.x % 8 ≡ 0 → d.y % 8 ≡ 0 → 8 * sx ≤ u → u < 8 * sx + 8 → 8 * sy ≤ v → v < 8 * sy + 8
    → index_of d (d.x + u) (d.y + v) ≡ (entry_at d.blocks d.step (16 * sx) (16 * sy)).cdef_index
part_index d sx sy u v ex ey lu ru lv rv =
    let a : 16 * ((d.x + u) / 8) - 2 * d.x ≡ 16 * sx = omega arith in
    let b : 16 * ((d.y + v) / 8) - 2 * d.y ≡ 16 * sy = omega arith in
    ap (λ m. (entry_at d.blocks d.step m (16 * ((d.y + v) / 8) - 2 * d.y)).cdef_index) a ∙ ap (λ m. (entry_at d.blocks d.step (16 * sx) m).cdef_index) b

-- a sample by the index of its block's 64x64 part is the tile's sample
tile_value : (d : Deblocked) (c : Channel) (index u v i j : ℕ) → index_of d (d.x + u) (d.y + v) ≡ index → view_cdef d c index u v i j ≡ tile_cdef d c u v i j
unfolding tile_cdef
tile_value d c index u v i j e = ap (λ n. view_cdef d c n u v i j) (sym e)

-- before the first superblock nothing is written
pub to_none : {X : Type 0} (number : X → ℤ) (d : Deblocked) (c : Channel) (a : PlaneRegionMut X) → IsFilteredTo number d 0 0 c a a
to_none number d c a = record {
  part = record { name = refl; layout = refl; start = refl; cfg = refl; rect = refl };
  blocks = λ some. reached_none _ _ _ _ _ _ _ _;
  none = λ e. refl;
}

-- a region with room for the view's blocks
pub record HasBlocksRoom {X : Type 0} (d : Deblocked) (c : Channel) (r : PlaneRegionMut X) : Type 0 where
  pub stored : IsStored r
  pub width : cdef_block_width c * (d.cols / 2) ≤ (area r).width

-- a tile keeps its room when its regions keep their places
pub holds_still : {X : Type 0} (f : Frame X) (b : TileBlocks) (s t : TileMut X) → IsSamePart s.planes.y t.planes.y → IsSamePart s.planes.u t.planes.u → IsSamePart s.planes.v t.planes.v
    → HoldsView f b s → HoldsView f b t
holds_still {X = X} f b s t y u v h = record {
  y = λ some. room_still f.planes.y.cfg s.planes.y t.planes.y y (h.y some);
  u = λ some. room_still f.planes.u.cfg s.planes.u t.planes.u u (h.u some);
  v = λ some. room_still f.planes.v.cfg s.planes.v t.planes.v v (h.v some);
}
  where
    room_still : (cfg : PlaneConfig) (r r' : PlaneRegionMut X) → IsSamePart r r' → HasViewRoom cfg b r → HasViewRoom cfg b r'
    room_still cfg r r' same room = record { stored = stored_still r r' room.stored same; width = rw same.rect room.width; height = rw same.rect room.height }

-- one superblock more of a plane is filtered
pub to_more : {X : Type 0} (number : X → ℤ) (d : Deblocked) (sx sy index : ℕ) (c : Channel) (r s t : PlaneRegionMut X) → d.x % 8 ≡ 0 → d.y % 8 ≡ 0
    → index ≡ (entry_at d.blocks d.step (16 * sx) (16 * sy)).cdef_index → (0 < c.picture.width → HasBlocksRoom d c r)
    → IsFilteredTo number d sx sy c r s → IsFilteredPlane number (superblock_part d index sx sy) c s t
    → IsFilteredTo number d (sx + 1) sy c r t
to_more number d sx sy index c r s t ex ey ei room h m = record {
  part = part_still _ _ _ h.part m.part;
  blocks = λ some.
      let has = room some in
      let wide = has.stored.wide in
      let to = has.width in
      reached_more _ _ _ _ _ _ _ _ _ _ _ _ (omega arith) (h.blocks some)
      (blocks_same (first_place r) (row_step r) (cdef_block_width c) (cdef_block_height c) (8 * sx) (min (8 * sx + 8) (d.cols / 2)) (8 * sy) (8 * sx) (min (8 * sy + 8) (d.rows / 2))
      (view_cdef d c index) (tile_cdef d c) (numbers_under number s) (numbers_under number t)
      (λ u v i j k li lj.
      let l = k.left in
      let e = k.right in
      let b = k.top in
      let below : v < min (8 * sy + 8) (d.rows / 2) = elim k.order [ inl q ↦ q | inr q ↦ absurd (omega arith) ] in
      tile_value d c index u v i j (part_index d sx sy u v ex ey l (omega arith) b (omega arith) ∙ sym ei))
      (rw (h.part.start, same_step r s h.part) at m.blocks some));
  none = λ e. m.none e ∙ h.none e;
}

-- a row of superblocks is done
pub to_row : {X : Type 0} (number : X → ℤ) (d : Deblocked) (sx sy : ℕ) (c : Channel) (a b : PlaneRegionMut X) → d.cols / 2 ≤ 8 * sx
    → IsFilteredTo number d sx sy c a b → IsFilteredTo number d 0 (sy + 1) c a b
to_row number d sx sy c a b l h = record { part = h.part; blocks = λ some. reached_row _ _ _ _ _ _ _ _ _ _ _ l (h.blocks some); none = h.none }

-- From blocks to samples.

-- a column of a side lies in one block, at one place of the block
place_of : (w x n : ℕ) → 0 < w → x < w * n → (x / w < n) × ((x - w * (x / w) < w) × (w * (x / w) + (x - w * (x / w)) ≡ x))
place_of w x n some l =
    let low : w * (x / w) ≤ x = mul-div-le x w in
    let high : x < x / w * w + w = lt-div-mul-add some in
    let same : x / w * w ≡ w * (x / w) = grind arith in (
      elim (cases_lt (x / w) n) [
        | inl h ↦ h
        | inr h ↦ let more : w * n ≤ w * (x / w) = mul-le-mul_left w h in absurd (omega arith)
      ],
      (omega arith, omega arith),
    )

-- a block's side is positive where the tile has a sample
some_of : (w n x : ℕ) → x < w * n → 0 < w
some_of w n x l = elim (cases_lt 0 w) [
  | inl h ↦ h
  | inr h ↦ let e : w ≡ 0 = omega arith in let z : w * n ≡ 0 = rw e (omega arith) in absurd (omega arith)
]

-- samples that are right block by block are right in the whole tile
tile_of_blocks : (start step w h cols rows : ℕ) (value : ℕ → ℕ → ℕ → ℕ → ℤ) (other : ℕ → ℕ → ℤ) (xs ys : List ℤ)
    → ((x y : ℕ) → 0 < w → 0 < h → value (x / w) (y / h) (y - h * (y / h)) (x - w * (x / w)) ≡ other x y)
    → HasFilteredBlocks start step w h 0 cols 0 0 rows value xs ys → HasTile start step (w * cols) (h * rows) other xs ys
tile_of_blocks start step w h cols rows value other xs ys same b = record {
  long = b.long;
  on = λ x y lx ly.
      let sw = some_of w cols x lx in
      let sh = some_of h rows y ly in
      let px = place_of w x cols sw lx in
      let py = place_of h y rows sh ly in
      ap (λ m. get_or ys (spot start step m y) (pos 0)) (sym px.1.1)
      ∙ ap (λ m. get_or ys (spot start step (w * (x / w) + (x - w * (x / w))) m) (pos 0)) (sym py.1.1)
      ∙ b.on (x / w) (y / h) (y - h * (y / h)) (x - w * (x / w)) (record { left = omega arith; right = px.0; top = omega arith; order = inl py.0 }) py.1.0 px.1.0
      ∙ same x y sw sh;
  off = λ k f. b.off k (λ u v i j e li lj. f (w * u + j) (h * v + i) (column_fits w u cols (w * cols) j e.right lj (omega arith)) (column_fits h v rows (h * rows) i (below u v e) li (omega arith)));
}
  where
    below : (u v : ℕ) → IsBefore 0 cols 0 0 rows u v → v < rows
    below u v k = elim k.order [ inl a ↦ a | inr q ↦ absurd (omega arith) ]

-- a column counted from the frame's first block lies in the block and at the place counted there
from_frame : (w t x : ℕ) → 0 < w → ((w * t + x) / w ≡ t + x / w) × (w * t + x ≡ w * (t + x / w) + (x - w * (x / w)))
from_frame w t x some =
    let e : (w * t + x) / w ≡ t + x / w = mul-add-div some t x in
    let split : w * (t + x / w) ≡ w * t + w * (x / w) = grind arith in
    let low : w * (x / w) ≤ x = mul-div-le x w in
    (e, omega arith)

-- a sample by blocks is that of the definition
sample_is : (d : Deblocked) (c : Channel) (x y : ℕ) → 0 < cdef_block_width c → 0 < cdef_block_height c
    → tile_cdef d c (x / cdef_block_width c) (y / cdef_block_height c) (y - cdef_block_height c * (y / cdef_block_height c)) (x - cdef_block_width c * (x / cdef_block_width c)) ≡ sample_cdef d c x y
unfolding tile_cdef view_cdef sample_cdef cdef
sample_is d c x y sw sh =
    let ex = from_frame (cdef_block_width c) d.x x sw in
    let ey = from_frame (cdef_block_height c) d.y y sh in
    sym (same _ _ _ _ _ _ _ _ ex.0 ey.0 ex.1 ey.1)
  where
    same : (a a' b b' i i' j j' : ℕ) → a ≡ a' → b ≡ b' → i ≡ i' → j ≡ j' → block_cdef d c (index_of d a b) a b i j ≡ block_cdef d c (index_of d a' b') a' b' i' j'
    same a a' b b' i i' j j' ea eb ei ej =
        ap (λ z. block_cdef d c (index_of d z b) z b i j) ea
        ∙ ap (λ z. block_cdef d c (index_of d a' z) a' z i j) eb
        ∙ ap (λ z. block_cdef d c (index_of d a' b') a' b' z j) ei
        ∙ ap (λ z. block_cdef d c (index_of d a' b') a' b' i' z) ej

-- all rows of superblocks are done
pub to_all : {X : Type 0} (number : X → ℤ) (d : Deblocked) (sy : ℕ) (c : Channel) (a b : PlaneRegionMut X) → d.rows / 2 ≤ 8 * sy
    → IsFilteredTo number d 0 sy c a b → IsFilteredTilePlane number d c a b
to_all number d sy c a b l h = record {
  part = h.part;
  samples = λ some. tile_of_blocks (first_place a) (row_step a) (cdef_block_width c) (cdef_block_height c) (d.cols / 2) (d.rows / 2)
      (tile_cdef d c) (sample_cdef d c) (numbers_under number a) (numbers_under number b)
      (sample_is d c) (reached_all _ _ _ _ _ _ _ _ _ _ l (h.blocks some));
  none = h.none;
}
