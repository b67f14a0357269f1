-- Each tile of a grid begins at a superblock of its own, so the result that is found for it is its own.
use Rattle.std.proofs.Common.{◌≡◌, ℕ, zero, suc, ◌+◌, ◌*◌, ◌/◌, ◌%◌, ◌<◌, List, [], ◌∷◌, length, get_or, Bool, true, false, ltb, eqb, Some, refl, sym, ap, ◌∙◌, subst, arith}
use Rattle.std.specs.Prelude.{◌&&◌}
use Rattle.std.proofs.Math.Nat.{mul-div_cancel}
use Rattle.std.proofs.lemmas.Bool.{and_parts, and_from, lt-ltb, eq-eqb, eqb-true}
use Rattle.std.proofs.lemmas.Nat.{div-add-mod'}
use Rattle.av1_tiling.specs.declared.tiling_info.TilingInfo.{TilingInfo}
use Rattle.av1_tiling.specs.TileRects.{tile_superblock}
use Rattle.av1_rec.specs.BlockTable.{first_values}
use Rattle.av1_rec.specs.Recorded.{begins_at, recorded_entry}
use Rattle.av1_rec.specs.Tiles.{IsTileNumber}
use Rattle.av1_rec.proofs.FirstValues.{first_count, first_at}
use Rattle.av1_rec.proofs.RecordedEntries.{entry_here, entry_later}

-- products with the same positive factor are of the same number
same_factor : (a b w : ℕ) → 0 < w → a * w ≡ b * w → a ≡ b
same_factor a b w some e = sym (mul-div_cancel a some) ∙ (ap (λ (m : ℕ). m / w) e ∙ mul-div_cancel b some)

-- numbers with the same quotient and the same remainder are the same
same_number : (m n c : ℕ) → m / c ≡ n / c → m % c ≡ n % c → m ≡ n
same_number m n c q r = sym (div-add-mod' m c) ∙ ((λ i. q i * c + r i) ∙ div-add-mod' n c)

module _ (t : TilingInfo) (n : ℕ) (tile : IsTileNumber t n) where
  -- a tile begins at its own first superblock
  begins_itself : n < t.cols * t.rows → begins_at t (tile_superblock t n) n ≡ true
  begins_itself l =
      and_from (ltb n (t.cols * t.rows)) (eqb (tile_superblock t n).0 (tile_superblock t n).0 && eqb (tile_superblock t n).1 (tile_superblock t n).1) (lt-ltb n (t.cols * t.rows) l)
      (and_from (eqb (tile_superblock t n).0 (tile_superblock t n).0) (eqb (tile_superblock t n).1 (tile_superblock t n).1) (eq-eqb (tile_superblock t n).0 (tile_superblock t n).0 refl) (eq-eqb (tile_superblock t n).1 (tile_superblock t n).1 refl))

  -- no other tile begins at a tile's first superblock
  begins_alone : (j : ℕ) → begins_at t (tile_superblock t n) j ≡ true → j ≡ n
  begins_alone j e =
      let places = and_parts (ltb j (t.cols * t.rows)) (eqb (tile_superblock t j).0 (tile_superblock t n).0 && eqb (tile_superblock t j).1 (tile_superblock t n).1) e in
      let each = and_parts (eqb (tile_superblock t j).0 (tile_superblock t n).0) (eqb (tile_superblock t j).1 (tile_superblock t n).1) places.1 in
      let column = same_factor (j % t.cols) (n % t.cols) t.tile_width_sb tile.tile_wide (eqb-true (tile_superblock t j).0 (tile_superblock t n).0 each.0) in
      let row = same_factor (j / t.cols) (n / t.cols) t.tile_height_sb tile.tile_high (eqb-true (tile_superblock t j).1 (tile_superblock t n).1 each.1) in
      same_number j n t.cols row column

  -- the entry that is found among the results from tile k on is that of the tile
  entry_from : {E : Type 0} (es : List E) (k i : ℕ) (d : E) → begins_at t (tile_superblock t n) n ≡ true → n ≡ k + i → i < length es
      → recorded_entry t (tile_superblock t n) k es ≡ Some (get_or es i d)
  entry_from [] k i d here at l = absurd (omega (arith, l))
  entry_from (x ∷ es) k zero d here at l =
      let first : n ≡ k = omega (arith, at) in
      entry_here t (tile_superblock t n) k x es (subst (λ (m : ℕ). begins_at t (tile_superblock t n) m ≡ true) first here)
  entry_from (x ∷ es) k (suc i) d here at l = later (begins_at t (tile_superblock t n) k) refl (entry_from es (k + 1) i d here (omega (arith, at)) (omega (arith, l)))
    where
      later : (b : Bool) → begins_at t (tile_superblock t n) k ≡ b → recorded_entry t (tile_superblock t n) (k + 1) es ≡ Some (get_or es i d) → recorded_entry t (tile_superblock t n) k (x ∷ es) ≡ Some (get_or es i d)
      later true e rest = absurd (omega (arith, begins_alone k e, at))
      later false e rest = entry_later t (tile_superblock t n) k x es e ∙ rest

  -- the entry that is found for a tile among the values of a function of all tiles is its own
  pub own_entry : {E : Type 0} (f : ℕ → E) → n < t.cols * t.rows → recorded_entry t (tile_superblock t n) 0 (first_values f (t.cols * t.rows)) ≡ Some (f n)
  own_entry f l =
      let count = first_count f (t.cols * t.rows) in
      entry_from (first_values f (t.cols * t.rows)) 0 n (f n) (begins_itself l) (omega arith) (omega (arith, count, l))
      ∙ ap Some (first_at f (t.cols * t.rows) n (f n) l)
