-- The samples, blocks and restoration units of a generated result are such as a bitstream describes.
use Rattle.std.proofs.Common.{ℕ, zero, suc, ℤ, ◌+◌, ◌*◌, ◌/◌, ◌%◌, ◌^◌, ◌<◌, ◌≤◌, List, [], ◌∷◌, ◌++◌, length, take, drop, All, Bool, true, false, refl, sym, subst, arith, lit<, lit≤}
use Rattle.std.specs.Prelude.{IsTrue, ◌==◌, ◌||◌, if◌then◌else◌}
use Rattle.std.proofs.lemmas.List.Elements.{All-append, All-take, All-drop, All-nil, All-head, All-tail}
use Rattle.std.proofs.lemmas.Nat.{mod_below}
use Rattle.av1_plane.specs.declared.three.Three.{Three}
use Rattle.av1_plane.specs.declared.sampling.ChromaSampling.{ChromaSampling}
use Rattle.av1_plane.specs.declared.tile_rect.TileRect.{TileRect}
use Rattle.av1_plane.specs.Numbers.{InDepth}
use Rattle.av1_plane.specs.Sampling.{decimation}
use Rattle.av1_block.specs.Block.{default_block}
use Rattle.av1_block.specs.Cut.{cut_of, overwritten, with_cut}
use Rattle.av1_block.specs.Rows.{refilled}
use Rattle.av1_block.specs.Rule.{IsBlock}
use Rattle.av1_block.specs.declared.ref_type.RefType.TheVariants.{INTRA_FRAME}
use Rattle.av1_block.specs.declared.restoration_unit.RestorationUnit.{RestorationUnit}
use Rattle.av1_block.proofs.Rules.{not_none}
use Rattle.av1_tiling.specs.Restoration.{IsUnit, AreCoeffs, ArePassWeights}
use Rattle.av1_tiling.specs.declared.restoration_plane.RestorationPlaneConfig.{RestorationPlaneConfig}
use Rattle.av1_tiling.specs.declared.tiling_info.TilingInfo.{TilingInfo}
use Rattle.av1_tiling.specs.TileRects.{tile_units}
use Rattle.av1_rec.specs.Generated.{byte_count, coded_bytes, coded_row, coded_rows, chroma_rect, coded_planes, generated_block, generated_blocks, middle_taps, middle_weights, generated_unit, generated_units}
use Rattle.av1_rec.specs.Picture.{AreBelow, IsPictureBelow, picture_sample}
use Rattle.av1_rec.specs.Recorded.{joined}
use Rattle.av1_rec.proofs.FirstValues.{first_count}
use Rattle.av1_rec.proofs.GeneratedRows.{values_all}
use Rattle.av1_rec.proofs.PictureRange.{sample_below}

module _ {E : Type 0} (P : E → Type 0) where
  -- what holds of a list and of what is written over its front holds of the result
  pub all_refilled : (old new : List E) → All P old → All P new → All P (refilled old new)
  all_refilled old new a b = All-take P (length old) (new ++ drop (length new) old) (All-append P new (drop (length new) old) b (All-drop P (length new) old a))

  -- what holds of a list and of a run written over it holds of the result
  all_overwritten : (xs : List E) (i : ℕ) (run : List E) → All P xs → All P run → All P (overwritten xs i run)
  all_overwritten xs i run a b =
      All-append P (take i xs) (run ++ drop (length run) (drop i xs)) (All-take P i xs a)
      (All-append P run (drop (length run) (drop i xs)) b (All-drop P (length run) (drop i xs) (All-drop P i xs a)))

  -- what holds of a table and of what is written into a rectangle of it holds of the result
  pub all_with_cut : (table : List E) (cols x y width height : ℕ) (entries : List E) → All P table → All P entries → All P (with_cut table cols x y width height entries)
  unfolding with_cut
  all_with_cut table cols x y width zero entries a b = a
  all_with_cut table cols x y width (suc height) entries a b =
      all_overwritten (with_cut table cols x y width height entries) ((y + height) * cols + x) (take width (drop (height * width) entries)) (all_with_cut table cols x y width height entries a b)
      (All-take P width (drop (height * width) entries) (All-drop P (height * width) entries b))

  -- what holds of a table holds of a rectangle of it
  pub all_cut_of : (table : List E) (cols x y width height : ℕ) → All P table → All P (cut_of table cols x y width height)
  unfolding cut_of
  all_cut_of table cols x y width zero a = All-nil P
  all_cut_of table cols x y width (suc height) a =
      All-append P (cut_of table cols x y width height) (take width (drop ((y + height) * cols + x) table)) (all_cut_of table cols x y width height a)
      (All-take P width (drop ((y + height) * cols + x) table) (All-drop P ((y + height) * cols + x) table a))

  -- what holds of each row holds of the rows one behind another
  pub all_joined : (rows : List (List E)) → All (All P) rows → All P (joined rows)
  all_joined [] a = All-nil P
  all_joined (r ∷ rs) a = All-append P r (joined rs) (All-head (All P) r rs a) (all_joined rs (All-tail (All P) r rs a))

-- coded samples of a picture below a bound are below the bound
pub coded_below : (bound : ℕ) → 0 < bound → (rows : List (List ℤ)) (rect : TileRect) → AreBelow bound rows → AreBelow bound (coded_rows rows rect)
unfolding coded_rows coded_row
coded_below bound some rows rect below =
    values_all (All (InDepth bound)) (λ row. coded_row rows rect row) (λ row. values_all (InDepth bound) (λ column. picture_sample rows ((rect.x + column) / 8 * 8) ((rect.y + row) / 8 * 8)) (λ column. sample_below bound some rows below _ _) rect.width) rect.height

-- coded planes of a picture below a bound are below the bound
pub planes_below : (bound : ℕ) → 0 < bound → (sampling : ChromaSampling) (luma : TileRect) (s : Three (List (List ℤ))) → IsPictureBelow bound s → IsPictureBelow bound (coded_planes sampling luma s)
unfolding coded_planes
planes_below bound some sampling luma s below =
    let chroma = chroma_rect (decimation sampling) luma in
    record { y = coded_below bound some s.y luma below.y; u = coded_below bound some s.u chroma below.u; v = coded_below bound some s.v chroma below.v }

-- a test that is passed either way holds
either_true : (b : Bool) → IsTrue (b || true)
either_true true = refl
either_true false = refl

-- a block of 8 by 8 samples has a chroma size under all decimations
pub generated_is_block : (xdec ydec column row : ℕ) → IsBlock xdec ydec (generated_block column row)
generated_is_block xdec ydec column row =
    let index : (column / 16 + row / 16) % 8 < 8 = mod_below (column / 16 + row / 16) 8 (omega arith) in
    record { wide = lit≤ tt; high = lit≤ tt; cdef = omega (arith, index); reference = not_none INTRA_FRAME (lit< tt); chroma = either_true (xdec == ydec) }

-- the blocks of a rectangle have what the filters ask of them
pub generated_are_blocks : (xdec ydec : ℕ) (rect : TileRect) → All (IsBlock xdec ydec) (generated_blocks rect)
unfolding generated_blocks
generated_are_blocks xdec ydec rect = values_all (IsBlock xdec ydec) (λ k. generated_block (rect.x + k % rect.width) (rect.y + k / rect.width)) (λ k. generated_is_block xdec ydec (rect.x + k % rect.width) (rect.y + k / rect.width)) (rect.width * rect.height)

-- a default block has what the filters ask of it
pub default_is_block : (xdec ydec : ℕ) → IsBlock xdec ydec default_block
default_is_block xdec ydec = record { wide = lit≤ tt; high = lit≤ tt; cdef = lit≤ tt; reference = not_none INTRA_FRAME (lit< tt); chroma = either_true (xdec == ydec) }

-- the middle coefficients are in their ranges
taps_right : AreCoeffs middle_taps
taps_right = record { a_low = grind arith; a_high = grind arith; b_low = grind arith; b_high = grind arith; c_low = grind arith; c_high = grind arith }

-- the middle weights are in their ranges
weights_right : ArePassWeights middle_weights
weights_right = record { first_low = grind arith; first_high = grind arith; second_low = grind arith; second_high = grind arith }

-- what holds of each of three units holds of the one that is chosen
one_of_three : (first second : Bool) (a b c : RestorationUnit) → IsUnit a → IsUnit b → IsUnit c → IsUnit (if first then a else (if second then b else c))
one_of_three true second a b c x y z = x
one_of_three false true a b c x y z = y
one_of_three false false a b c x y z = z

-- a bitstream can describe each generated unit
generated_is_unit : (column row : ℕ) → IsUnit (generated_unit column row)
generated_is_unit column row =
    let set : column % 16 < 16 = mod_below column 16 (omega arith) in
    one_of_three ((column + row) % 3 == 0) ((column + row) % 3 == 1) _ _ _ tt (taps_right, taps_right) (set, weights_right)

-- a bitstream can describe the generated units of a tile
pub generated_are_units : (t : TilingInfo) (cfg : RestorationPlaneConfig) (n : ℕ) → All IsUnit (generated_units t cfg n)
unfolding generated_units
generated_are_units t cfg n =
    let rect = tile_units t cfg.sb_h_shift cfg.sb_v_shift cfg.cols cfg.rows n in
    values_all IsUnit (λ k. generated_unit (rect.x + k % rect.width) (rect.y + k / rect.width)) (λ k. generated_is_unit (rect.x + k % rect.width) (rect.y + k / rect.width)) (rect.width * rect.height)

-- a choice among three numbers of bytes is from 900 to 1100
between : (first second : Bool) → (1 ≤ (if first then 1000 else (if second then 1100 else 900))) × ((if first then 1000 else (if second then 1100 else 900)) < 2 ^ 32)
between true second = (lit≤ tt, lit< tt)
between false true = (lit≤ tt, lit< tt)
between false false = (lit≤ tt, lit< tt)

-- each tile has some bytes, and few
pub bytes_right : (n : ℕ) → (1 ≤ length (coded_bytes n)) × (length (coded_bytes n) < 2 ^ 32)
unfolding coded_bytes
bytes_right n = subst (λ (m : ℕ). (1 ≤ m) × (m < 2 ^ 32)) (sym (first_count (λ i. (n + i) % 256) (byte_count n))) (between (n == 1) (n == 2))
