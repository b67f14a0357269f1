-- The frame that is made from a number is a right text: its source has the picture's sides and 8 bits.
use Rattle.std.proofs.Common.{◌≡◌, ℕ, ℤ, pos, ◌+◌, ◌*◌, ◌/◌, ◌%◌, ◌^◌, ◌<◌, List, length, get_or, ◌==◌, true, All, Ok, refl, sym, subst, ap, ◌∙◌, arith}
use Rattle.std.specs.List.{list_all}
use Rattle.std.proofs.lemmas.List.Sums.{list_all-from_AllPass}
use Rattle.std.proofs.lemmas.Nat.{mod_below}
use Rattle.std.proofs.lemmas.Bool.{eq-eqb}
use Rattle.av1_plane.specs.declared.three.Three.{Three}
use Rattle.av1_plane.specs.Numbers.{InDepth}
use Rattle.av1_rec.specs.declared.text.extent.Extent.{Extent}
use Rattle.av1_rec.specs.declared.text.header.FrameFormat.{FrameFormat}
use Rattle.av1_rec.specs.BlockTable.{first_values}
use Rattle.av1_rec.specs.Generated.{state_after, source_sample, source_row, source_plane, source, byte_count, coded_bytes}
use Rattle.av1_rec.specs.Header.{IsHeader}
use Rattle.av1_rec.specs.Picture.{AreRowsOf, HasPictureRows, AreBelow, IsPictureBelow}
use Rattle.av1_rec.specs.Read.{IsRead}
use Rattle.av1_rec.specs.Text.{Said, tiling}
use Rattle.av1_rec.proofs.FirstValues.{first_count, first_at}

-- what holds of each value of a function holds of the list of its first values
pub values_all : {A : Type 0} (P : A → Type 0) (f : ℕ → A) → ((k : ℕ) → P (f k)) → (n : ℕ) → All P (first_values f n)
values_all P f each n k d l =
    let inside : k < n = let count = first_count f n in omega (arith, count, l) in
    subst P (sym (first_at f n k d inside)) (each k)

-- a sample of a generated source is a byte
sample_small : (p row column state : ℕ) → InDepth 256 (pos (source_sample p row column state))
sample_small p row column state =
    let slope : (column / 8 + row / 8 + 64 * p) % 192 < 192 = mod_below (column / 8 + row / 8 + 64 * p) 192 (omega arith) in
    let noise : state / 2 ^ 24 % 4 < 4 = mod_below (state / 2 ^ 24) 4 (omega arith) in
    (grind arith, grind (arith, slope, noise))

-- The samples of a generated row are bytes.
row_small : (p row width state : ℕ) → All (InDepth 256) (source_row p row width state)
unfolding source_row
row_small p row width state =
    values_all (InDepth 256) (λ column. pos (source_sample p row column (state_after state (column + 1)))) (λ column. sample_small p row column (state_after state (column + 1))) width

-- A generated row has the asked width.
row_long : (p row width state : ℕ) → length (source_row p row width state) ≡ width
unfolding source_row
row_long p row width state = first_count (λ column. pos (source_sample p row column (state_after state (column + 1)))) width

-- The samples of a generated plane are bytes.
plane_small : (p state : ℕ) (sides : Extent) → AreBelow 256 (source_plane p state sides)
unfolding source_plane
plane_small p state sides =
    values_all (All (InDepth 256)) (λ row. source_row p row sides.width (state_after state (row * sides.width))) (λ row. row_small p row sides.width (state_after state (row * sides.width))) sides.height

-- A generated plane has the asked sides.
plane_sides : (p state : ℕ) (sides : Extent) → AreRowsOf sides (source_plane p state sides)
unfolding source_plane
plane_sides p state sides =
    let rows = first_values (λ row. source_row p row sides.width (state_after state (row * sides.width))) sides.height in
    let count : length rows ≡ sides.height = first_count (λ row. source_row p row sides.width (state_after state (row * sides.width))) sides.height in
    let each = values_all (λ (r : List ℤ). length r ≡ sides.width) (λ row. source_row p row sides.width (state_after state (row * sides.width))) (λ row. row_long p row sides.width (state_after state (row * sides.width))) sides.height in
    let long : list_all (λ row. length row == sides.width) rows ≡ true = list_all-from_AllPass (λ row. length row == sides.width) rows (λ k d l. eq-eqb (length (get_or rows k d)) sides.width (each k d l)) in
    rw (count, eq-eqb sides.height sides.height refl) long

-- A generated source has the sides of the picture, and its samples are bytes.
source_right : (f : FrameFormat) (seed : ℕ) → HasPictureRows f (source f seed) × IsPictureBelow 256 (source f seed)
unfolding source
source_right f seed = (
  record { y = plane_sides 0 _ _; u = plane_sides 1 _ _; v = plane_sides 2 _ _ },
  record { y = plane_small 0 _ _; u = plane_small 1 _ _; v = plane_small 2 _ _ },
)

-- what a text with a generated source says is what a text that is read to its end says
pub generated_read : (s : Said) (seed : ℕ) → IsHeader s.header → tiling s.header ≡ Ok s.tiling → s.header.format.depth ≡ 8 → s.source ≡ source s.header.format seed → IsRead s
generated_read s seed right tiled depth made =
    let known = source_right s.header.format seed in
    record {
      header = right;
      tiling = tiled;
      sides = subst (λ (p : Three (List (List ℤ))). HasPictureRows s.header.format p) (sym made) known.0;
      depth = subst (λ (d : ℕ). IsPictureBelow (2 ^ d) s.source) (sym depth) (subst (λ (p : Three (List (List ℤ))). IsPictureBelow 256 p) (sym made) known.1);
    }

-- as many bytes as a tile has are all of its bytes
pub all_bytes : (n i : ℕ) (items : List ℕ) → items ≡ first_values (λ k. (n + k) % 256) i → i ≡ byte_count n → items ≡ coded_bytes n
unfolding coded_bytes
all_bytes n i items made all = made ∙ ap (first_values (λ k. (n + k) % 256)) all
