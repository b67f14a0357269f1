-- A part of a plane, copied out of it, is what the view says.
use Rattle.std.proofs.Common.{◌≡◌, ℕ, zero, suc, ℤ, ◌+◌, ◌*◌, ◌<◌, ◌≤◌, ◌++◌, false, inl, inr, List, [], ◌∷◌, map, length, take, drop, refl, sym, ap, ◌∙◌, arith, append-nil, length-drop}
use Rattle.std.specs.List.{flat_map}
use Rattle.std.specs.Prelude.{◌==◌}
use Rattle.std.proofs.Math.Nat.{mul-le-mul_right, mul_comm}
use Rattle.std.proofs.lemmas.Bool.{cases_lt, ne_eqb}
use Rattle.std.proofs.lemmas.Grind.{flat_map-append}
use Rattle.std.proofs.lemmas.List.{nil_from_length, take-append-drop, drop-drop}
use Rattle.av1_plane.specs.declared.plane.Plane.{Plane}
use Rattle.av1_plane.specs.declared.plane.PlaneConfig.{PlaneConfig}
use Rattle.av1_plane.specs.declared.region.PlaneRegion.{PlaneRegion}
use Rattle.av1_plane.specs.declared.region.Rect.{Rect}
use Rattle.av1_plane.specs.declared.tile_rect.TileRect.{TileRect}
use Rattle.av1_plane.specs.Area.{decimated_tile}
use Rattle.av1_plane.specs.Place.{no_area}
use Rattle.av1_plane.specs.Layout.{rows}
use Rattle.av1_plane.specs.Planes.{IsCopyOf}
use Rattle.av1_plane.specs.Reading.{Seen, seen_as, rows_of}
use Rattle.av1_plane.specs.Regions.{ShowsRect}
use Rattle.av1_plane.specs.Tiles.{plane_rect}
use Rattle.av1_plane.proofs.Rows.{rows_none, rows_more}
use Rattle.av1_block.specs.Cut.{LiesIn, cut_of}
use Rattle.av1_block.proofs.Cuts.{cut_of-add_one, with_cut-zero, with_cut-add_one, row_inside, map_cut_of}
use Rattle.av1_tiling.specs.Views.{view_plane, view_samples}
use Rattle.av1_tiling.specs.Frames.{PartFits, stored_rect, shifted_rect, no_rect, plane_part}

-- a part that fits lies in the stored samples
pub part_lies : (n : ℕ) (cfg : PlaneConfig) (luma : TileRect) → PartFits cfg luma → n ≡ cfg.stride * cfg.alloc_height
    → LiesIn n cfg.stride (stored_rect cfg luma).x (stored_rect cfg luma).y (stored_rect cfg luma).width (stored_rect cfg luma).height
part_lies n cfg luma fits e =
    let r = stored_rect cfg luma in
    let down : (r.y + r.height) * cfg.stride ≤ cfg.alloc_height * cfg.stride = mul-le-mul_right cfg.stride fits.rows in
    record { across = fits.columns; down = omega arith }

-- a row of a part ends in the part
pub own_row : (n width height row : ℕ) → n ≡ width * height → row < height → row * width + width ≤ n
own_row n width height row long below =
    let all : (row + 1) * width ≤ height * width = mul-le-mul_right width (omega (arith, below)) in
    omega arith

pub ruleset cuts = (with_cut-zero, with_cut-add_one, row_inside, own_row)

-- rows that lie one after another are the whole list
joined_rows : {X : Type 0} (width n : ℕ) (xs : List X) → length xs ≡ n * width → flat_map (λ r. r) (rows width width n xs) ≡ xs
unfolding rows
joined_rows width zero xs long = sym (nil_from_length xs (omega arith))
joined_rows width (suc n) xs long =
    let rest : length (drop width xs) ≡ n * width = simp length-drop (omega arith) in
    ap (λ t. take width xs ++ t) (joined_rows width n (drop width xs) rest) ∙ take-append-drop width xs

-- the rows of a rectangle of a table, one after another, are what is cut out
joined_cut : {X : Type 0} (table : List X) (cols x y width n : ℕ) → flat_map (λ r. r) (rows cols width n (drop (y * cols + x) table)) ≡ cut_of table cols x y width n
unfolding rows cut_of
joined_cut table cols x y width zero = refl
joined_cut table cols x y width (suc n) =
    let more : suc n ≡ n + 1 = omega arith in
    let from = drop (y * cols + x) table in
    let row : drop (n * cols) from ≡ drop ((y + n) * cols + x) table = drop-drop (n * cols) (y * cols + x) table ∙ ap (λ m. drop m table) (let e : y * cols + x + n * cols ≡ (y + n) * cols + x = omega arith in e) in
    ap (λ m. flat_map (λ r. r) (rows cols width m from)) more
    ∙ (ap (flat_map (λ r. r)) (rows_more cols width n from)
    ∙ (flat_map-append (λ r. r) (rows cols width n from) (take width (drop (n * cols) from) ∷ [])
    ∙ (λ i. joined_cut table cols x y width n i ++ (append-nil (take width (row i))) i)))

-- a list that has the rows of a rectangle of a table is what is cut out
copied : {X : Type 0} (table xs : List X) (cols x y width height : ℕ) → length xs ≡ height * width → rows width width height xs ≡ rows cols width height (drop (y * cols + x) table) → xs ≡ cut_of table cols x y width height
copied table xs cols x y width height long same =
    sym (joined_rows width height xs long) ∙ (ap (flat_map (λ r. r)) same ∙ joined_cut table cols x y width height)

-- a plane with both sides isn't empty
has_area : (cfg : PlaneConfig) (luma : TileRect) → 0 < cfg.width → 0 < cfg.height → stored_rect cfg luma ≡ shifted_rect cfg.xorigin cfg.yorigin (decimated_tile luma cfg.xdec cfg.ydec)
has_area cfg luma wide high =
    let no_width : (cfg.width == 0) ≡ false = ne_eqb cfg.width 0 (λ e. absurd (omega arith)) in
    let no_height : (cfg.height == 0) ≡ false = ne_eqb cfg.height 0 (λ e. absurd (omega arith)) in
    rw (no_width, no_height) refl

-- a region shows a rectangle of a plane's stored samples
record ShowsStoredRect {X : Type 0} (plane : Plane X) (rect : TileRect) (s : Seen X) : Type 0 where
  width : s.area.width ≡ rect.width
  height : s.area.height ≡ rect.height
  rows : rows_of s ≡ rows plane.cfg.stride rect.width rect.height (drop (rect.y * plane.cfg.stride + rect.x) plane.samples.items)

-- the region of a luma rectangle's samples in a plane
module _ {X : Type 0} (plane : Plane X) (luma : TileRect) (region : PlaneRegion X) (shows : ShowsRect plane.cfg plane.samples.items (plane_rect plane.cfg luma) region) where
  -- a region without samples shows the rectangle without samples
  shows_none : stored_rect plane.cfg luma ≡ no_rect → (seen_as region).area ≡ no_area → ShowsStoredRect plane (stored_rect plane.cfg luma) (seen_as region)
  shows_none none empty = record {
    width = ap (λ (a : Rect). a.width) empty ∙ sym (ap (λ (r : TileRect). r.width) none);
    height = ap (λ (a : Rect). a.height) empty ∙ sym (ap (λ (r : TileRect). r.height) none);
    rows = rows_none _ _ _ _ (ap (λ (a : Rect). a.height) empty) ∙ sym (rows_none _ _ _ _ (ap (λ (r : TileRect). r.height) none));
  }

  -- a region with samples shows the rectangle at its place in the stored rows
  shows_some : 0 < plane.cfg.width → 0 < plane.cfg.height → ShowsStoredRect plane (stored_rect plane.cfg luma) (seen_as region)
  shows_some wide high =
      let cfg = plane.cfg in
      let stored = has_area cfg luma wide high in
      let area = shows.area wide high in
      record {
        width = ap (λ (a : Rect). a.width) area ∙ sym (ap (λ (r : TileRect). r.width) stored);
        height = ap (λ (a : Rect). a.height) area ∙ sym (ap (λ (r : TileRect). r.height) stored);
        rows = (λ i. rows (shows.step i) (area i).width (area i).height (shows.samples wide high i)) ∙ (λ i. rows cfg.stride (sym stored i).width (sym stored i).height (drop ((sym stored i).y * cfg.stride + (sym stored i).x) plane.samples.items));
      }

  -- the region shows what the plane stores of the rectangle
  shows_stored : ShowsStoredRect plane (stored_rect plane.cfg luma) (seen_as region)
  shows_stored = elim (cases_lt 0 plane.cfg.width) [
    | inl wide ↦ elim (cases_lt 0 plane.cfg.height) [
      | inl high ↦ shows_some wide high
      | inr low ↦
          let none : plane.cfg.height ≡ 0 = omega arith in
          let no_width : (plane.cfg.width == 0) ≡ false = ne_eqb plane.cfg.width 0 (λ e. absurd (omega arith)) in
          shows_none (rw (no_width, none) refl) (shows.no_height none)
    ]
    | inr narrow ↦ let none : plane.cfg.width ≡ 0 = omega arith in shows_none (rw none refl) (shows.no_width none)
  ]

  -- A copy of the region's samples, at their place in the plane, is the plane's part.
  pub part_copied : (number : X → ℤ) (rect : TileRect) (copy : Plane X) → rect ≡ stored_rect plane.cfg luma → IsCopyOf (seen_as region) copy
      → view_samples number (record { plane = copy; x = rect.x; y = rect.y; stride = plane.cfg.stride }) ≡ plane_part (view_plane number plane) luma
  part_copied number rect copy place is =
      let r = stored_rect plane.cfg luma in
      let table = plane.samples.items in
      let seen = shows_stored in
      let cols : copy.cfg.stride ≡ r.width = ap (λ (c : PlaneConfig). c.stride) is.cfg ∙ (let e : region.rect.width + 2 * 0 ≡ r.width = omega (arith, seen.width) in e) in
      let rows_long : copy.cfg.alloc_height ≡ r.height = ap (λ (c : PlaneConfig). c.alloc_height) is.cfg ∙ (let e : region.rect.height + 2 * 0 ≡ r.height = omega (arith, seen.height) in e) in
      let width : copy.cfg.width ≡ r.width = ap (λ (c : PlaneConfig). c.width) is.cfg ∙ seen.width in
      let height : copy.cfg.height ≡ r.height = ap (λ (c : PlaneConfig). c.height) is.cfg ∙ seen.height in
      let long : length copy.samples.items ≡ r.height * r.width = copy.stored ∙ ((λ i. cols i * rows_long i) ∙ mul_comm r.width r.height) in
      let same : rows r.width r.width r.height copy.samples.items ≡ rows plane.cfg.stride r.width r.height (drop (r.y * plane.cfg.stride + r.x) table) =
      (λ i. rows (sym cols i) (sym width i) (sym height i) copy.samples.items) ∙ (is.rows ∙ seen.rows) in
      let entries : map number copy.samples.items ≡ cut_of (map number table) plane.cfg.stride r.x r.y r.width r.height =
      ap (map number) (copied table copy.samples.items plane.cfg.stride r.x r.y r.width r.height long same) ∙ map_cut_of number table plane.cfg.stride r.x r.y r.width r.height in
      λ i. record { rect = record { x = (place i).x; y = (place i).y; width = cols i; height = rows_long i }; table_cols = plane.cfg.stride; entries = entries i }
