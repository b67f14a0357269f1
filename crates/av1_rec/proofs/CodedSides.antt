-- A generated result has as many samples, restoration units and blocks as the view of its tile.
use Rattle.std.proofs.Common.{◌≡◌, ℕ, ℤ, ◌+◌, ◌-◌, ◌*◌, ◌/◌, ◌%◌, ◌^◌, ◌<◌, ◌≤◌, min, List, length, Bool, true, false, cond, Ok, refl, sym, ap, ◌∙◌, subst, arith}
use Rattle.std.specs.Prelude.{◌==◌, ◌||◌, ◌&&◌}
use Rattle.std.specs.List.{list_all}
use Rattle.std.specs.Int.{div_ceil}
use Rattle.std.proofs.Math.Nat.{mul_comm}
use Rattle.std.proofs.lemmas.Bool.{and_from, eq-eqb}
use Rattle.std.proofs.lemmas.Bool.Decides.{nat_tests}
use Rattle.std.proofs.lemmas.Grind.{div_ceil_times}
use Rattle.std.proofs.lemmas.List.{length-replicate}
use Rattle.std.proofs.lemmas.List.Sums.{list_all-from_AllPass}
use Rattle.av1_plane.specs.Layout.{rounded, frame_layout, chroma_layout}
use Rattle.av1_plane.specs.Sampling.{decimation}
use Rattle.av1_plane.specs.declared.plane.PlaneConfig.{PlaneConfig}
use Rattle.av1_plane.specs.declared.sampling.ChromaSampling.{ChromaSampling}
use Rattle.av1_plane.specs.declared.sampling.ChromaSampling.TheVariants.{Cs420, Cs422, Cs444, Cs400}
use Rattle.av1_plane.specs.declared.three.Three.{Three}
use Rattle.av1_plane.specs.declared.tile_rect.TileRect.{TileRect}
use Rattle.av1_plane.specs.Area.{decimated_tile}
use Rattle.av1_block.specs.Block.{default_block}
use Rattle.av1_block.proofs.Cuts.{length-cut_of}
use Rattle.av1_block.proofs.Places.{placed_lies}
use Rattle.av1_tiling.specs.declared.restoration_plane.RestorationPlaneConfig.{RestorationPlaneConfig}
use Rattle.av1_tiling.specs.declared.tiling_info.TilingInfo.{TilingInfo}
use Rattle.av1_tiling.specs.Frames.{is_422, no_rect, shifted_rect, stored_rect, unit_part, view_of}
use Rattle.av1_tiling.specs.Grid.{round_up}
use Rattle.av1_tiling.specs.Restoration.{blank_units}
use Rattle.av1_block.specs.RestorationUnit.{no_unit}
use Rattle.av1_tiling.specs.TileRects.{tile_superblock, samples_rect, tile_luma, tile_blocks, tile_units, block_columns, block_rows}
use Rattle.av1_tiling.specs.UnitSizes.{unit_layouts}
use Rattle.av1_tiling.specs.Views.{View}
use Rattle.av1_tiling.proofs.Inside.{luma_width, luma_height}
use Rattle.av1_tiling.proofs.TilingFacts.{IsTiling, grid_is, grid-sides}
use Rattle.av1_tiling.proofs.UnitPlaces.{units_lie, unit_rect_is}
use Rattle.av1_rec.specs.declared.text.header.Header.{Header}
use Rattle.av1_rec.specs.Begin.{start_state, start_blocks}
use Rattle.av1_rec.specs.Generated.{coded_row, coded_rows, chroma_rect, coded_planes, generated_block, generated_blocks, generated_unit, generated_units, coded_unit_lists}
use Rattle.av1_rec.specs.Header.{IsHeader}
use Rattle.av1_rec.specs.Parameters.{frame_parameters}
use Rattle.av1_rec.specs.Picture.{source_frame}
use Rattle.av1_rec.specs.Recorded.{length_inside, sides_inside, have_sides, planes_fit, units_fit}
use Rattle.av1_rec.specs.Text.{tiling}
use Rattle.av1_rec.specs.Tiles.{IsTileNumber}
use Rattle.av1_rec.proofs.FirstValues.{first_count}
use Rattle.av1_rec.proofs.GeneratedRows.{values_all}
use Rattle.av1_rec.proofs.TileFacts.{grid_found, header_tiles, blocks_rect}

-- along a side of luma, the samples of a tile's view that lie in the plane are the tile's own
luma_axis : (side x part n : ℕ) → n ≡ min (part * 64) (side - x * 64) → length_inside 88 side (88 + x * 64 / 1) (round_up n 64 / 1) ≡ n
luma_axis side x part n e = let more = div_ceil_times n 64 (omega arith) in omega (arith, more, e)

-- along a side of chroma that isn't halved, they are the tile's own as well
whole_axis : (side x part n : ℕ) → n ≡ min (part * 64) (side - x * 64) → length_inside (88 / 1) (side / 1) (88 / 1 + x * 64 / 1) (round_up n 64 / 1) ≡ n / 1
whole_axis side x part n e = let more = div_ceil_times n 64 (omega arith) in omega (arith, more, e)

-- along a side of chroma that is halved, they are half the tile's own
half_axis : (side x part n : ℕ) → n ≡ min (part * 64) (side - x * 64) → length_inside (88 / 2) (side / 2) (88 / 2 + x * 64 / 2) (round_up n 64 / 2) ≡ n / 2
half_axis side x part n e = let more = div_ceil_times n 64 (omega arith) in omega (arith, more, e)

-- where a rectangle lies in the stored rows of a plane that isn't empty
stored_is : (cfg : PlaneConfig) (luma : TileRect) → 0 < cfg.width → 0 < cfg.height → stored_rect cfg luma ≡ shifted_rect cfg.xorigin cfg.yorigin (decimated_tile luma cfg.xdec cfg.ydec)
stored_is cfg luma wide high =
    let filled : ((cfg.width == 0) || (cfg.height == 0)) ≡ false = grind (arith, nat_tests) in
    ap (λ (b : Bool). cond b no_rect (shifted_rect cfg.xorigin cfg.yorigin (decimated_tile luma cfg.xdec cfg.ydec))) filled

-- the columns and rows of a part of a plane of this layout that are inside the plane
abbrev inside : PlaneConfig → TileRect → ℕ × ℕ
inside cfg rect = (length_inside cfg.xorigin cfg.width rect.x rect.width, length_inside cfg.yorigin cfg.height rect.y rect.height)

-- a tile of a frame, by its first superblock and its luma samples
module _ (w h x y across down : ℕ) (luma : TileRect) (some_w : 1 ≤ w) (some_h : 1 ≤ h)
    (wide : luma.width ≡ min (across * 64) (rounded w - x * 64)) (high : luma.height ≡ min (down * 64) (rounded h - y * 64)) where
  -- a part of a plane that isn't empty has these columns and rows inside it
  at_place : (cfg : PlaneConfig) → 0 < cfg.width → 0 < cfg.height → (sides : ℕ × ℕ)
      → inside cfg (shifted_rect cfg.xorigin cfg.yorigin (decimated_tile (samples_rect (x, y) 6 luma.width luma.height) cfg.xdec cfg.ydec)) ≡ sides
      → inside cfg (stored_rect cfg (samples_rect (x, y) 6 luma.width luma.height)) ≡ sides
  at_place cfg a b sides e = ap (inside cfg) (stored_is cfg (samples_rect (x, y) 6 luma.width luma.height) a b) ∙ e

  -- a tile's view has the tile's luma samples inside the plane
  luma_inside : (sampling : ChromaSampling) → inside (frame_layout w h sampling).y (stored_rect (frame_layout w h sampling).y (samples_rect (x, y) 6 luma.width luma.height)) ≡ (luma.width, luma.height)
  luma_inside sampling =
      at_place (frame_layout w h sampling).y (omega arith) (omega arith) (luma.width, luma.height)
      (λ i. (luma_axis (rounded w) x across luma.width wide i, luma_axis (rounded h) y down luma.height high i))

  -- the columns and rows of a tile in a chroma plane
  abbrev chroma_sides : ChromaSampling → ℕ × ℕ
  chroma_sides sampling = let c = chroma_rect (decimation sampling) luma in (c.width, c.height)

  -- a tile's view has the tile's chroma samples inside the plane
  chroma_inside : (sampling : ChromaSampling) → inside (chroma_layout (rounded w) (rounded h) (decimation sampling)) (stored_rect (chroma_layout (rounded w) (rounded h) (decimation sampling)) (samples_rect (x, y) 6 luma.width luma.height)) ≡ chroma_sides sampling
  chroma_inside Cs420 =
      at_place (chroma_layout (rounded w) (rounded h) (decimation Cs420)) (omega arith) (omega arith) (chroma_sides Cs420)
      (λ i. (half_axis (rounded w) x across luma.width wide i, half_axis (rounded h) y down luma.height high i))
  chroma_inside Cs422 =
      at_place (chroma_layout (rounded w) (rounded h) (decimation Cs422)) (omega arith) (omega arith) (chroma_sides Cs422)
      (λ i. (half_axis (rounded w) x across luma.width wide i, whole_axis (rounded h) y down luma.height high i))
  chroma_inside Cs444 =
      at_place (chroma_layout (rounded w) (rounded h) (decimation Cs444)) (omega arith) (omega arith) (chroma_sides Cs444)
      (λ i. (whole_axis (rounded w) x across luma.width wide i, whole_axis (rounded h) y down luma.height high i))
  chroma_inside Cs400 = refl

-- coded rows of a rectangle have its sides
coded_have : (rows : List (List ℤ)) (rect : TileRect) (sides : ℕ × ℕ) → sides ≡ (rect.width, rect.height) → have_sides sides (coded_rows rows rect) ≡ true
unfolding coded_rows coded_row
coded_have rows rect sides e =
    let made = coded_rows rows rect in
    let count : length made ≡ rect.height = first_count (λ row. coded_row rows rect row) rect.height in
    let each = values_all (λ (r : List ℤ). length r ≡ rect.width) (λ row. coded_row rows rect row) (λ row. first_count _ rect.width) rect.height in
    let long : list_all (λ row. length row == rect.width) made ≡ true = list_all-from_AllPass (λ row. length row == rect.width) made (λ k d l. eq-eqb _ rect.width (each k d l)) in
    subst (λ (s : ℕ × ℕ). have_sides s made ≡ true) (sym e)
    (and_from (length made == rect.height) (list_all (λ row. length row == rect.width) made) (eq-eqb (length made) rect.height count) long)

-- a tile has as many generated units as its view, in a plane whose units have this layout
pub units_count : (t : TilingInfo) → IsTiling t → (cfg : RestorationPlaneConfig) (n : ℕ) → n < t.cols * t.rows
    → length (generated_units t cfg n)
    ≡ length (unit_part (blank_units cfg) (tile_superblock t n) (div_ceil (tile_luma t n).width (2 ^ t.sb_size_log2), div_ceil (tile_luma t n).height (2 ^ t.sb_size_log2))).entries
unfolding generated_units
units_count t facts cfg n l =
    let part = unit_part (blank_units cfg) (tile_superblock t n) (div_ceil (tile_luma t n).width (2 ^ t.sb_size_log2), div_ceil (tile_luma t n).height (2 ^ t.sb_size_log2)) in
    let rect = tile_units t cfg.sb_h_shift cfg.sb_v_shift cfg.cols cfg.rows n in
    let lies = units_lie cfg.cols cfg.rows (length (blank_units cfg).entries) (tile_superblock t n) (div_ceil (tile_luma t n).width (2 ^ t.sb_size_log2), div_ceil (tile_luma t n).height (2 ^ t.sb_size_log2)) (cfg.sb_h_shift, cfg.sb_v_shift) (length-replicate (cfg.cols * cfg.rows) no_unit) in
    first_count (λ k. generated_unit (rect.x + k % rect.width) (rect.y + k / rect.width)) (rect.width * rect.height)
    ∙ (ap (λ (r : TileRect). r.width * r.height) (sym (unit_rect_is t facts (blank_units cfg) n l))
    ∙ (mul_comm part.rect.width part.rect.height
    ∙ sym (length-cut_of (blank_units cfg).entries cfg.cols part.rect.x part.rect.y part.rect.width part.rect.height lies)))

-- a side in whole blocks of 8, by either rule
whole_side : (n : ℕ) → round_up n 8 ≡ rounded n
whole_side n = omega arith

-- two lists of the same length pass the test for it
as_long : {A B : Type 0} (xs : List A) (ys : List B) → length xs ≡ length ys → (length xs == length ys) ≡ true
as_long xs ys e = eq-eqb (length xs) (length ys) e

-- tile n of a right header's frame, whose source has these rows
module _ (h : Header) (t : TilingInfo) (source : Three (List (List ℤ))) (right : IsHeader h) (tiled : tiling h ≡ Ok t) (n : ℕ) (l : n < t.cols * t.rows) where
  -- the tile begins inside the frame
  tile : IsTileNumber t n
  tile = (header_tiles h t tiled).each n l

  -- the tiling has what holds of every tiling
  facts : IsTiling t
  facts = grid_is 6 h.format.width h.format.height h.target.num h.target.den h.target.cols_log2 h.target.rows_log2 (is_422 h.format.sampling) t (grid_found h t tiled)

  -- the tiling is of a frame with the header's width in whole blocks
  frame_width : t.frame_width ≡ rounded h.format.width
  frame_width = (grid-sides 6 h.format.width h.format.height h.target.num h.target.den h.target.cols_log2 h.target.rows_log2 (is_422 h.format.sampling) t (grid_found h t tiled)).0 ∙ whole_side h.format.width

  -- the tiling is of a frame with the header's height in whole blocks
  frame_height : t.frame_height ≡ rounded h.format.height
  frame_height = (grid-sides 6 h.format.width h.format.height h.target.num h.target.den h.target.cols_log2 h.target.rows_log2 (is_422 h.format.sampling) t (grid_found h t tiled)).1 ∙ whole_side h.format.height

  -- the width of the tile, by the header's width
  wide : (tile_luma t n).width ≡ min (t.tile_width_sb * 64) (rounded h.format.width - (tile_superblock t n).0 * 64)
  wide = sym (luma_width t n tile.side) ∙ ap (λ (w : ℕ). min (t.tile_width_sb * 64) (w - (tile_superblock t n).0 * 64)) frame_width

  -- the height of the tile, by the header's height
  high : (tile_luma t n).height ≡ min (t.tile_height_sb * 64) (rounded h.format.height - (tile_superblock t n).1 * 64)
  high = sym (luma_height t n tile.side) ∙ ap (λ (w : ℕ). min (t.tile_height_sb * 64) (w - (tile_superblock t n).1 * 64)) frame_height

  -- the tile's part of a plane of this layout, inside the plane, where superblocks have 2^s samples a side
  abbrev inside_at : PlaneConfig → ℕ → ℕ × ℕ
  inside_at cfg s = inside cfg (stored_rect cfg (samples_rect (tile_superblock t n) s (tile_luma t n).width (tile_luma t n).height))

  -- the luma samples of the tile's view inside the plane are the tile's own
  luma_is : inside_at (frame_layout h.format.width h.format.height h.format.sampling).y t.sb_size_log2 ≡ ((tile_luma t n).width, (tile_luma t n).height)
  luma_is =
      subst (λ (s : ℕ). inside_at (frame_layout h.format.width h.format.height h.format.sampling).y s ≡ ((tile_luma t n).width, (tile_luma t n).height)) (sym tile.side)
      (luma_inside h.format.width h.format.height (tile_superblock t n).0 (tile_superblock t n).1 t.tile_width_sb t.tile_height_sb (tile_luma t n) right.width.0 right.height.0 wide high h.format.sampling)

  -- the chroma samples of the tile's view inside the plane are the tile's own
  chroma_is : inside_at (frame_layout h.format.width h.format.height h.format.sampling).u t.sb_size_log2
      ≡ ((chroma_rect (decimation h.format.sampling) (tile_luma t n)).width, (chroma_rect (decimation h.format.sampling) (tile_luma t n)).height)
  chroma_is =
      subst (λ (s : ℕ). inside_at (frame_layout h.format.width h.format.height h.format.sampling).u s ≡ ((chroma_rect (decimation h.format.sampling) (tile_luma t n)).width, (chroma_rect (decimation h.format.sampling) (tile_luma t n)).height)) (sym tile.side)
      (chroma_inside h.format.width h.format.height (tile_superblock t n).0 (tile_superblock t n).1 t.tile_width_sb t.tile_height_sb (tile_luma t n) right.width.0 right.height.0 wide high h.format.sampling)

  -- the tile's starting view
  abbrev pub first_view : View
  first_view = view_of t (start_state h t source) (start_blocks (frame_parameters h t)) n

  -- the tile's coded rows have the sides that its view has inside each plane
  rows_fit : planes_fit first_view.ts (coded_planes h.format.sampling (tile_luma t n) source) ≡ true
  unfolding source_frame coded_planes
  rows_fit =
      let chroma = chroma_rect (decimation h.format.sampling) (tile_luma t n) in
      and_from (have_sides (sides_inside first_view.ts 0) (coded_rows source.y (tile_luma t n))) (have_sides (sides_inside first_view.ts 1) (coded_rows source.u chroma) && have_sides (sides_inside first_view.ts 2) (coded_rows source.v chroma))
      (coded_have source.y (tile_luma t n) (sides_inside first_view.ts 0) luma_is)
      (and_from (have_sides (sides_inside first_view.ts 1) (coded_rows source.u chroma)) (have_sides (sides_inside first_view.ts 2) (coded_rows source.v chroma))
      (coded_have source.u chroma (sides_inside first_view.ts 1) chroma_is) (coded_have source.v chroma (sides_inside first_view.ts 2) chroma_is))

  -- the tile has as many generated units as its view in each plane
  units_match : units_fit first_view.ts (coded_unit_lists t (unit_layouts (frame_parameters h t)) n) ≡ true
  units_match =
      let layouts = unit_layouts (frame_parameters h t) in
      let lists = coded_unit_lists t layouts n in
      let parts = first_view.ts.units in
      and_from (length lists.y == length parts.y.entries) ((length lists.u == length parts.u.entries) && (length lists.v == length parts.v.entries))
      (as_long lists.y parts.y.entries (units_count t facts layouts.y n l))
      (and_from (length lists.u == length parts.u.entries) (length lists.v == length parts.v.entries)
      (as_long lists.u parts.u.entries (units_count t facts layouts.u n l)) (as_long lists.v parts.v.entries (units_count t facts layouts.v n l)))

  -- the table of blocks has a place for each block of the tiling's frame
  table_whole : length (start_blocks (frame_parameters h t)) ≡ block_columns t * block_rows t
  table_whole =
      length-replicate ((frame_parameters h t).w_in_b * (frame_parameters h t).h_in_b) default_block
      ∙ (λ i. sym frame_width i / 4 * (sym frame_height i / 4))

  -- the tile's blocks lie in the table, by their place and sides
  blocks_lie : (b : TileRect) → b ≡ record {
    x = (tile_superblock t n).0 * 16;
    y = (tile_superblock t n).1 * 16;
    width = min (t.tile_width_sb * 16) (t.frame_width / 4 - (tile_superblock t n).0 * 16);
    height = min (t.tile_height_sb * 16) (t.frame_height / 4 - (tile_superblock t n).1 * 16);
  } → (b.x + b.width ≤ block_columns t) × (b.y + b.height ≤ block_rows t)
  blocks_lie b e =
      let x = tile.x in
      let y = tile.y in
      subst (λ (r : TileRect). (r.x + r.width ≤ block_columns t) × (r.y + r.height ≤ block_rows t)) (sym e) (omega arith, omega arith)

  -- the tile has as many generated blocks as its view
  blocks_count : length (generated_blocks (tile_blocks t n)) ≡ length first_view.blocks.entries
  unfolding generated_blocks
  blocks_count =
      let b = tile_blocks t n in
      let table = start_blocks (frame_parameters h t) in
      let inside = blocks_lie b (blocks_rect t n tile.side) in
      first_count (λ k. generated_block (b.x + k % b.width) (b.y + k / b.width)) (b.width * b.height)
      ∙ (mul_comm b.width b.height
      ∙ sym (length-cut_of table (block_columns t) b.x b.y b.width b.height (placed_lies b.x b.y (block_columns t) (block_rows t) b.width b.height (length table) inside.0 inside.1 table_whole)))

  -- the tile's generated result fits its view
  pub fits : (planes_fit first_view.ts (coded_planes h.format.sampling (tile_luma t n) source)
      && (units_fit first_view.ts (coded_unit_lists t (unit_layouts (frame_parameters h t)) n) && (length (generated_blocks (tile_blocks t n)) == length first_view.blocks.entries))) ≡ true
  fits =
      and_from (planes_fit first_view.ts (coded_planes h.format.sampling (tile_luma t n) source)) (units_fit first_view.ts (coded_unit_lists t (unit_layouts (frame_parameters h t)) n) && (length (generated_blocks (tile_blocks t n)) == length first_view.blocks.entries)) rows_fit
      (and_from (units_fit first_view.ts (coded_unit_lists t (unit_layouts (frame_parameters h t)) n)) (length (generated_blocks (tile_blocks t n)) == length first_view.blocks.entries) units_match (as_long (generated_blocks (tile_blocks t n)) first_view.blocks.entries blocks_count))
