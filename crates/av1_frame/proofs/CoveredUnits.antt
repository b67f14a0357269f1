-- The tiles of a frame cover its restoration units: where a bitstream can describe the units of each tile, it can
-- describe the units that the tiles were coded into.
use Rattle.std.proofs.Common.{◌≡◌, ℕ, zero, suc, ◌+◌, ◌-◌, ◌*◌, ◌/◌, ◌%◌, ◌^◌, ◌<◌, ◌≤◌, List, length, map, All, get_or, refl, sym, ap, ◌∙◌, subst, arith}
use Rattle.std.specs.Prelude.{slice_get}
use Rattle.std.specs.Int.{div_ceil}
use Rattle.std.specs.List.{AllZip}
use Rattle.std.proofs.lemmas.Nat.{div_below, mod_below}
use Rattle.std.proofs.lemmas.List.{get_or-map, length-map}
use Rattle.std.proofs.lemmas.List.Elements.{AllZip-get_or}
use Rattle.std.proofs.lemmas.Slice.Zip.{AllZip-long}
use Rattle.std.proofs.Math.Nat.{mul_comm}
use Rattle.av1_plane.specs.declared.tile_rect.TileRect.{TileRect}
use Rattle.av1_block.specs.declared.block.Block.{Block}
use Rattle.av1_block.specs.declared.restoration_unit.RestorationUnit.{RestorationUnit}
use Rattle.av1_block.specs.RestorationUnit.{no_unit}
use Rattle.av1_block.specs.Rows.{Rows}
use Rattle.av1_block.specs.Cut.{IsInside}
use Rattle.av1_tiling.specs.declared.tiling_info.TilingInfo.{TilingInfo}
use Rattle.av1_tiling.specs.TileRects.{tile_units, tile_superblock, tile_luma}
use Rattle.av1_tiling.specs.Views.{View, Part, SameShape, AreFull}
use Rattle.av1_tiling.specs.Frames.{State, IsTilingOf, AreTileUnits, unit_part, views, view_of}
use Rattle.av1_tiling.specs.Puts.{coded_tables, coded_unit_part}
use Rattle.av1_tiling.specs.Coded.{HasParts, IsCovered, entry_in, AreCoded, state_tables}
use Rattle.av1_tiling.specs.Restoration.{Units, IsUnit, AreUnits, AreFrameUnits}
use Rattle.av1_tiling.proofs.Inside.{tiling_facts}
use Rattle.av1_tiling.proofs.LawProofs.{cuts_units}
use Rattle.av1_tiling.proofs.Placed.{coded_have}
use Rattle.av1_tiling.proofs.UnitPlaces.{unit_rect_is}
use Rattle.av1_tiling.proofs.ViewPlaces.{get_or-views_below, length-views}
use Rattle.av1_frame.specs.Valid.{AreUnitParts}
use Rattle.av1_frame.proofs.Tiles.{from_part, tiles_lie, tiles_apart}

module _ (t : TilingInfo) (s : State) (b : Rows Block) (made : IsTilingOf t s b.cols b.rows) (whole : length b.entries ≡ b.cols * b.rows) (full : AreFull s.rec)
    (after : List View) (shapes : AllZip SameShape (views t s b.entries) after) where
  -- what holds of each tile's units of a plane holds of the plane's
  units_each : (u : Units) (part : View → Part RestorationUnit) → AreTileUnits t u
      → ((n : ℕ) → (part (view_of t s b.entries n)).rect ≡ (unit_part u (tile_superblock t n) (div_ceil (tile_luma t n).width (2 ^ t.sb_size_log2), div_ceil (tile_luma t n).height (2 ^ t.sb_size_log2))).rect)
      → ((v w : View) → SameShape v w → (part w).rect ≡ (part v).rect)
      → HasParts u.cols (map part after) u.entries (coded_unit_part u (map part after)).entries
      → All (λ v. All IsUnit (part v).entries) after → AreUnits (coded_unit_part u (map part after))
  units_each u part lie at same has each = record {
    each = λ k l.
        let facts = tiling_facts t s b.cols b.rows made in
        let long = has.length in
        let turned = mul_comm u.cols u.rows in
        let area = lie.units.whole in
        let below : k < u.rows * u.cols = omega arith in
        let some : 0 < u.cols = some_columns u.cols u.rows k (omega arith) in
        let column = mod_below k u.cols some in
        let row = div_below k u.cols u.rows some below in
        let place = (cuts_units t facts u.cfg.sb_h_shift u.cfg.sb_v_shift u.cols u.rows lie.across lie.down).covered (k % u.cols) (k / u.cols) (omega arith) (omega arith) in
        let n = place.0 in
        let count = place.1 in
        let first = view_of t s b.entries 0 in
        let several = AllZip-long SameShape (views t s b.entries) after shapes in
        let tiles = length-views t s b.entries in
        let v = get_or after n first in
        let shape = AllZip-get_or SameShape (views t s b.entries) after n first first shapes (omega arith) in
        let here : (part (get_or (views t s b.entries) n first)).rect ≡ tile_units t u.cfg.sb_h_shift u.cfg.sb_v_shift u.cols u.rows n =
        ap (λ (w : View). (part w).rect) (get_or-views_below t s b.entries (t.cols * t.rows) n first count) ∙ (at n ∙ unit_rect_is t facts u n count) in
        let stays : (part v).rect ≡ tile_units t u.cfg.sb_h_shift u.cfg.sb_v_shift u.cols u.rows n = same (get_or (views t s b.entries) n first) v shape ∙ here in
        let rect : tile_units t u.cfg.sb_h_shift u.cfg.sb_v_shift u.cols u.rows n ≡ (part v).rect = sym stays in
        let covered : IsCovered u.cols k (part v) = subst (λ (r : TileRect). IsInside r (k % u.cols) (k / u.cols)) rect place.2 in
        let new = (coded_unit_part u (map part after)).entries in
        let mapped = length-map after part in
        let one : get_or (map part after) n (part first) ≡ part v = get_or-map part after n first (part first) (omega arith) in
        let entry : slice_get new k ≡ entry_in u.cols k (part v) =
        subst (λ (p : Part RestorationUnit). IsCovered u.cols k p → slice_get new k ≡ entry_in u.cols k p) one (has.inside k n (part first) (omega arith)) covered in
        from_part IsUnit new (part v).entries k ((k / u.cols - (part v).rect.y) * (part v).rect.width + (k % u.cols - (part v).rect.x)) no_unit l entry (each n first (omega arith));
  }
    where
      some_columns : (cols rows k : ℕ) → k < cols * rows → 0 < cols
      some_columns zero rows k l = absurd (omega arith)
      some_columns (suc cols) rows k l = omega arith

  -- The tables with the views put back have each view's units.
  units_coded : AreCoded after (state_tables s b) (coded_tables (state_tables s b) after)
  units_coded = coded_have (state_tables s b) after
      (tiles_lie t s b.entries b.cols b.rows made whole full after shapes)
      (tiles_apart t s b.entries b.cols b.rows made whole full after shapes)

  -- a bitstream can describe all units that the tiles were coded into
  pub frame_units_are : All (λ v. AreUnitParts v.ts.units) after → AreFrameUnits (coded_tables (state_tables s b) after).units
  frame_units_are each = record {
    y = units_each s.restoration.y (λ v. v.ts.units.y) made.y_units (λ n. refl) (λ v w h. h.y_units.rect) units_coded.units.y.entries (λ k d l. (each k d l).y);
    u = units_each s.restoration.u (λ v. v.ts.units.u) made.u_units (λ n. refl) (λ v w h. h.u_units.rect) units_coded.units.u.entries (λ k d l. (each k d l).u);
    v = units_each s.restoration.v (λ v. v.ts.units.v) made.v_units (λ n. refl) (λ v w h. h.v_units.rect) units_coded.units.v.entries (λ k d l. (each k d l).v);
  }
