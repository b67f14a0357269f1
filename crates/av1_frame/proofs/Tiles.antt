-- The tables that the tiles of a frame were coded into: their parts lie where the tiles do.
use Rattle.std.proofs.Common.{◌≡◌, ℕ, ◌+◌, ◌-◌, ◌*◌, ◌/◌, ◌%◌, ◌^◌, ◌<◌, ◌≤◌, inl, inr, List, [], ◌∷◌, length, map, All, get_or, Option, Some, None, refl, sym, ap, ◌∙◌, subst, arith}
use Rattle.std.specs.Prelude.{slice_get}
use Rattle.std.specs.List.{AllZip}
use Rattle.std.proofs.lemmas.Bool.{cases_lt}
use Rattle.std.proofs.lemmas.Nat.{div_below, mod_below}
use Rattle.std.proofs.lemmas.Option.{none-some, slice_get-get_or, slice_get_past, get_or_from_slice_get}
use Rattle.std.proofs.lemmas.List.{get_or-map, length-map}
use Rattle.std.proofs.lemmas.List.Elements.{AllZip-get_or, All-nil, All-cons}
use Rattle.std.proofs.lemmas.Slice.Zip.{AllZip-long}
use Rattle.std.proofs.Math.Nat.{mul_comm}
use Rattle.av1_plane.specs.declared.three.Three.{Three}
use Rattle.av1_plane.specs.declared.tile_rect.TileRect.{TileRect}
use Rattle.av1_plane.specs.Layout.{frame_layout}
use Rattle.av1_block.specs.declared.block.Block.{Block}
use Rattle.av1_block.specs.declared.me_stats.MEStats.{MEStats}
use Rattle.av1_block.specs.Rows.{Rows}
use Rattle.av1_block.specs.Cut.{IsInside}
use Rattle.av1_tiling.specs.declared.tiling_info.TilingInfo.{TilingInfo}
use Rattle.av1_tiling.specs.TileRects.{tile_blocks, block_columns, block_rows}
use Rattle.av1_tiling.specs.Views.{View, Part, PlaneView, SameShape, AreFull}
use Rattle.av1_tiling.specs.Frames.{Parameters, State, IsStateFor, IsTilingOf, IsInRange, AreMotionTables, layouts, views, view_of}
use Rattle.av1_tiling.specs.Puts.{coded_blocks}
use Rattle.av1_block.specs.declared.restoration_unit.RestorationUnit.{RestorationUnit}
use Rattle.av1_tiling.specs.declared.restoration_plane.RestorationPlaneConfig.{RestorationPlaneConfig}
use Rattle.av1_tiling.specs.Restoration.{Units, HasLayout}
use Rattle.av1_tiling.specs.UnitSizes.{AreUnitsFor, unit_layouts}
use Rattle.av1_tiling.specs.Coded.{AreCodedUnits, IsCodedUnitTable, HasParts, IsCovered, entry_in, ViewLies, AreViewsApart, IsCodedMotion, state_tables}
use Rattle.av1_tiling.proofs.Inside.{tiling_facts}
use Rattle.av1_tiling.proofs.LawProofs.{cuts_blocks}
use Rattle.av1_tiling.proofs.Placed.{coded_have}
use Rattle.av1_tiling.proofs.ViewPlaces.{views_apart, views_lie, coded_lie, coded_apart, length-views, get_or-views_below}

-- what holds of all entries of a part holds of the table's entry that the part has
pub from_part : {E : Type 0} (P : E → Type 0) (xs ys : List E) (k j : ℕ) (d : E) → k < length xs → slice_get xs k ≡ slice_get ys j → All P ys → P (get_or xs k d)
from_part P xs ys k j d l same each = elim (cases_lt j (length ys)) [
  | inl below ↦
      let here : slice_get ys j ≡ Some (get_or xs k d) = sym same ∙ slice_get-get_or xs k d l in
      subst P (get_or_from_slice_get ys j (get_or xs k d) d here) (each j d below)
  | inr past ↦ absurd (none-some (get_or xs k d) (sym (slice_get_past ys j past) ∙ (sym same ∙ slice_get-get_or xs k d l)))
]

module _ (t : TilingInfo) (s : State) (blocks : List Block) (cols rows : ℕ) (made : IsTilingOf t s cols rows) (whole : length blocks ≡ cols * rows) (full : AreFull s.rec)
    (after : List View) (shapes : AllZip SameShape (views t s blocks) after) where
  -- the tiles lie in the tables
  pub tiles_lie : All (ViewLies (state_tables s (record { cols = cols; rows = rows; entries = blocks }))) after
  tiles_lie = coded_lie (views t s blocks) after shapes (state_tables s (record { cols = cols; rows = rows; entries = blocks })) (views_lie t s blocks cols rows made full whole)

  -- the coded views have no place in common
  pub tiles_apart : AreViewsApart after
  tiles_apart = coded_apart (views t s blocks) after shapes (views_apart t s blocks cols rows made)

  -- each place of the table is a place of a tile, so the coded table has the tiles' blocks alone
  pub tiles_each : (P : Block → Type 0) → All (λ v. All P v.blocks.entries) after → All P (coded_blocks blocks after)
  tiles_each P each k d l =
      let has = (coded_have (state_tables s (record { cols = cols; rows = rows; entries = blocks })) after tiles_lie tiles_apart).blocks.entries in
      let facts = tiling_facts t s cols rows made in
      let wide = made.wide in
      let high = made.high in
      let below : k < rows * cols = let same = has.length in let turned = mul_comm cols rows in omega arith in
      let some : 0 < cols = let w = facts.wide.0 in let e = facts.wide.2 in omega arith in
      let column = mod_below k cols some in
      let row = div_below k cols rows some below in
      let place = (cuts_blocks t facts).covered (k % cols) (k / cols) (omega arith) (omega arith) in
      let n = place.0 in
      let count = place.1 in
      let first = view_of t s blocks 0 in
      let long = AllZip-long SameShape (views t s blocks) after shapes in
      let tiles = length-views t s blocks in
      let v = get_or after n first in
      let shape = AllZip-get_or SameShape (views t s blocks) after n first first shapes (omega arith) in
      let at : (get_or (views t s blocks) n first).blocks.rect ≡ tile_blocks t n = ap (λ (w : View). w.blocks.rect) (get_or-views_below t s blocks (t.cols * t.rows) n first count) in
      let rect : tile_blocks t n ≡ v.blocks.rect = sym (shape.blocks.rect ∙ at) in
      let covered : IsCovered cols k v.blocks = subst (λ (r : TileRect). IsInside r (k % cols) (k / cols)) rect place.2 in
      let mapped = length-map after (λ (w : View). w.blocks) in
      let part : get_or (map (λ (w : View). w.blocks) after) n first.blocks ≡ v.blocks = get_or-map (λ (w : View). w.blocks) after n first first.blocks (omega arith) in
      let entry : slice_get (coded_blocks blocks after) k ≡ entry_in cols k v.blocks =
      subst (λ (p : Part Block). IsCovered cols k p → slice_get (coded_blocks blocks after) k ≡ entry_in cols k p) part (has.inside k n first.blocks (omega arith)) covered in
      from_part P (coded_blocks blocks after) v.blocks.entries k ((k / cols - v.blocks.rect.y) * v.blocks.rect.width + (k % cols - v.blocks.rect.x)) d l entry (each n first (omega arith))

-- motion tables keep their sides
pub kept_motion : (cols rows : ℕ) (views : List View) (old new : List (Rows MEStats)) → AreMotionTables cols rows old → IsCodedMotion views old new → AreMotionTables cols rows new
kept_motion cols rows views old new made coded = record {
  count = coded.count ∙ made.count;
  sides = λ k d l.
      let same = coded.count in
      let table = coded.tables k d (omega arith) in
      let before = made.sides k d (omega arith) in
      (table.cols ∙ before.0, table.rows ∙ before.1);
  full = λ k d l.
      let same = coded.count in
      let table = coded.tables k d (omega arith) in
      table.entries.length ∙ (made.full k d (omega arith) ∙ (λ i. sym table.cols i * sym table.rows i));
}

-- motion tables of a frame are no larger than can be made
pub sides_low : (cols rows : ℕ) (tables : List (Rows MEStats)) → cols ≤ 16384 → rows ≤ 16384 → AreMotionTables cols rows tables → All (λ t. (t.cols ≤ 16384) × (t.rows ≤ 16384)) tables
sides_low cols rows tables wide high made k d l =
    let sides = made.sides k d l in
    let c = sides.0 in
    let r = sides.1 in
    (omega arith, omega arith)

-- units of a frame keep their layouts
pub kept_units : (p : Parameters) (views : List View) (old new : Three Units) → AreUnitsFor p old → AreCodedUnits views old new → AreUnitsFor p new
kept_units p views old new made coded =
    let keep = λ (cfg : RestorationPlaneConfig) (a b : Units) (parts : List (Part RestorationUnit)) (layout : HasLayout cfg a) (put : IsCodedUnitTable parts a b).
    let kept : HasLayout cfg b = record { layout = put.cfg ∙ layout.layout; cols = put.cols ∙ layout.cols; rows = put.rows ∙ layout.rows; entries = put.entries.length ∙ layout.entries } in kept in
    record {
      y = keep (unit_layouts p).y old.y new.y (map (λ v. v.ts.units.y) views) made.y coded.y;
      u = keep (unit_layouts p).u old.u new.u (map (λ v. v.ts.units.u) views) made.u coded.u;
      v = keep (unit_layouts p).v old.v new.v (map (λ v. v.ts.units.v) views) made.v coded.v;
    }

-- a state whose levels, motion records, restoration units and picture alone were changed is still made for its frame
pub kept_state : (p : Parameters) (s after : State) → IsStateFor p s → after.input ≡ s.input → layouts after.rec ≡ layouts s.rec → AreUnitsFor p after.restoration → AreMotionTables p.w_in_b p.h_in_b after.frame_me_stats → after.deblock.block_delta_shift ≡ s.deblock.block_delta_shift → IsStateFor p after
kept_state p s after state input rec units motion shift = record {
  input = subst (λ (f : Three PlaneView). layouts f ≡ frame_layout p.width p.height p.sequence.chroma_sampling) (sym input) state.input;
  rec = rec ∙ state.rec;
  y_range = subst (λ (f : Three PlaneView). IsInRange (2 ^ p.sequence.bit_depth) f.y) (sym input) state.y_range;
  u_range = subst (λ (f : Three PlaneView). IsInRange (2 ^ p.sequence.bit_depth) f.u) (sym input) state.u_range;
  v_range = subst (λ (f : Three PlaneView). IsInRange (2 ^ p.sequence.bit_depth) f.v) (sym input) state.v_range;
  restoration = units;
  motion = motion;
  shift = subst (λ n. n ≤ 3) (sym shift) state.shift;
}

-- what holds of one element holds of all elements of the list of it
pub only : {A : Type 0} (P : A → Type 0) (xs : List A) (x : A) → xs ≡ x ∷ [] → P x → All P xs
only P xs x e p = subst (All P) (sym e) (All-cons P x [] p (All-nil P))
