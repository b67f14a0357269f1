-- The tiling of a frame belongs to each state and block table that are made for the frame; and what tells whether they are.
use Rattle.std.proofs.Common.{◌≡◌, ℕ, ◌*◌, ◌/◌, ◌≤◌, Some, List, All, length, sym, ap, ◌∙◌, subst}
use Rattle.std.proofs.lemmas.List.Elements.{All-weaker}
use Rattle.av1_block.specs.declared.me_stats.MEStats.{MEStats}
use Rattle.av1_block.specs.Rows.{Rows}
use Rattle.av1_tiling.specs.Views.{IsFullTable}
use Rattle.av1_tiling.specs.Frames.{Parameters, State, AreMotionTables, IsFrame, IsInputFor, IsStateFor, IsTilingOf, is_422, layouts}
use Rattle.av1_tiling.specs.UnitSizes.{AreUnitsFor}
use Rattle.av1_plane.specs.Layout.{frame_layout}
use Rattle.av1_tiling.specs.Grid.{grid, superblock_log2}
use Rattle.av1_tiling.proofs.Inside.{grid_takes}
use Rattle.av1_tiling.proofs.UnitTiles.{frame_units}

-- A frame's tiling fits a state and a block table that are made for the frame.
pub tiling_of : (limit : ℕ) (p : Parameters) (s : State) (cols rows : ℕ) → IsFrame limit p → IsStateFor p s → cols ≡ p.w_in_b → rows ≡ p.h_in_b → IsTilingOf p.sequence.tiling s cols rows
tiling_of limit p s cols rows frame state wide high =
    let t = frame.tiling in
    let chosen : superblock_log2 p.sequence.use_128x128_superblock ≡ 6 = ap superblock_log2 frame.superblock in
    let of_64 : grid 6 p.width p.height t.0 t.1 t.2 t.3 (is_422 p.sequence.chroma_sampling) ≡ Some p.sequence.tiling =
    subst (λ k. grid k p.width p.height t.0 t.1 t.2 t.3 (is_422 p.sequence.chroma_sampling) ≡ Some p.sequence.tiling) chosen t.4 in
    let taken = grid_takes p.width p.height t.0 t.1 t.2 t.3 (is_422 p.sequence.chroma_sampling) p.sequence.tiling of_64 in
    let units = frame_units limit p s.restoration frame state.restoration in
    record {
      width = p.width;
      height = p.height;
      num = t.0;
      den = t.1;
      target_cols = t.2;
      target_rows = t.3;
      sampling = p.sequence.chroma_sampling;
      tiling = subst (λ k. grid k p.width p.height t.0 t.1 t.2 t.3 (is_422 p.sequence.chroma_sampling) ≡ Some p.sequence.tiling) (sym taken.six) of_64;
      built = taken.six;
      layout = state.rec;
      motion = subst (λ c. AreMotionTables c rows s.frame_me_stats) (sym wide) (subst (λ r. AreMotionTables p.w_in_b r s.frame_me_stats) (sym high) state.motion);
      y_units = units.y;
      u_units = units.u;
      v_units = units.v;
      wide = wide ∙ (frame.columns ∙ ap (λ (n : ℕ). n / 4) (sym taken.wide));
      high = high ∙ (frame.rows ∙ ap (λ (n : ℕ). n / 4) (sym taken.high));
    }

-- a table has these sides, and an entry for each of its places
abbrev pub HasSides : {E : Type 0} → ℕ → ℕ → Rows E → Type 0
HasSides cols rows t = (t.cols ≡ cols) × (t.rows ≡ rows) × (length t.entries ≡ cols * rows)

-- eight tables with these sides
pub motion_made : (cols rows : ℕ) (tables : List (Rows MEStats)) → length tables ≡ 8 → All (HasSides cols rows) tables → AreMotionTables cols rows tables
motion_made cols rows tables count each = record {
  count = count;
  sides = All-weaker (HasSides cols rows) (λ t. (t.cols ≡ cols) × (t.rows ≡ rows)) (λ t h. (h.0, h.1)) tables each;
  full = All-weaker (HasSides cols rows) IsFullTable (λ t h. h.2 ∙ (λ i. sym h.0 i * sym h.1 i)) tables each;
}

-- a state whose planes and tables are made for a frame
pub state_made : (p : Parameters) (s : State) → IsInputFor p s.input → layouts s.rec ≡ frame_layout p.width p.height p.sequence.chroma_sampling
    → AreUnitsFor p s.restoration × AreMotionTables p.w_in_b p.h_in_b s.frame_me_stats × (s.deblock.block_delta_shift ≤ 3) → IsStateFor p s
state_made p s input rec tables = record {
  input = input.layout;
  rec = rec;
  y_range = input.y_range;
  u_range = input.u_range;
  v_range = input.v_range;
  restoration = tables.0;
  motion = tables.1;
  shift = tables.2;
}

-- the input of such a state
pub input_made : (p : Parameters) (s : State) → IsStateFor p s → IsInputFor p s.input
input_made p s made = record { layout = made.input; y_range = made.y_range; u_range = made.u_range; v_range = made.v_range }
