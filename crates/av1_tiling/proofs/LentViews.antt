-- What a tile that is cut from a frame can lend: its restoration units, motion records and blocks lie in the frame's
-- tables of them, and the frame's input stores the rectangles of its samples.
use Rattle.std.proofs.Common.{◌≡◌, ℕ, pos, ◌+◌, ◌-◌, ◌*◌, ◌/◌, ◌^◌, ◌<◌, ◌≤◌, Bool, true, false, List, [], min, refl, sym, ap, ◌∙◌, subst, arith}
use Rattle.std.specs.Prelude.{◌==◌, ◌||◌, if◌then◌else◌}
use Rattle.std.specs.Int.{div_ceil}
use Rattle.std.proofs.lemmas.Bool.{ne_eqb}
use Rattle.std.proofs.lemmas.Int.{ints}
use Rattle.std.proofs.lemmas.List.{get_or-map}
use Rattle.av1_plane.specs.Area.{decimated_tile}
use Rattle.av1_plane.specs.Place.{IsInPlane}
use Rattle.av1_plane.specs.Regions.{StoresRect}
use Rattle.av1_plane.specs.declared.plane.PlaneConfig.{PlaneConfig}
use Rattle.av1_plane.specs.declared.three.Three.{Three}
use Rattle.av1_plane.specs.declared.tile_rect.TileRect.{TileRect}
use Rattle.av1_block.specs.declared.block.Block.{Block}
use Rattle.av1_block.specs.declared.me_stats.MEStats.{MEStats}
use Rattle.av1_block.specs.Rows.{Rows}
use Rattle.av1_tiling.specs.Coded.{no_part}
use Rattle.av1_tiling.specs.declared.part_place.PartPlace.{PartPlace}
use Rattle.av1_tiling.specs.declared.restoration_plane.RestorationPlaneConfig.{RestorationPlaneConfig}
use Rattle.av1_tiling.specs.declared.tiling_info.TilingInfo.{TilingInfo}
use Rattle.av1_tiling.specs.Frames.{Parameters, State, IsStateFor, IsTilingOf, LiesInFrame, PartFits, layouts, no_rect, shifted_rect, plane_part, plane_part_place, unit_part, part_at, tile_state, view_of}
use Rattle.av1_tiling.specs.Grid.{IsBuiltSide}
use Rattle.av1_tiling.specs.Restoration.{Units, HasLayout}
use Rattle.av1_tiling.specs.TileRects.{samples_rect, motion_rect, tile_superblock, tile_luma, block_columns, block_rows}
use Rattle.av1_tiling.specs.TileViews.{HoldsInput, LiesInSides, motion_part_at, part_area}
use Rattle.av1_tiling.specs.Views.{PlaneView, Part, TileState, View, SameShape}
use Rattle.av1_tiling.proofs.Fits.{fits_y, fits_u, fits_v, motion_across, motion_down}
use Rattle.av1_tiling.proofs.Inside.{placed, luma_width, luma_height, blocks_are}
use Rattle.av1_tiling.proofs.ViewPlaces.{motion_stays_put, tile_fits_y, tile_fits_u, tile_fits_v}

-- A tile's units of all planes lie in the tables that their layouts name, so that views show all of them.
pub record HasUnitPlaces (t : TileState) : Type 0 where
  pub y : LiesInSides t.units.y.rect t.unit_layouts.y.cols t.unit_layouts.y.rows
  pub u : LiesInSides t.units.u.rect t.unit_layouts.u.cols t.unit_layouts.u.rows
  pub v : LiesInSides t.units.v.rect t.unit_layouts.v.cols t.unit_layouts.v.rows

-- the units that a tile covers lie in a table of the layout's sides
units_in_table : (cfg : RestorationPlaneConfig) (u : Units) → HasLayout cfg u → (superblock superblocks : ℕ × ℕ) → LiesInSides (unit_part u superblock superblocks).rect u.cfg.cols u.cfg.rows
units_in_table cfg u made superblock superblocks =
    let r = (unit_part u superblock superblocks).rect in
    let cols : u.cols ≡ u.cfg.cols = made.cols ∙ sym (ap (λ (c : RestorationPlaneConfig). c.cols) made.layout) in
    let rows : u.rows ≡ u.cfg.rows = made.rows ∙ sym (ap (λ (c : RestorationPlaneConfig). c.rows) made.layout) in
    let across : r.x + r.width ≤ u.cols = omega arith in
    let down : r.y + r.height ≤ u.rows = omega arith in
    record { across = omega arith; down = omega arith }

-- a plane with both sides isn't empty
has_area : (m n : ℕ) → 0 < m → 0 < n → ((m == 0) || (n == 0)) ≡ false
has_area m n l k =
    let wide : (m == 0) ≡ false = ne_eqb m 0 (λ e. absurd (omega arith)) in
    let high : (n == 0) ≡ false = ne_eqb n 0 (λ e. absurd (omega arith)) in
    λ i. wide i || high i

-- a rectangle that the stored rows hold is in the plane when it is counted from the origin
in_plane : (cfg : PlaneConfig) (r : TileRect) → cfg.xorigin + r.x + r.width ≤ cfg.stride → cfg.yorigin + r.y + r.height ≤ cfg.alloc_height
    → IsInPlane cfg (record { x = pos r.x; y = pos r.y; width = r.width; height = r.height })
in_plane cfg r across down = record { left = omega (arith, ints); right = omega (arith, ints); top = omega (arith, ints); bottom = omega (arith, ints) }

-- a part that is stored in a plane with samples is in the plane
either_stored : (empty : Bool) (cfg : PlaneConfig) (r : TileRect) → empty ≡ false
    → (let stored = if empty then no_rect else shifted_rect cfg.xorigin cfg.yorigin r in stored.x + stored.width ≤ cfg.stride)
    → (let stored = if empty then no_rect else shifted_rect cfg.xorigin cfg.yorigin r in stored.y + stored.height ≤ cfg.alloc_height)
    → (let stored = if empty then no_rect else shifted_rect cfg.xorigin cfg.yorigin r in
    let place : PartPlace = if empty then record { cfg = cfg; x = pos 0; y = pos 0 } else record { cfg = cfg; x = pos r.x; y = pos r.y } in
    IsInPlane cfg (record { x = place.x; y = place.y; width = stored.width; height = stored.height }))
either_stored true cfg r e across down = absurd (let f : true ≡ false = e in cc)
either_stored false cfg r e across down = in_plane cfg r across down

-- The input stores the part of a plane that luma samples cover, if it has the layout of the reconstruction.
input_stores : (input rec : PlaneView) (luma : TileRect) → input.cfg ≡ rec.cfg → PartFits rec.cfg luma → StoresRect input.cfg (part_area (plane_part_place rec.cfg luma) (plane_part rec luma))
input_stores input rec luma same fits =
    subst (λ cfg. StoresRect cfg (part_area (plane_part_place rec.cfg luma) (plane_part rec luma))) (sym same)
    (λ wide high. either_stored ((rec.cfg.width == 0) || (rec.cfg.height == 0)) rec.cfg (decimated_tile luma rec.cfg.xdec rec.cfg.ydec) (has_area rec.cfg.width rec.cfg.height wide high) fits.columns fits.rows)

-- the tiles that are cut from a frame's state
module _ (p : Parameters) (s : State) (made : IsStateFor p s) where
  -- the input has the layouts of the reconstruction
  same_layouts : layouts s.input ≡ layouts s.rec
  same_layouts = made.input ∙ sym made.rec

  -- the input stores a tile's samples where the reconstruction does
  input_holds : (superblock : ℕ × ℕ) (side width height : ℕ)
      → (let luma = samples_rect superblock side width height in PartFits s.rec.y.cfg luma → PartFits s.rec.u.cfg luma → PartFits s.rec.v.cfg luma → HoldsInput (tile_state s superblock side width height))
  input_holds superblock side width height y u v =
      let luma = samples_rect superblock side width height in
      record {
        y = input_stores s.input.y s.rec.y luma (ap (λ (l : Three PlaneConfig). l.y) same_layouts) y;
        u = input_stores s.input.u s.rec.u luma (ap (λ (l : Three PlaneConfig). l.u) same_layouts) u;
        v = input_stores s.input.v s.rec.v luma (ap (λ (l : Three PlaneConfig). l.v) same_layouts) v;
      }

  -- The units of a tile of the frame lie in the frame's tables of units.
  pub tile_has_unit_places : (superblock : ℕ × ℕ) (side width height : ℕ) → HasUnitPlaces (tile_state s superblock side width height)
  tile_has_unit_places superblock side width height =
      let superblocks : ℕ × ℕ = (div_ceil width (2 ^ side), div_ceil height (2 ^ side)) in
      record {
        y = units_in_table _ s.restoration.y made.restoration.y superblock superblocks;
        u = units_in_table _ s.restoration.u made.restoration.u superblock superblocks;
        v = units_in_table _ s.restoration.v made.restoration.v superblock superblocks;
      }

  -- The frame's input stores the rectangles of the samples of a tile that lies in the frame.
  pub tile_holds_input : (superblock : ℕ × ℕ) (side width height : ℕ) → LiesInFrame s superblock side width height → IsBuiltSide side → HoldsInput (tile_state s superblock side width height)
  tile_holds_input superblock side width height lies built =
      input_holds superblock side width height (fits_y s superblock side width height lies built) (fits_u s superblock side width height lies built) (fits_v s superblock side width height lies built)

  -- the starting view of a tile of the frame's tiling
  module _ (t : TilingInfo) (blocks : List Block) (cols rows : ℕ) (tiling : IsTilingOf t s cols rows) (n : ℕ) (l : n < t.cols * t.rows) where
    -- The units of the view of each tile lie in the frame's tables of units.
    pub view_has_unit_places : HasUnitPlaces (view_of t s blocks n).ts
    view_has_unit_places = tile_has_unit_places (tile_superblock t n) t.sb_size_log2 (tile_luma t n).width (tile_luma t n).height

    -- The frame's input stores the rectangles of the samples of each tile's view.
    pub view_holds_input : HoldsInput (view_of t s blocks n).ts
    view_holds_input =
        input_holds (tile_superblock t n) t.sb_size_log2 (tile_luma t n).width (tile_luma t n).height
        (tile_fits_y t s blocks cols rows tiling n l) (tile_fits_u t s blocks cols rows tiling n l) (tile_fits_v t s blocks cols rows tiling n l)

    -- The blocks of the view of each tile lie in the frame's table of blocks.
    pub view_blocks_lie : LiesInSides (view_of t s blocks n).blocks.rect (block_columns t) (block_rows t)
    view_blocks_lie =
        let p = placed t s cols rows tiling n l in
        let x = (tile_superblock t n).0 * 16 in
        let y = (tile_superblock t n).1 * 16 in
        let rect : TileRect = record { x = x; y = y; width = min (t.tile_width_sb * 16) (block_columns t - x); height = min (t.tile_height_sb * 16) (block_rows t - y) } in
        subst (λ (r : TileRect). LiesInSides r (block_columns t) (block_rows t)) (blocks_are t n p.six rect refl refl refl refl)
        (record { across = omega (arith, p.across, tiling.wide); down = omega (arith, p.down, tiling.high) })

    -- The motion records of the view of each tile lie in the frame's tables of them.
    pub view_motion_lies : (i : ℕ) → i < 8 → (let state = (view_of t s blocks n).ts in LiesInSides (motion_part_at state.me_stats i).rect state.mi_cols state.mi_rows)
    view_motion_lies i below =
        let p = placed t s cols rows tiling n l in
        let superblock = tile_superblock t n in
        let luma = tile_luma t n in
        let rect = motion_rect superblock t.sb_size_log2 luma.width luma.height in
        let none : Rows MEStats = record { entries = []; cols = 0; rows = 0 } in
        let lies = subst (λ (w : ℕ). LiesInFrame s superblock t.sb_size_log2 w luma.height) (luma_width t n p.six)
        (subst (λ (h : ℕ). LiesInFrame s superblock t.sb_size_log2 (min (t.tile_width_sb * 64) (t.frame_width - superblock.0 * 64)) h) (luma_height t n p.six) p.lies) in
        let here = ap (λ (part : Part MEStats). part.rect) (get_or-map (λ (m : Rows MEStats). part_at m.entries m.cols rect) s.frame_me_stats i none no_part (omega (arith, below, made.motion.count))) in
        subst (λ (r : TileRect). LiesInSides r (s.rec.y.cfg.width / 4) (s.rec.y.cfg.height / 4)) (sym here)
        (subst (λ (k : ℕ). LiesInSides (motion_rect superblock k luma.width luma.height) (s.rec.y.cfg.width / 4) (s.rec.y.cfg.height / 4)) (sym p.six)
        (record { across = motion_across s superblock t.sb_size_log2 luma.width luma.height lies p.six; down = motion_down s superblock t.sb_size_log2 luma.width luma.height lies p.six }))

    -- a view that a coder made of the starting view of a tile
    module _ (w : View) (shape : SameShape (view_of t s blocks n) w) where
      -- The blocks of the view that a coder leaves lie in the frame's table of blocks.
      pub coded_blocks_lie : LiesInSides w.blocks.rect (block_columns t) (block_rows t)
      coded_blocks_lie = subst (λ (r : TileRect). LiesInSides r (block_columns t) (block_rows t)) (sym shape.blocks.rect) view_blocks_lie

      -- The motion records of the view that a coder leaves lie in the frame's tables of them.
      pub coded_motion_lies : (i : ℕ) → i < 8 → LiesInSides (motion_part_at w.ts.me_stats i).rect w.ts.mi_cols w.ts.mi_rows
      coded_motion_lies i below =
          let v = view_of t s blocks n in
          let rect = motion_stays_put i v w shape in
          subst (λ (r : TileRect). LiesInSides r w.ts.mi_cols w.ts.mi_rows) (sym rect)
          (subst (λ (cols : ℕ). LiesInSides (motion_part_at v.ts.me_stats i).rect cols w.ts.mi_rows) (sym shape.mi_cols)
          (subst (λ (rows : ℕ). LiesInSides (motion_part_at v.ts.me_stats i).rect v.ts.mi_cols rows) (sym shape.mi_rows) (view_motion_lies i below)))
