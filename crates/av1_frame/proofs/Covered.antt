-- The tiles of a frame cover its planes: where each tile's samples are in depth, so are the samples that they were coded
-- into.
use Rattle.std.proofs.Common.{◌≡◌, ℕ, ℤ, pos, ◌+◌, ◌-◌, ◌*◌, ◌/◌, ◌%◌, ◌^◌, ◌<◌, ◌≤◌, Bool, true, false, List, [], ◌∷◌, length, map, All, get_or, Option, Some, refl, sym, ap, ◌∙◌, subst, arith}
use Rattle.std.specs.Prelude.{slice_get, unwrap_or, ◌==◌, ◌||◌, if◌then◌else◌}
use Rattle.std.specs.List.{AllZip}
use Rattle.std.specs.Int.{div_ceil}
use Rattle.std.proofs.lemmas.Bool.Decides.{nat_tests}
use Rattle.std.proofs.lemmas.Grind.{div_ceil_times}
use Rattle.std.proofs.lemmas.Nat.{pow_pos, mod-mul-add, div-mul-add}
use Rattle.std.proofs.lemmas.Option.{unwrap_or-slice_get}
use Rattle.std.proofs.lemmas.List.{get_or-map, length-map}
use Rattle.std.proofs.lemmas.List.Elements.{AllZip-get_or, All-map}
use Rattle.std.proofs.lemmas.Slice.Zip.{AllZip-long}
use Rattle.av1_plane.specs.Numbers.{InDepth}
use Rattle.av1_plane.specs.Layout.{at, rounded, frame_layout}
use Rattle.av1_plane.specs.Area.{decimated_tile}
use Rattle.av1_plane.specs.declared.three.Three.{Three}
use Rattle.av1_plane.specs.declared.plane.PlaneConfig.{PlaneConfig}
use Rattle.av1_plane.specs.declared.sampling.ChromaSampling.{ChromaSampling}
use Rattle.av1_plane.specs.declared.sampling.ChromaSampling.TheVariants.{Cs420, Cs422, Cs444, Cs400}
use Rattle.av1_plane.specs.declared.tile_rect.TileRect.{TileRect}
use Rattle.av1_block.specs.declared.block.Block.{Block}
use Rattle.av1_block.specs.Cut.{IsInside}
use Rattle.av1_block.specs.Rows.{Rows}
use Rattle.av1_block.specs.Rule.{IsBlock}
use Rattle.av1_tiling.specs.Grid.{grid}
use Rattle.av1_tiling.specs.declared.tiling_info.TilingInfo.{TilingInfo}
use Rattle.av1_tiling.specs.TileRects.{superblock_side, superblock_columns, superblock_rows, tile_plane, tile_samples}
use Rattle.av1_tiling.specs.Views.{View, Part, PlaneView, SameShape, AreFull}
use Rattle.av1_tiling.specs.Frames.{Parameters, State, IsStateFor, IsTilingOf, is_422, IsInRange, PartFits, shifted_rect, no_rect, stored_rect, views, view_of}
use Rattle.av1_tiling.specs.Puts.{coded_tables}
use Rattle.av1_tiling.specs.Coded.{HasParts, IsCovered, entry_in, no_part, AreCoded, state_tables}
use Rattle.av1_tiling.proofs.Placed.{coded_have}
use Rattle.av1_tiling.proofs.Inside.{tiling_facts, grid_takes}
use Rattle.av1_tiling.proofs.LawProofs.{cuts_planes}
use Rattle.av1_tiling.proofs.ViewPlaces.{get_or-views_below, length-views}
use Rattle.av1_frame.specs.Coding.{inner_columns, inner_rows, decimations_of}
use Rattle.av1_frame.specs.Valid.{IsPartInDepth, AreInDepth, AreUnitParts}
use Rattle.av1_frame.specs.Reference.{CanRebuild}
use Rattle.av1_frame.proofs.Tiles.{tiles_lie, tiles_apart, tiles_each}
use Rattle.av1_frame.proofs.CoveredUnits.{frame_units_are}

-- each place inside a plane is a place of some part
abbrev pub AreCovering : PlaneConfig → List (Part ℤ) → Type 0
AreCovering cfg parts = (x y : ℕ) → x < cfg.width → y < cfg.height → (n : ℕ) × (n < length parts) × IsInside (get_or parts n no_part).rect (cfg.xorigin + x) (cfg.yorigin + y)

-- entries that are equal have equal numbers
same_number : (xs ys : List ℤ) (k j : ℕ) → slice_get xs k ≡ slice_get ys j → get_or xs k (pos 0) ≡ get_or ys j (pos 0)
same_number xs ys k j e =
    sym (unwrap_or-slice_get xs k (pos 0)) ∙ (ap (λ (o : Option ℤ). unwrap_or o (pos 0)) e ∙ unwrap_or-slice_get ys j (pos 0))

-- the samples of a plane that was coded by parts in depth are in depth
pub plane_in_range : (bound : ℕ) (cfg : PlaneConfig) (parts : List (Part ℤ)) (old new : List ℤ) → HasParts cfg.stride parts old new → cfg.xorigin + cfg.width ≤ cfg.stride
    → AreCovering cfg parts → All (IsPartInDepth bound cfg) parts → IsInRange bound (record { cfg = cfg; samples = new })
plane_in_range bound cfg parts old new has wide covering each x y lx ly =
    let place = covering x y lx ly in
    let n = place.0 in
    let part = get_or parts n no_part in
    let inside = place.2 in
    let left = inside.left in
    let right = inside.right in
    let top = inside.top in
    let bottom = inside.bottom in
    let u = cfg.xorigin + x in
    let v = cfg.yorigin + y in
    let k = v * cfg.stride + u in
    let less : u < cfg.stride = omega arith in
    let column : k % cfg.stride ≡ u = mod-mul-add v cfg.stride u less in
    let row : k / cfg.stride ≡ v = div-mul-add v cfg.stride u less in
    let covered : IsCovered cfg.stride k part = subst (λ c. IsInside part.rect c (k / cfg.stride)) (sym column) (subst (λ r. IsInside part.rect u r) (sym row) inside) in
    let entry : slice_get new k ≡ entry_in cfg.stride k part = has.inside k n no_part place.1 covered in
    let spot : slice_get new k ≡ slice_get part.entries ((v - part.rect.y) * part.rect.width + (u - part.rect.x)) =
    entry ∙ (λ i. slice_get part.entries ((row i - part.rect.y) * part.rect.width + (column i - part.rect.x))) in
    let columns : u - part.rect.x < inner_columns cfg part = omega arith in
    let rows : v - part.rect.y < inner_rows cfg part = omega arith in
    subst (InDepth bound) (sym (same_number new part.entries k ((v - part.rect.y) * part.rect.width + (u - part.rect.x)) spot))
    (each n no_part place.1 (u - part.rect.x) (v - part.rect.y) columns rows)

-- a plane is no larger than whole superblocks, and has its margins
pub record IsHeld (width height : ℕ) (cfg : PlaneConfig) : Type 0 where
  pub columns : cfg.width ≤ width / 2 ^ cfg.xdec
  pub rows : cfg.height ≤ height / 2 ^ cfg.ydec
  pub stride : cfg.xorigin + cfg.width ≤ cfg.stride
  pub xdec : cfg.xdec ≤ 1
  pub ydec : cfg.ydec ≤ 1

-- the superblocks that hold the rounded frame hold its luma plane
luma_held : (w h width height : ℕ) (sampling : ChromaSampling) → rounded w ≤ width → rounded h ≤ height → IsHeld width height (frame_layout w h sampling).y
luma_held w h width height sampling wide high = record { columns = omega arith; rows = omega arith; stride = omega arith; xdec = omega arith; ydec = omega arith }

-- The superblocks that hold the rounded frame hold its chroma planes.
chroma_held : (w h width height : ℕ) (sampling : ChromaSampling) → rounded w ≤ width → rounded h ≤ height → IsHeld width height (frame_layout w h sampling).u
chroma_held w h width height Cs420 wide high = record { columns = omega arith; rows = omega arith; stride = omega arith; xdec = omega arith; ydec = omega arith }
chroma_held w h width height Cs422 wide high = record { columns = omega arith; rows = omega arith; stride = omega arith; xdec = omega arith; ydec = omega arith }
chroma_held w h width height Cs444 wide high = record { columns = omega arith; rows = omega arith; stride = omega arith; xdec = omega arith; ydec = omega arith }
chroma_held w h width height Cs400 wide high = record { columns = omega arith; rows = omega arith; stride = omega arith; xdec = omega arith; ydec = omega arith }

-- a place of a plane's part is one of the stored part
stored_inside : (empty : Bool) (x y : ℕ) (rect : TileRect) (u v : ℕ) → empty ≡ false → IsInside rect u v → IsInside (if empty then no_rect else shifted_rect x y rect) (x + u) (y + v)
stored_inside true x y rect u v e h = absurd (let f : true ≡ false = e in cc)
stored_inside false x y rect u v e h =
    let left = h.left in let right = h.right in let top = h.top in let bottom = h.bottom in
    record { left = omega arith; right = omega arith; top = omega arith; bottom = omega arith }

-- A plane with a place inside it isn't empty.
some_place : (w h x y : ℕ) → x < w → y < h → ((w == 0) || (h == 0)) ≡ false
some_place w h x y lx ly = grind (arith, nat_tests)

module _ (t : TilingInfo) (s : State) (blocks : List Block) (cols rows : ℕ) (made : IsTilingOf t s cols rows)
    (after : List View) (shapes : AllZip SameShape (views t s blocks) after) where
  -- whole superblocks hold the frame
  frame_held : (rounded made.width ≤ superblock_columns t * superblock_side t) × (rounded made.height ≤ superblock_rows t * superblock_side t)
  frame_held =
      let taken = grid_takes made.width made.height made.num made.den made.target_cols made.target_rows (is_422 made.sampling) t
      (subst (λ (k : ℕ). grid k made.width made.height made.num made.den made.target_cols made.target_rows (is_422 made.sampling) ≡ Some t) made.built made.tiling) in (
        subst (λ n. n ≤ superblock_columns t * superblock_side t) taken.wide (div_ceil_times t.frame_width (superblock_side t) (pow_pos t.sb_size_log2)).0,
        subst (λ n. n ≤ superblock_rows t * superblock_side t) taken.high (div_ceil_times t.frame_height (superblock_side t) (pow_pos t.sb_size_log2)).0,
      )

  -- the superblocks hold the luma plane of a state
  y_held : IsHeld (superblock_columns t * superblock_side t) (superblock_rows t * superblock_side t) s.rec.y.cfg
  y_held = subst (IsHeld (superblock_columns t * superblock_side t) (superblock_rows t * superblock_side t)) (sym (ap (λ (l : Three PlaneConfig). l.y) made.layout))
      (luma_held made.width made.height (superblock_columns t * superblock_side t) (superblock_rows t * superblock_side t) made.sampling frame_held.0 frame_held.1)

  -- The superblocks hold the U plane of a state.
  u_held : IsHeld (superblock_columns t * superblock_side t) (superblock_rows t * superblock_side t) s.rec.u.cfg
  u_held = subst (IsHeld (superblock_columns t * superblock_side t) (superblock_rows t * superblock_side t)) (sym (ap (λ (l : Three PlaneConfig). l.u) made.layout))
      (chroma_held made.width made.height (superblock_columns t * superblock_side t) (superblock_rows t * superblock_side t) made.sampling frame_held.0 frame_held.1)

  -- The superblocks hold the V plane of a state.
  v_held : IsHeld (superblock_columns t * superblock_side t) (superblock_rows t * superblock_side t) s.rec.v.cfg
  v_held = subst (IsHeld (superblock_columns t * superblock_side t) (superblock_rows t * superblock_side t)) (sym (ap (λ (l : Three PlaneConfig). l.v) made.layout))
      (chroma_held made.width made.height (superblock_columns t * superblock_side t) (superblock_rows t * superblock_side t) made.sampling frame_held.0 frame_held.1)

  -- the part of a tile stays where it was cut out
  part_rect : (part : View → Part ℤ) (rect : ℕ → TileRect) → ((n : ℕ) → (part (view_of t s blocks n)).rect ≡ rect n) → ((v w : View) → SameShape v w → (part w).rect ≡ (part v).rect)
      → (n : ℕ) → n < t.cols * t.rows → (part (get_or after n (view_of t s blocks 0))).rect ≡ rect n
  part_rect part rect at same n l =
      let first = view_of t s blocks 0 in
      let tiles = length-views t s blocks in
      let shape = AllZip-get_or SameShape (views t s blocks) after n first first shapes (omega arith) in
      same (get_or (views t s blocks) n first) (get_or after n first) shape
      ∙ (ap (λ (v : View). (part v).rect) (get_or-views_below t s blocks (t.cols * t.rows) n first l) ∙ at n)

  -- the parts of all tiles cover a plane
  parts_cover : (part : View → Part ℤ) (cfg : PlaneConfig) → IsHeld (superblock_columns t * superblock_side t) (superblock_rows t * superblock_side t) cfg
      → ((n : ℕ) → n < t.cols * t.rows → (part (get_or after n (view_of t s blocks 0))).rect ≡ stored_rect cfg (tile_samples t n))
      → AreCovering cfg (map part after)
  parts_cover part cfg held rects x y lx ly =
      let facts = tiling_facts t s cols rows made in
      let columns = held.columns in
      let lines = held.rows in
      let place = (cuts_planes t facts cfg.xdec cfg.ydec held.xdec held.ydec).covered x y (omega arith) (omega arith) in
      let n = place.0 in
      let count = place.1 in
      let first = view_of t s blocks 0 in
      let long = AllZip-long SameShape (views t s blocks) after shapes in
      let tiles = length-views t s blocks in
      let all = length-map after part in
      let inside : IsInside (stored_rect cfg (tile_samples t n)) (cfg.xorigin + x) (cfg.yorigin + y) =
      stored_inside ((cfg.width == 0) || (cfg.height == 0)) cfg.xorigin cfg.yorigin (tile_plane t cfg.xdec cfg.ydec n) x y (some_place cfg.width cfg.height x y lx ly) place.2 in
      let rect : (get_or (map part after) n no_part).rect ≡ stored_rect cfg (tile_samples t n) =
      ap (λ (p : Part ℤ). p.rect) (get_or-map part after n first no_part (omega arith)) ∙ rects n count in
      (n, omega arith, subst (λ r. IsInside r (cfg.xorigin + x) (cfg.yorigin + y)) (sym rect) inside)

  -- each place inside the luma plane is a place of some tile's samples
  pub y_covered : AreCovering s.rec.y.cfg (map (λ v. v.ts.rec.y) after)
  y_covered = parts_cover (λ v. v.ts.rec.y) s.rec.y.cfg y_held (part_rect (λ v. v.ts.rec.y) (λ n. stored_rect s.rec.y.cfg (tile_samples t n)) (λ n. refl) (λ v w h. h.y.rect))

  -- The tiles cover the U plane of a state.
  pub u_covered : AreCovering s.rec.u.cfg (map (λ v. v.ts.rec.u) after)
  u_covered = parts_cover (λ v. v.ts.rec.u) s.rec.u.cfg u_held (part_rect (λ v. v.ts.rec.u) (λ n. stored_rect s.rec.u.cfg (tile_samples t n)) (λ n. refl) (λ v w h. h.u.rect))

  -- The tiles cover the V plane of a state.
  pub v_covered : AreCovering s.rec.v.cfg (map (λ v. v.ts.rec.v) after)
  v_covered = parts_cover (λ v. v.ts.rec.v) s.rec.v.cfg v_held (part_rect (λ v. v.ts.rec.v) (λ n. stored_rect s.rec.v.cfg (tile_samples t n)) (λ n. refl) (λ v w h. h.v.rect))

-- Coded tables of valid tiles can be filtered.

module _ (p : Parameters) (s : State) (b : Rows Block) (made : IsTilingOf p.sequence.tiling s b.cols b.rows) (state : IsStateFor p s)
    (whole : length b.entries ≡ b.cols * b.rows) (full : AreFull s.rec)
    (after : List View) (shapes : AllZip SameShape (views p.sequence.tiling s b.entries) after)
    (samples : All (λ v. AreInDepth p v.ts.rec) after)
    (bs : All (λ v. All (IsBlock (decimations_of p.sequence.chroma_sampling).0 (decimations_of p.sequence.chroma_sampling).1) v.blocks.entries) after)
    (us : All (λ v. AreUnitParts v.ts.units) after) where
  -- The tables with the views put back have each view's content.
  has : AreCoded after (state_tables s b) (coded_tables (state_tables s b) after)
  has = coded_have (state_tables s b) after
      (tiles_lie p.sequence.tiling s b.entries b.cols b.rows made whole full after shapes)
      (tiles_apart p.sequence.tiling s b.entries b.cols b.rows made whole full after shapes)

  -- The luma samples of the views are in depth.
  y_deep : All (IsPartInDepth (2 ^ p.sequence.bit_depth) s.rec.y.cfg) (map (λ v. v.ts.rec.y) after)
  y_deep = All-map (IsPartInDepth (2 ^ p.sequence.bit_depth) s.rec.y.cfg) (λ (v : View). v.ts.rec.y) after
      (λ k d l. subst (λ (cfg : PlaneConfig). IsPartInDepth (2 ^ p.sequence.bit_depth) cfg (get_or after k d).ts.rec.y) (sym (ap (λ (t : Three PlaneConfig). t.y) state.rec)) (samples k d l).y)

  -- The U samples of the views are in depth.
  u_deep : All (IsPartInDepth (2 ^ p.sequence.bit_depth) s.rec.u.cfg) (map (λ v. v.ts.rec.u) after)
  u_deep = All-map (IsPartInDepth (2 ^ p.sequence.bit_depth) s.rec.u.cfg) (λ (v : View). v.ts.rec.u) after
      (λ k d l. subst (λ (cfg : PlaneConfig). IsPartInDepth (2 ^ p.sequence.bit_depth) cfg (get_or after k d).ts.rec.u) (sym (ap (λ (t : Three PlaneConfig). t.u) state.rec)) (samples k d l).u)

  -- The V samples of the views are in depth.
  v_deep : All (IsPartInDepth (2 ^ p.sequence.bit_depth) s.rec.v.cfg) (map (λ v. v.ts.rec.v) after)
  v_deep = All-map (IsPartInDepth (2 ^ p.sequence.bit_depth) s.rec.v.cfg) (λ (v : View). v.ts.rec.v) after
      (λ k d l. subst (λ (cfg : PlaneConfig). IsPartInDepth (2 ^ p.sequence.bit_depth) cfg (get_or after k d).ts.rec.v) (sym (ap (λ (t : Three PlaneConfig). t.v) state.rec)) (samples k d l).v)

  -- The tables with the views put back can be filtered.
  pub can_rebuild : CanRebuild p (coded_tables (state_tables s b) after)
  can_rebuild =
      let t = p.sequence.tiling in
      let c = coded_tables (state_tables s b) after in
      record {
        y_range = plane_in_range (2 ^ p.sequence.bit_depth) s.rec.y.cfg (map (λ v. v.ts.rec.y) after) s.rec.y.samples c.rec.y.samples has.rec.y.samples (y_held t s b.entries b.cols b.rows made after shapes).stride (y_covered t s b.entries b.cols b.rows made after shapes) y_deep;
        u_range = plane_in_range (2 ^ p.sequence.bit_depth) s.rec.u.cfg (map (λ v. v.ts.rec.u) after) s.rec.u.samples c.rec.u.samples has.rec.u.samples (u_held t s b.entries b.cols b.rows made after shapes).stride (u_covered t s b.entries b.cols b.rows made after shapes) u_deep;
        v_range = plane_in_range (2 ^ p.sequence.bit_depth) s.rec.v.cfg (map (λ v. v.ts.rec.v) after) s.rec.v.samples c.rec.v.samples has.rec.v.samples (v_held t s b.entries b.cols b.rows made after shapes).stride (v_covered t s b.entries b.cols b.rows made after shapes) v_deep;
        blocks = tiles_each t s b.entries b.cols b.rows made whole full after shapes (IsBlock (decimations_of p.sequence.chroma_sampling).0 (decimations_of p.sequence.chroma_sampling).1) bs;
        units = frame_units_are t s b made whole full after shapes us;
      }
