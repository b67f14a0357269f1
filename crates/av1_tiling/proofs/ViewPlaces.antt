-- Where the views of a tiling lie: each in the frame's planes and tables, and no two with a place in common. What tiles
-- are coded into lies where the views did.
use Rattle.std.proofs.Common.{◌≡◌, ℕ, zero, suc, ℤ, ◌+◌, ◌-◌, ◌*◌, ◌<◌, ◌≤◌, min, inl, inr, Bool, true, false, List, [], ◌∷◌, length, map, get_or, All, refl, sym, ap, ◌∙◌, subst, length-append, arith}
use Rattle.std.specs.Prelude.{◌==◌, ◌||◌, if◌then◌else◌}
use Rattle.std.specs.List.{AllZip}
use Rattle.std.proofs.Math.ListN.{get_or-append, get_or-eq_default}
use Rattle.std.proofs.Math.Nat.{mul-le-mul_right, mul_comm}
use Rattle.std.proofs.lemmas.Bool.{cases_lt}
use Rattle.std.proofs.lemmas.List.{get_or-map, get_or-append_right, length-map}
use Rattle.std.proofs.lemmas.List.Elements.{All-head, All-tail, AllZip-get_or}
use Rattle.std.proofs.lemmas.Slice.Zip.{AllZip-long}
use Rattle.av1_plane.specs.Area.{decimated_tile}
use Rattle.av1_plane.specs.declared.frame.Frame.{Frame}
use Rattle.av1_plane.specs.declared.plane.Plane.{Plane}
use Rattle.av1_plane.specs.declared.plane.PlaneConfig.{PlaneConfig}
use Rattle.av1_plane.specs.declared.tile_rect.TileRect.{TileRect}
use Rattle.av1_block.specs.Cut.{LiesIn, IsInside, AreApart}
use Rattle.av1_block.specs.declared.block.Block.{Block}
use Rattle.av1_block.proofs.Cuts.{length-cut_of}
use Rattle.av1_block.specs.declared.me_stats.MEStats.{MEStats}
use Rattle.av1_block.specs.Rows.{Rows}
use Rattle.av1_tiling.specs.Coded.{IsTablePart, ArePartsApart, ViewLies, AreViewsApart, state_tables, motion_part, no_part}
use Rattle.av1_tiling.specs.Puts.{Tables}
use Rattle.av1_tiling.specs.Frames.{State, IsTilingOf, LiesInFrame, PartFits, shifted_rect, no_rect, stored_rect, plane_part, part_at, motion_parts, view_of, views, views_below, unit_part, AreTileUnits}
use Rattle.std.specs.Prelude.{◌^◌}
use Rattle.std.specs.Int.{div_ceil}
use Rattle.av1_tiling.specs.Restoration.{Units}
use Rattle.av1_tiling.proofs.UnitPlaces.{units_lie, unit_rect_is}
use Rattle.av1_tiling.specs.TileRects.{units_rect, tile_units, tile_superblock, tile_luma, tile_samples, tile_blocks, tile_motion, block_columns, block_rows}
use Rattle.av1_tiling.specs.Views.{Part, PlaneView, View, SameRect, SameShape, IsFull, IsFullTable, AreFull, view_plane, view_frame}
use Rattle.av1_tiling.specs.declared.tiling_info.TilingInfo.{TilingInfo}
use Rattle.av1_tiling.proofs.Fits.{fits_y, fits_u, fits_v}
use Rattle.av1_tiling.proofs.Inside.{Placed, placed, tiling_facts, luma_width, luma_height}
use Rattle.av1_tiling.proofs.LawProofs.{cuts_planes, cuts_blocks, cuts_motion, cuts_units, motion_is_blocks}
use Rattle.av1_tiling.proofs.Parts.{part_lies}
use Rattle.av1_tiling.proofs.TilingFacts.{IsTiling}

-- a place of a moved rectangle, moved back, lies in the rectangle
moved_back : (x y : ℕ) (r : TileRect) (u v : ℕ) → IsInside (shifted_rect x y r) u v → IsInside r (u - x) (v - y)
moved_back x y r u v h =
    let left = h.left in let right = h.right in let top = h.top in let bottom = h.bottom in
    record { left = omega arith; right = omega arith; top = omega arith; bottom = omega arith }

-- rectangles without a common place have none where they are stored
either_apart : (empty : Bool) (x y : ℕ) (a b : TileRect) → AreApart a b
    → AreApart (if empty then no_rect else shifted_rect x y a) (if empty then no_rect else shifted_rect x y b)
either_apart true x y a b apart u v p q = let l = p.right in omega arith
either_apart false x y a b apart u v p q = apart (u - x) (v - y) (moved_back x y a u v p) (moved_back x y b u v q)

-- Rectangles without a common place in a plane have none in its stored rows.
stored_apart : (cfg : PlaneConfig) (a b : TileRect) → AreApart (decimated_tile a cfg.xdec cfg.ydec) (decimated_tile b cfg.xdec cfg.ydec)
    → AreApart (stored_rect cfg a) (stored_rect cfg b)
stored_apart cfg a b apart = either_apart ((cfg.width == 0) || (cfg.height == 0)) cfg.xorigin cfg.yorigin (decimated_tile a cfg.xdec cfg.ydec) (decimated_tile b cfg.xdec cfg.ydec) apart

-- the parts that are cut out of motion tables belong to them
zip_parts : (rect : TileRect) (tables : List (Rows MEStats)) → All (λ m. IsTablePart (length m.entries) m.cols (part_at m.entries m.cols rect)) tables
    → AllZip (λ m part. IsTablePart (length m.entries) m.cols part) tables (motion_parts tables rect)
zip_parts rect [] each = tt
zip_parts rect (m ∷ tables) each = (
  All-head (λ t. IsTablePart (length t.entries) t.cols (part_at t.entries t.cols rect)) m tables each,
  zip_parts rect tables (All-tail (λ t. IsTablePart (length t.entries) t.cols (part_at t.entries t.cols rect)) m tables each),
)

-- each part of a motion table has the tile's rectangle
rect_at : (rect : TileRect) (tables : List (Rows MEStats)) (i : ℕ) → i < length tables → (get_or (motion_parts tables rect) i no_part).rect ≡ rect
rect_at rect [] i l = absurd (omega arith)
rect_at rect (m ∷ tables) zero l = refl
rect_at rect (m ∷ tables) (suc i) l = rect_at rect tables i (omega arith)

-- past the last table there is no part
no_rect_at : (parts : List (Part MEStats)) (i : ℕ) → length parts ≤ i → (get_or parts i no_part).rect ≡ no_rect
no_rect_at parts i l = ap (λ (p : Part MEStats). p.rect) (get_or-eq_default parts no_part l)

-- an empty rectangle has no place in common with another
none_apart : (a b : TileRect) → a ≡ no_rect → AreApart a b
none_apart a b e = subst (λ r. AreApart r b) (sym e) (λ u v p q. let l = p.right in omega arith)

-- parts of one table are apart where their rectangles are
motion_apart : (tables : List (Rows MEStats)) (a b : TileRect) (i : ℕ) → AreApart a b → AreApart (get_or (motion_parts tables a) i no_part).rect (get_or (motion_parts tables b) i no_part).rect
motion_apart tables a b i apart = elim (cases_lt i (length tables)) [
  | inl less ↦ subst (λ r. AreApart r (get_or (motion_parts tables b) i no_part).rect) (sym (rect_at a tables i less)) (subst (AreApart a) (sym (rect_at b tables i less)) apart)
  | inr past ↦ none_apart _ _ (no_rect_at (motion_parts tables a) i (omega (arith, length-map tables (λ t. part_at t.entries t.cols a))))
]

-- the first n tiles have n views
length-views_below : (t : TilingInfo) (s : State) (blocks : List Block) (n : ℕ) → length (views_below t s blocks n) ≡ n
unfolding views_below
length-views_below t s blocks zero = refl
length-views_below t s blocks (suc n) = length-append (views_below t s blocks n) (view_of t s blocks n ∷ []) ∙ omega (arith, length-views_below t s blocks n)

-- the view of each tile stands at the tile's number
pub get_or-views_below : (t : TilingInfo) (s : State) (blocks : List Block) (n k : ℕ) (d : View) → k < n → get_or (views_below t s blocks n) k d ≡ view_of t s blocks k
unfolding views_below
get_or-views_below t s blocks zero k d l = absurd (omega arith)
get_or-views_below t s blocks (suc n) k d l = elim (cases_lt k n) [
  | inl less ↦
      get_or-append (views_below t s blocks n) (view_of t s blocks n ∷ []) d k (omega (arith, length-views_below t s blocks n))
      ∙ get_or-views_below t s blocks n k d less
  | inr last ↦
      let same : k ≡ n = omega arith in
      let first : k - n ≡ 0 = omega arith in
      get_or-append_right (views_below t s blocks n) (view_of t s blocks n ∷ []) n k d (length-views_below t s blocks n) last
      ∙ (ap (λ (i : ℕ). get_or (view_of t s blocks n ∷ []) i d) first ∙ ap (λ (i : ℕ). view_of t s blocks i) (sym same))
]

-- A frame has as many views as tiles.
pub length-views : (t : TilingInfo) (s : State) (blocks : List Block) → length (views t s blocks) ≡ t.cols * t.rows
length-views t s blocks = length-views_below t s blocks (t.cols * t.rows)

-- what holds of each tile's view holds of all
pub all_views : (P : View → Type 0) (t : TilingInfo) (s : State) (blocks : List Block)
    → ((n : ℕ) → n < t.cols * t.rows → P (view_of t s blocks n)) → All P (views t s blocks)
all_views P t s blocks each k d l =
    let below : k < t.cols * t.rows = omega (arith, length-views t s blocks) in
    subst P (sym (get_or-views_below t s blocks (t.cols * t.rows) k d below)) (each k below)

-- parts of views have no place in common where the parts of any two tiles have none
apart_parts : {E : Type 0} (part : View → Part E) (t : TilingInfo) (s : State) (blocks : List Block)
    → ((m n : ℕ) → m < n → n < t.cols * t.rows → AreApart (part (view_of t s blocks m)).rect (part (view_of t s blocks n)).rect)
    → ArePartsApart (map part (views t s blocks))
apart_parts part t s blocks apart i j d l m =
    let count = t.cols * t.rows in
    let first = view_of t s blocks 0 in
    let long = length-views t s blocks in
    let all = length-map (views t s blocks) part in
    let below : j < count = omega arith in
    let at_i = get_or-map part (views t s blocks) i first d (omega arith) ∙ ap part (get_or-views_below t s blocks count i first (omega arith)) in
    let at_j = get_or-map part (views t s blocks) j first d (omega arith) ∙ ap part (get_or-views_below t s blocks count j first below) in
    subst (λ p. AreApart p.rect (get_or (map part (views t s blocks)) j d).rect) (sym at_i)
    (subst (λ p. AreApart (part (view_of t s blocks i)).rect p.rect) (sym at_j) (apart i j l below))

module _ (t : TilingInfo) (s : State) (blocks : List Block) (cols rows : ℕ) (made : IsTilingOf t s cols rows) where
  -- The tiling has what holds of every tiling.
  facts : IsTiling t
  facts = tiling_facts t s cols rows made

  module _ (n : ℕ) (l : n < t.cols * t.rows) where
    place : Placed t s cols rows n
    place = placed t s cols rows made n l

    lies : LiesInFrame s (tile_superblock t n) t.sb_size_log2 (tile_luma t n).width (tile_luma t n).height
    lies = subst (λ w. LiesInFrame s (tile_superblock t n) t.sb_size_log2 w (tile_luma t n).height) (luma_width t n place.six)
        (subst (λ h. LiesInFrame s (tile_superblock t n) t.sb_size_log2 (min (t.tile_width_sb * 64) (t.frame_width - (tile_superblock t n).0 * 64)) h) (luma_height t n place.six) place.lies)

    pub tile_fits_y : PartFits s.rec.y.cfg (tile_samples t n)
    tile_fits_y = fits_y s (tile_superblock t n) t.sb_size_log2 (tile_luma t n).width (tile_luma t n).height lies place.six

    pub tile_fits_u : PartFits s.rec.u.cfg (tile_samples t n)
    tile_fits_u = fits_u s (tile_superblock t n) t.sb_size_log2 (tile_luma t n).width (tile_luma t n).height lies place.six

    pub tile_fits_v : PartFits s.rec.v.cfg (tile_samples t n)
    tile_fits_v = fits_v s (tile_superblock t n) t.sb_size_log2 (tile_luma t n).width (tile_luma t n).height lies place.six

    -- a tile's part of a plane belongs to the plane
    pub plane_of : (p : PlaneView) → IsFull p → PartFits p.cfg (tile_samples t n) → IsTablePart (length p.samples) p.cfg.stride (plane_part p (tile_samples t n))
    plane_of p full fits =
        let rect = part_lies (length p.samples) p.cfg (tile_samples t n) fits full in
        record { lies = rect; table_cols = refl; whole = length-cut_of p.samples p.cfg.stride _ _ _ _ rect }

    -- a tile's part of a table with an entry for each block belongs to the table
    pub table_of : {E : Type 0} (table : List E) → length table ≡ cols * rows → IsTablePart (length table) cols (part_at table (block_columns t) (tile_blocks t n))
    table_of table full =
        let inside = (cuts_blocks t facts).inside n l in
        let across = inside.0 in
        let wide = made.wide in
        let high = made.high in
        let down : ((tile_blocks t n).y + (tile_blocks t n).height) * block_columns t ≤ block_rows t * block_columns t = mul-le-mul_right (block_columns t) inside.1 in
        let area : cols * rows ≡ block_rows t * block_columns t = rw (wide, high) (mul_comm (block_columns t) (block_rows t)) in
        let rect : LiesIn (length table) (block_columns t) (tile_blocks t n).x (tile_blocks t n).y (tile_blocks t n).width (tile_blocks t n).height = record { across = across; down = omega arith } in
        record { lies = rect; table_cols = sym wide; whole = length-cut_of table (block_columns t) _ _ _ _ rect }

    -- a tile's part of a table of motion records belongs to the table
    pub motion_of : (m : Rows MEStats) → IsFullTable m → (m.cols ≡ cols) × (m.rows ≡ rows) → IsTablePart (length m.entries) m.cols (part_at m.entries m.cols (tile_motion t n))
    motion_of m full sides =
        let wide : block_columns t ≡ m.cols = sym made.wide ∙ sym sides.0 in
        let long : length m.entries ≡ cols * rows = full ∙ (λ i. sides.0 i * sides.1 i) in
        subst (λ r. IsTablePart (length m.entries) m.cols (part_at m.entries m.cols r)) (sym (motion_is_blocks t facts n))
        (subst (λ c. IsTablePart (length m.entries) m.cols (part_at m.entries c (tile_blocks t n))) wide
        (subst (λ c. IsTablePart (length m.entries) c (part_at m.entries (block_columns t) (tile_blocks t n))) (sym sides.0) (table_of m.entries long)))

    -- the part of a plane's units belongs to them
    pub units_of : (u : Units) → AreTileUnits t u → IsTablePart (length u.entries) u.cols (unit_part u (tile_superblock t n) (div_ceil (tile_luma t n).width (2 ^ t.sb_size_log2), div_ceil (tile_luma t n).height (2 ^ t.sb_size_log2)))
    units_of u made_units =
        let rect = units_rect (tile_superblock t n) (div_ceil (tile_luma t n).width (2 ^ t.sb_size_log2), div_ceil (tile_luma t n).height (2 ^ t.sb_size_log2)) (u.cfg.sb_h_shift, u.cfg.sb_v_shift) (u.cols, u.rows) in
        let lies = units_lie u.cols u.rows (length u.entries) (tile_superblock t n) (div_ceil (tile_luma t n).width (2 ^ t.sb_size_log2), div_ceil (tile_luma t n).height (2 ^ t.sb_size_log2)) (u.cfg.sb_h_shift, u.cfg.sb_v_shift) made_units.units.whole in
        record { lies = lies; table_cols = refl; whole = length-cut_of u.entries u.cols _ _ _ _ lies }

    -- a view lies in the tables that it was cut from
    pub view_lies : AreFull s.rec → length blocks ≡ cols * rows → ViewLies (state_tables s (record { cols = cols; rows = rows; entries = blocks })) (view_of t s blocks n)
    view_lies full long = record {
      y = plane_of s.rec.y full.y tile_fits_y;
      u = plane_of s.rec.u full.u tile_fits_u;
      v = plane_of s.rec.v full.v tile_fits_v;
      motion = zip_parts (tile_motion t n) s.frame_me_stats (λ k d l. motion_of (get_or s.frame_me_stats k d) (made.motion.full k d l) (made.motion.sides k d l));
      y_units = units_of s.restoration.y made.y_units;
      u_units = units_of s.restoration.u made.u_units;
      v_units = units_of s.restoration.v made.v_units;
      blocks = table_of blocks long;
    }

  -- two tiles have no sample of a plane in common
  pub planes_apart : (cfg : PlaneConfig) (m n : ℕ) → PartFits cfg (tile_samples t n) → m < n → n < t.cols * t.rows → AreApart (stored_rect cfg (tile_samples t m)) (stored_rect cfg (tile_samples t n))
  planes_apart cfg m n fits l k = stored_apart cfg (tile_samples t m) (tile_samples t n) (λ u v p q.
      let same = (cuts_planes t facts cfg.xdec cfg.ydec fits.xdec fits.ydec).apart m n u v (omega arith) k p q in omega arith)

  -- two tiles have no block in common
  pub blocks_apart : (m n : ℕ) → m < n → n < t.cols * t.rows → AreApart (tile_blocks t m) (tile_blocks t n)
  blocks_apart m n l k u v p q = let same = (cuts_blocks t facts).apart m n u v (omega arith) k p q in omega arith

  -- two tiles have no motion record in common
  pub motions_apart : (m n : ℕ) → m < n → n < t.cols * t.rows → AreApart (tile_motion t m) (tile_motion t n)
  motions_apart m n l k u v p q = let same = (cuts_motion t facts).apart m n u v (omega arith) k p q in omega arith

  -- two tiles have no restoration unit of a plane in common
  pub units_apart : (u : Units) → AreTileUnits t u → (m n : ℕ) → m < n → n < t.cols * t.rows
      → AreApart (unit_part u (tile_superblock t m) (div_ceil (tile_luma t m).width (2 ^ t.sb_size_log2), div_ceil (tile_luma t m).height (2 ^ t.sb_size_log2))).rect
      (unit_part u (tile_superblock t n) (div_ceil (tile_luma t n).width (2 ^ t.sb_size_log2), div_ceil (tile_luma t n).height (2 ^ t.sb_size_log2))).rect
  units_apart u made_units m n l k =
      let rect_m = unit_rect_is t facts u m (omega arith) in
      let rect_n = unit_rect_is t facts u n k in
      subst (λ r. AreApart r (unit_part u (tile_superblock t n) (div_ceil (tile_luma t n).width (2 ^ t.sb_size_log2), div_ceil (tile_luma t n).height (2 ^ t.sb_size_log2))).rect) (sym rect_m)
      (subst (AreApart (tile_units t u.cfg.sb_h_shift u.cfg.sb_v_shift u.cols u.rows m)) (sym rect_n)
      (λ a b p q. let same = (cuts_units t facts u.cfg.sb_h_shift u.cfg.sb_v_shift u.cols u.rows made_units.across made_units.down).apart m n a b (omega arith) k p q in omega arith))

  -- no two views of a frame have a place in common
  pub views_apart : AreViewsApart (views t s blocks)
  views_apart = record {
    y = apart_parts (λ v. v.ts.rec.y) t s blocks (λ m n l k. planes_apart s.rec.y.cfg m n (tile_fits_y n k) l k);
    u = apart_parts (λ v. v.ts.rec.u) t s blocks (λ m n l k. planes_apart s.rec.u.cfg m n (tile_fits_u n k) l k);
    v = apart_parts (λ v. v.ts.rec.v) t s blocks (λ m n l k. planes_apart s.rec.v.cfg m n (tile_fits_v n k) l k);
    motion = λ i. apart_parts (motion_part i) t s blocks (λ m n l k. motion_apart s.frame_me_stats (tile_motion t m) (tile_motion t n) i (motions_apart m n l k));
    y_units = apart_parts (λ v. v.ts.units.y) t s blocks (units_apart s.restoration.y made.y_units);
    u_units = apart_parts (λ v. v.ts.units.u) t s blocks (units_apart s.restoration.u made.u_units);
    v_units = apart_parts (λ v. v.ts.units.v) t s blocks (units_apart s.restoration.v made.v_units);
    blocks = apart_parts (λ v. v.blocks) t s blocks blocks_apart;
  }

  -- each view of a frame belongs to the tables that it was cut from
  pub views_lie : AreFull s.rec → length blocks ≡ cols * rows → All (ViewLies (state_tables s (record { cols = cols; rows = rows; entries = blocks }))) (views t s blocks)
  views_lie full long = all_views (ViewLies (state_tables s (record { cols = cols; rows = rows; entries = blocks }))) t s blocks (λ n l. view_lies n l full long)

-- a part that keeps its rectangle belongs to the table that it belonged to
same_part : {E : Type 0} (n cols : ℕ) (a b : Part E) → SameRect a b → IsTablePart n cols a → IsTablePart n cols b
same_part n cols a b same of = record {
  lies = rw (same.rect, same.table_cols) of.lies;
  table_cols = same.table_cols ∙ of.table_cols;
  whole = same.length ∙ (of.whole ∙ ap (λ (r : TileRect). r.height * r.width) (sym same.rect));
}

-- the motion parts of a view that keeps its rectangles belong to their tables
same_motion : (tables : List (Rows MEStats)) (before after : List (Part MEStats)) → AllZip SameRect before after
    → AllZip (λ m part. IsTablePart (length m.entries) m.cols part) tables before → AllZip (λ m part. IsTablePart (length m.entries) m.cols part) tables after
same_motion [] [] [] same of = tt
same_motion [] [] (b ∷ after) same of = absurd same
same_motion [] (a ∷ before) after same of = absurd of
same_motion (m ∷ tables) [] after same of = absurd of
same_motion (m ∷ tables) (a ∷ before) [] same of = absurd same
same_motion (m ∷ tables) (a ∷ before) (b ∷ after) same of = (same_part (length m.entries) m.cols a b same.0 of.0, same_motion tables before after same.1 of.1)

-- A view that keeps the rectangles of another belongs to the tables that the other belongs to.
pub coded_lies : (tables : Tables) (v w : View) → SameShape v w → ViewLies tables v → ViewLies tables w
coded_lies tables v w shape l = record {
  y = same_part (length tables.rec.y.samples) tables.rec.y.cfg.stride v.ts.rec.y w.ts.rec.y shape.y l.y;
  u = same_part (length tables.rec.u.samples) tables.rec.u.cfg.stride v.ts.rec.u w.ts.rec.u shape.u l.u;
  v = same_part (length tables.rec.v.samples) tables.rec.v.cfg.stride v.ts.rec.v w.ts.rec.v shape.v l.v;
  motion = same_motion tables.motion v.ts.me_stats w.ts.me_stats shape.motion l.motion;
  y_units = same_part (length tables.units.y.entries) tables.units.y.cols v.ts.units.y w.ts.units.y shape.y_units l.y_units;
  u_units = same_part (length tables.units.u.entries) tables.units.u.cols v.ts.units.u w.ts.units.u shape.u_units l.u_units;
  v_units = same_part (length tables.units.v.entries) tables.units.v.cols v.ts.units.v w.ts.units.v shape.v_units l.v_units;
  blocks = same_part (length tables.blocks.entries) tables.blocks.cols v.blocks w.blocks shape.blocks l.blocks;
}

-- A view that keeps its rectangles keeps the rectangle of each motion part.
pub motion_stays_put : (i : ℕ) (v w : View) → SameShape v w → (motion_part i w).rect ≡ (motion_part i v).rect
motion_stays_put i v w shape = elim (cases_lt i (length v.ts.me_stats)) [
  | inl less ↦ (AllZip-get_or SameRect v.ts.me_stats w.ts.me_stats i no_part no_part shape.motion less).rect
  | inr past ↦
      no_rect_at w.ts.me_stats i (omega (arith, AllZip-long SameRect v.ts.me_stats w.ts.me_stats shape.motion))
      ∙ sym (no_rect_at v.ts.me_stats i past)
]

-- the parts of views that keep their rectangles have the rectangles that they had
rects_stay : {E : Type 0} (part : View → Part E) → ((v w : View) → SameShape v w → (part w).rect ≡ (part v).rect) → (before after : List View) → AllZip SameShape before after
    → (k : ℕ) (d : Part E) → k < length before → (get_or (map part after) k d).rect ≡ (get_or (map part before) k d).rect
rects_stay part same [] after shapes k d l = absurd (omega arith)
rects_stay part same (v ∷ before) [] shapes k d l = absurd shapes
rects_stay part same (v ∷ before) (w ∷ after) shapes zero d l = same v w shapes.0
rects_stay part same (v ∷ before) (w ∷ after) shapes (suc k) d l = rects_stay part same before after shapes.1 k d (omega arith)

-- Coded views, which keep the rectangles of the starting views.
module _ (before after : List View) (shapes : AllZip SameShape before after) where
  -- The views that the coder leaves belong to the tables that the starting views belong to.
  pub coded_lie : (tables : Tables) → All (ViewLies tables) before → All (ViewLies tables) after
  coded_lie tables each k d l =
      let long = AllZip-long SameShape before after shapes in
      let below : k < length before = omega arith in
      coded_lies tables (get_or before k d) (get_or after k d) (AllZip-get_or SameShape before after k d d shapes below) (each k d below)

  -- parts without a common place have none where the views keep their rectangles
  parts_stay_apart : {E : Type 0} (part : View → Part E) → ((v w : View) → SameShape v w → (part w).rect ≡ (part v).rect) → ArePartsApart (map part before) → ArePartsApart (map part after)
  parts_stay_apart part same apart i j d l m =
      let long = AllZip-long SameShape before after shapes in
      let all = length-map after part in
      let all' = length-map before part in
      subst (λ r. AreApart r (get_or (map part after) j d).rect) (sym (rects_stay part same before after shapes i d (omega arith)))
      (subst (λ r. AreApart (get_or (map part before) i d).rect r) (sym (rects_stay part same before after shapes j d (omega arith))) (apart i j d l (omega arith)))

  -- The views that the coder leaves have no place in common.
  pub coded_apart : AreViewsApart before → AreViewsApart after
  coded_apart apart = record {
    y = parts_stay_apart (λ v. v.ts.rec.y) (λ v w s. s.y.rect) apart.y;
    u = parts_stay_apart (λ v. v.ts.rec.u) (λ v w s. s.u.rect) apart.u;
    v = parts_stay_apart (λ v. v.ts.rec.v) (λ v w s. s.v.rect) apart.v;
    motion = λ i. parts_stay_apart (motion_part i) (motion_stays_put i) (apart.motion i);
    y_units = parts_stay_apart (λ v. v.ts.units.y) (λ v w s. s.y_units.rect) apart.y_units;
    u_units = parts_stay_apart (λ v. v.ts.units.u) (λ v w s. s.u_units.rect) apart.u_units;
    v_units = parts_stay_apart (λ v. v.ts.units.v) (λ v w s. s.v_units.rect) apart.v_units;
    blocks = parts_stay_apart (λ v. v.blocks) (λ v w s. s.blocks.rect) apart.blocks;
  }

-- a plane's samples are as many as its layout says
full_plane : {X : Type 0} (number : X → ℤ) (p : Plane X) → IsFull (view_plane number p)
full_plane number p = length-map p.samples.items number ∙ p.stored

-- each plane of a frame has as many samples as its layout says
pub full_frame : {X : Type 0} (number : X → ℤ) (f : Frame X) → AreFull (view_frame number f)
full_frame number f = record { y = full_plane number f.planes.y; u = full_plane number f.planes.u; v = full_plane number f.planes.v }
