-- The samples of a tile's view lie in the stored rows of each plane: a plane's margin is wider than what rounding a
-- tile up to whole superblocks adds.
use Rattle.std.proofs.Common.{ℕ, Bool, All, true, false, ◌+◌, ◌*◌, ◌/◌, ◌^◌, ◌<◌, ◌≤◌, arith, ap, sym, subst}
use Rattle.std.specs.Prelude.{◌==◌, ◌||◌, if◌then◌else◌}
use Rattle.std.proofs.lemmas.Grind.{div_ceil_times}
use Rattle.av1_plane.specs.Layout.{frame_layout, rounded}
use Rattle.av1_plane.specs.declared.plane.PlaneConfig.{PlaneConfig}
use Rattle.av1_plane.specs.declared.sampling.ChromaSampling.{ChromaSampling}
use Rattle.av1_plane.specs.declared.sampling.ChromaSampling.TheVariants.{Cs420, Cs422, Cs444, Cs400}
use Rattle.av1_plane.specs.declared.tile_rect.TileRect.{TileRect}
use Rattle.av1_tiling.specs.Grid.{round_up, IsBuiltSide}
use Rattle.av1_tiling.specs.TileRects.{samples_rect, motion_rect}
use Rattle.av1_tiling.specs.Frames.{State, AreMotionTables, PartFits, LiesInFrame, HoldsRect, no_rect}
use Rattle.av1_plane.specs.declared.three.Three.{Three}

-- rounding up to superblocks adds less than one
rounds : (n : ℕ) → (n ≤ round_up n 64) × (round_up n 64 < n + 64)
rounds n = div_ceil_times n 64 (omega arith)

-- a rectangle fits a plane that isn't empty, and an empty plane has none of it
either_fits : (b : Bool) (r : TileRect) (stride rows : ℕ) → r.x + r.width ≤ stride → r.y + r.height ≤ rows
    → ((if b then no_rect else r).x + (if b then no_rect else r).width ≤ stride) × ((if b then no_rect else r).y + (if b then no_rect else r).height ≤ rows)
either_fits true r stride rows h k = (omega arith, omega arith)
either_fits false r stride rows h k = (h, k)

-- a plane whose margins hold the rest of a superblock
plane_fits : (cfg : PlaneConfig) (luma : TileRect) → cfg.xdec ≤ 1 → cfg.ydec ≤ 1 → cfg.xorigin + luma.x < 2 ^ 32 → cfg.yorigin + luma.y < 2 ^ 32
    → cfg.xorigin + luma.x / 2 ^ cfg.xdec + luma.width / 2 ^ cfg.xdec ≤ cfg.stride
    → cfg.yorigin + luma.y / 2 ^ cfg.ydec + luma.height / 2 ^ cfg.ydec ≤ cfg.alloc_height
    → PartFits cfg luma
plane_fits cfg luma a b d e h k =
    let fits = either_fits ((cfg.width == 0) || (cfg.height == 0)) (record { x = cfg.xorigin + luma.x / 2 ^ cfg.xdec; y = cfg.yorigin + luma.y / 2 ^ cfg.ydec; width = luma.width / 2 ^ cfg.xdec; height = luma.height / 2 ^ cfg.ydec }) cfg.stride cfg.alloc_height h k in
    record { columns = fits.0; rows = fits.1; xdec = a; ydec = b; x = d; y = e }

-- a luma plane has room for a tile's whole superblocks in its margin
whole_axis : (side x n : ℕ) → x * 64 + n ≤ side → 88 + x * 64 / 1 + round_up n 64 / 1 ≤ side + 2 * 88
whole_axis side x n h = omega (arith, (rounds n).1)

-- A halved plane has room for a tile's whole superblocks in its margin.
half_axis : (side x n : ℕ) → x * 64 + n ≤ side → 44 + x * 64 / 2 + round_up n 64 / 2 ≤ side / 2 + 2 * 44
half_axis side x n h = omega (arith, (rounds n).1)

-- A chroma plane that isn't halved has room for a tile's whole superblocks in its margin.
whole_chroma_axis : (side x n : ℕ) → x * 64 + n ≤ side → 88 / 1 + x * 64 / 1 + round_up n 64 / 1 ≤ side / 1 + 2 * (88 / 1)
whole_chroma_axis side x n h = omega (arith, (rounds n).1)

module _ (w h x y width height : ℕ) (wide : x * 64 + width ≤ rounded w) (high : y * 64 + height ≤ rounded h) (few : w ≤ 65536) (low : h ≤ 65536) where
  -- The tile begins at a column below 2^31.
  columns : x * 64 < 2 ^ 31
  columns = omega arith

  -- The tile begins at a row below 2^31.
  rows : y * 64 < 2 ^ 31
  rows = omega arith

  -- The luma samples of a tile's view are stored.
  pub luma_fits : (sampling : ChromaSampling) → PartFits (frame_layout w h sampling).y (samples_rect (x, y) 6 width height)
  luma_fits sampling =
      plane_fits (frame_layout w h sampling).y (samples_rect (x, y) 6 width height) (omega arith) (omega arith) (omega (arith, columns)) (omega (arith, rows)) (whole_axis (rounded w) x width wide) (whole_axis (rounded h) y height high)

  -- The chroma samples of a tile's view are stored.
  pub chroma_fits : (sampling : ChromaSampling) → PartFits (frame_layout w h sampling).u (samples_rect (x, y) 6 width height)
  chroma_fits Cs420 = plane_fits (frame_layout w h Cs420).u (samples_rect (x, y) 6 width height) (omega arith) (omega arith) (omega (arith, columns)) (omega (arith, rows)) (half_axis (rounded w) x width wide) (half_axis (rounded h) y height high)
  chroma_fits Cs422 = plane_fits (frame_layout w h Cs422).u (samples_rect (x, y) 6 width height) (omega arith) (omega arith) (omega (arith, columns)) (omega (arith, rows)) (half_axis (rounded w) x width wide) (whole_chroma_axis (rounded h) y height high)
  chroma_fits Cs444 = plane_fits (frame_layout w h Cs444).u (samples_rect (x, y) 6 width height) (omega arith) (omega arith) (omega (arith, columns)) (omega (arith, rows)) (whole_chroma_axis (rounded w) x width wide) (whole_chroma_axis (rounded h) y height high)
  chroma_fits Cs400 = record { columns = omega arith; rows = omega arith; xdec = omega arith; ydec = omega arith; x = omega (arith, columns); y = omega (arith, rows) }

-- the parts of a tile that lies in a frame
module _ (state : State) (superblock : ℕ × ℕ) (s width height : ℕ) (lies : LiesInFrame state superblock s width height) (built : IsBuiltSide s) where
  -- the tile lies in its frame where superblocks have 64 samples
  lies_64 : LiesInFrame state superblock 6 width height
  lies_64 = subst (λ k. LiesInFrame state superblock k width height) built lies

  -- a rectangle that fits with superblocks of 64 samples fits with the frame's superblocks
  with_side : (cfg : PlaneConfig) → PartFits cfg (samples_rect superblock 6 width height) → PartFits cfg (samples_rect superblock s width height)
  with_side cfg fits = subst (λ k. PartFits cfg (samples_rect superblock k width height)) (sym built) fits

  -- The luma samples of a tile's view are stored in the state's reconstruction.
  pub fits_y : PartFits state.rec.y.cfg (samples_rect superblock s width height)
  fits_y = with_side state.rec.y.cfg (subst (λ cfg. PartFits cfg (samples_rect superblock 6 width height)) (sym (ap (λ t. t.y) lies_64.layout))
      (luma_fits lies_64.frame_width lies_64.frame_height superblock.0 superblock.1 width height lies_64.wide lies_64.high lies_64.width_limit lies_64.height_limit lies_64.sampling))

  -- The U samples of a tile's view are stored in the state's reconstruction.
  pub fits_u : PartFits state.rec.u.cfg (samples_rect superblock s width height)
  fits_u = with_side state.rec.u.cfg (subst (λ cfg. PartFits cfg (samples_rect superblock 6 width height)) (sym (ap (λ t. t.u) lies_64.layout))
      (chroma_fits lies_64.frame_width lies_64.frame_height superblock.0 superblock.1 width height lies_64.wide lies_64.high lies_64.width_limit lies_64.height_limit lies_64.sampling))

  -- The V samples of a tile's view are stored in the state's reconstruction.
  pub fits_v : PartFits state.rec.v.cfg (samples_rect superblock s width height)
  fits_v = with_side state.rec.v.cfg (subst (λ cfg. PartFits cfg (samples_rect superblock 6 width height)) (sym (ap (λ t. t.v) lies_64.layout))
      (chroma_fits lies_64.frame_width lies_64.frame_height superblock.0 superblock.1 width height lies_64.wide lies_64.high lies_64.width_limit lies_64.height_limit lies_64.sampling))

  -- the code's products and sums stay small
  pub small_x : superblock.0 < 2 ^ 20
  small_x = let w = lies_64.wide in let l = lies_64.width_limit in omega arith

  -- A tile's first superblock has a row below 2^20.
  pub small_y : superblock.1 < 2 ^ 20
  small_y = let w = lies_64.high in let l = lies_64.height_limit in omega arith

  -- A tile's width is below 2^20.
  pub small_width : width < 2 ^ 20
  small_width = let w = lies_64.wide in let l = lies_64.width_limit in omega arith

  -- A tile's height is below 2^20.
  pub small_height : height < 2 ^ 20
  small_height = let w = lies_64.high in let l = lies_64.height_limit in omega arith

  -- the tile's motion records lie in each table
  pub motion_fits : All (HoldsRect (motion_rect superblock s width height)) state.frame_me_stats
  motion_fits = subst (λ k. All (HoldsRect (motion_rect superblock k width height)) state.frame_me_stats) (sym built)
      (λ i d l.
      let sides = lies_64.motion.sides i d l in
      let cols = sides.0 in
      let rows = sides.1 in
      let wide = lies_64.wide in
      let high = lies_64.high in
      record { across = omega arith; down = omega arith })

  -- the sides of the tables of motion records are those of the luma plane
  luma_layout : (P : PlaneConfig → Type 0) → P (frame_layout lies_64.frame_width lies_64.frame_height lies_64.sampling).y → P state.rec.y.cfg
  luma_layout P holds = subst P (sym (ap (λ (t : Three PlaneConfig). t.y) lies_64.layout)) holds

  pub motion_sides : AreMotionTables (state.rec.y.cfg.width / 4) (state.rec.y.cfg.height / 4) state.frame_me_stats
  motion_sides = luma_layout (λ cfg. AreMotionTables (cfg.width / 4) (cfg.height / 4) state.frame_me_stats) lies_64.motion

  -- the tile's motion records lie in tables of these sides
  pub motion_across : (motion_rect superblock 6 width height).x + (motion_rect superblock 6 width height).width ≤ state.rec.y.cfg.width / 4
  motion_across = luma_layout (λ cfg. (motion_rect superblock 6 width height).x + (motion_rect superblock 6 width height).width ≤ cfg.width / 4) (let wide = lies_64.wide in omega arith)

  pub motion_down : (motion_rect superblock 6 width height).y + (motion_rect superblock 6 width height).height ≤ state.rec.y.cfg.height / 4
  motion_down = luma_layout (λ cfg. (motion_rect superblock 6 width height).y + (motion_rect superblock 6 width height).height ≤ cfg.height / 4) (let high = lies_64.high in omega arith)

pub ruleset fits = (fits_y, fits_u, fits_v, small_x, small_y, small_width, small_height)
