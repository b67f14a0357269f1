-- Levels of least error.
use Rattle.std.specs.Prelude.{ℕ, ℤ, pos, ◌<◌, ◌+◌, ◌≡◌, Bool, true, false, List, [], ◌∷◌, length, ◌+ℤ◌, ◌≤ℤ◌, ◌<ℤ◌}
use Rattle.std.specs.List.{slice_index_or}
use Rattle.av1_plane.specs.declared.region.PlaneRegion.{PlaneRegion}
use Rattle.av1_plane.specs.declared.three.Three.{Three}
use Rattle.av1_plane.specs.declared.tile.Tile.{Tile}
use Rattle.av1_tiling.specs.declared.frame_invariants.FrameType.{FrameType}
use Rattle.av1_tiling.specs.declared.frame_invariants.FrameType.TheVariants.{KEY, INTER, INTRA_ONLY, SWITCH}
use Rattle.av1_tiling.specs.Frames.{Parameters}
use Rattle.av1_deblock.specs.Levels.{fast_level_of}
use Rattle.av1_deblock.specs.Edges.{BlockTable}
use Rattle.av1_deblock.specs.Passes.{FramePlane, frame_plane}
use Rattle.av1_deblock.specs.Conditions.{IsDecimated, ShowsRounded, ShowsDepth}
use Rattle.av1_deblock.specs.Frames.{FrameShape}
use Rattle.av1_deblock.specs.Errors.{running, Compared, compared, plane_error, IsLowestLeast}

-- what the errors of a plane of a frame are measured on
pub record Measured : Type 0 where
  pub plane : FramePlane
  pub pictures : Compared

-- a coded region and its source, as plane `pli` of a frame of these sides
abbrev pub measured : {X : Type 0} → ℕ → (X → ℤ) → FramePlane → PlaneRegion X → PlaneRegion X → Measured
measured bd number p rec_region src_region = record { plane = p; pictures = compared bd number rec_region src_region }

-- the error of the edges of one direction at a level
abbrev pub error_at : BlockTable → Measured → Bool → ℕ → ℕ
error_at t m vertical level = plane_error m.plane t m.pictures vertical level

-- the error of the edges of both directions at a level
abbrev pub error_of_both : BlockTable → Measured → ℕ → ℕ
error_of_both t m level = error_at t m true level + error_at t m false level

-- entries whose sums up to each level are from 0 to 2^60
pub record HasSums (entries : List ℤ) : Type 0 where
  pub long : length entries ≡ 65
  pub low : (level : ℕ) → level < 64 → pos 0 ≤ℤ running entries level
  pub high : (level : ℕ) → level < 64 → running entries level ≤ℤ pos 1152921504606846976

-- the sums of two tallies at a level, added
abbrev pub total : List ℤ → List ℤ → ℕ → ℤ
total first second level = running first level +ℤ running second level

-- the lowest level below n at which two tallies have the least sum
pub record IsLowestSum (first second : List ℤ) (n best : ℕ) : Type 0 where
  pub inside : best < n
  pub least : (m : ℕ) → m < n → total first second best ≤ℤ total first second m
  pub lowest : (m : ℕ) → m < best → total first second best <ℤ total first second m

-- level i of a list of levels
abbrev pub level_of : List ℕ → ℕ → ℕ
level_of levels i = slice_index_or levels i 0

-- the levels of least error of a frame: luma by direction, chroma by the sum of both
pub record AreBest (t : BlockTable) (m : Three Measured) (levels : List ℕ) : Type 0 where
  pub vertical : IsLowestLeast (error_at t m.y true) 64 (level_of levels 0)
  pub horizontal : IsLowestLeast (error_at t m.y false) 64 (level_of levels 1)
  pub u : IsLowestLeast (error_of_both t m.u) 64 (level_of levels 2)
  pub v : IsLowestLeast (error_of_both t m.v) 64 (level_of levels 3)

-- whether a frame is a key frame
abbrev pub is_key : FrameType → Bool
is_key KEY = true
is_key INTER = false
is_key INTRA_ONLY = false
is_key SWITCH = false

-- the level guessed from a frame's quantiser
abbrev pub guessed_level : Parameters → ℕ
guessed_level p = fast_level_of p.ac_quantizer p.sequence.bit_depth (is_key p.frame_type)

-- the levels of a frame: four times the guessed one where the frame asks for it, else the best ones
pub record AreLevels (p : Parameters) (t : BlockTable) (m : Three Measured) (levels : List ℕ) : Type 0 where
  pub fast : p.fast_deblock ≡ true → (let level = guessed_level p in levels ≡ level ∷ level ∷ level ∷ level ∷ [])
  pub best : p.fast_deblock ≡ false → AreBest t m levels

-- plane `pli` of a coded frame and of its source: both regions show the plane's rounded part, in depth
pub record CanTally {X : Type 0} (number : X → ℤ) (f : FrameShape) (pli : ℕ) (rec src : PlaneRegion X) : Type 0 where
  pub decimated : IsDecimated pli rec.plane_cfg.now
  pub rec_region : ShowsRounded rec.plane_cfg.now f.crop_w f.crop_h rec
  pub src_region : ShowsRounded rec.plane_cfg.now f.crop_w f.crop_h src
  pub rec_range : ShowsDepth f.depth rec.plane_cfg.now f.crop_w f.crop_h number rec
  pub src_range : ShowsDepth f.depth rec.plane_cfg.now f.crop_w f.crop_h number src

-- plane `pli` of a coded frame and of its source
abbrev pub measured_plane : {X : Type 0} → (X → ℤ) → FrameShape → ℕ → PlaneRegion X → PlaneRegion X → Measured
measured_plane number f pli rec_region src_region =
    measured f.depth number (frame_plane pli rec_region.plane_cfg.now f.crop_w f.crop_h) rec_region src_region

-- a coded frame and its source, plane by plane
abbrev pub measured_frame : {X : Type 0} → (X → ℤ) → FrameShape → Tile X → Tile X → Three Measured
measured_frame number f rec_tile input = record {
  y = measured_plane number f 0 rec_tile.planes.y input.planes.y;
  u = measured_plane number f 1 rec_tile.planes.u input.planes.u;
  v = measured_plane number f 2 rec_tile.planes.v input.planes.v;
}
