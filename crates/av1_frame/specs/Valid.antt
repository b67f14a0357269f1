-- Which results of tiles can be framed and filtered.
use Rattle.std.specs.Prelude.{ℕ, ℤ, ◌^◌, ◌<◌, ◌≤◌, ◌≡◌, ◌↔◌, List, length, All, None, IsSomeAnd}
use Rattle.av1_plane.specs.Numbers.{InDepth}
use Rattle.av1_plane.specs.Layout.{frame_layout, at}
use Rattle.av1_plane.specs.declared.three.Three.{Three}
use Rattle.av1_plane.specs.declared.plane.PlaneConfig.{PlaneConfig}
use Rattle.av1_block.specs.Rule.{IsBlock}
use Rattle.av1_block.specs.declared.restoration_unit.RestorationUnit.{RestorationUnit}
use Rattle.av1_tiling.specs.Restoration.{IsUnit}
use Rattle.av1_tiling.specs.Views.{View, Part}
use Rattle.av1_tiling.specs.Frames.{Parameters}
use Rattle.av1_frame.specs.Coding.{Meaning, decimations_of, inner_columns, inner_rows, refusal}

-- the samples of a tile that lie inside a plane are below a bound
abbrev pub IsPartInDepth : ℕ → PlaneConfig → Part ℤ → Type 0
IsPartInDepth bound cfg part =
    (x y : ℕ) → x < inner_columns cfg part → y < inner_rows cfg part
    → InDepth bound (at part.entries part.rect.width x y)

-- the samples of a tile that lie inside the planes of its frame are below 2 ^ bit depth
pub record AreInDepth (p : Parameters) (parts : Three (Part ℤ)) : Type 0 where
  pub y : IsPartInDepth (2 ^ p.sequence.bit_depth) (frame_layout p.width p.height p.sequence.chroma_sampling).y parts.y
  pub u : IsPartInDepth (2 ^ p.sequence.bit_depth) (frame_layout p.width p.height p.sequence.chroma_sampling).u parts.u
  pub v : IsPartInDepth (2 ^ p.sequence.bit_depth) (frame_layout p.width p.height p.sequence.chroma_sampling).v parts.v

-- a bitstream can describe all units of a tile, in each of its planes
pub record AreUnitParts (parts : Three (Part RestorationUnit)) : Type 0 where
  pub y : All IsUnit parts.y.entries
  pub u : All IsUnit parts.u.entries
  pub v : All IsUnit parts.v.entries

-- a tile's bytes and the view that it leaves: 1 to 2^32 - 1 bytes, samples in depth, and each block and each restoration
-- unit as a bitstream describes one
pub record IsValidTile (p : Parameters) (tile : List ℕ × View) : Type 0 where
  pub some : 1 ≤ length tile.0
  pub few : length tile.0 < 2 ^ 32
  pub samples : AreInDepth p tile.1.ts.rec
  pub blocks : All (IsBlock (decimations_of p.sequence.chroma_sampling).0 (decimations_of p.sequence.chroma_sampling).1) tile.1.blocks.entries
  pub units : AreUnitParts tile.1.ts.units

-- a result of a valid tile, which isn't a refusal
abbrev pub IsValid : Parameters → Meaning → Type 0
IsValid p m = IsSomeAnd m (IsValidTile p)

-- a group isn't refused exactly where all its results are valid
abbrev pub RefusesInvalid : Type 0
RefusesInvalid = (p : Parameters) (results : List Meaning) → (refusal p results ≡ None) ↔ All (IsValid p) results
