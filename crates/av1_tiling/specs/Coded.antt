-- What tables and planes hold once the results of several tiles were put into them, said place by place: inside a tile's
-- rectangle its entry, elsewhere what stood there.
use Rattle.std.specs.Prelude.{ℕ, ℤ, ◌-◌, ◌+◌, ◌*◌, ◌/◌, ◌%◌, ◌<◌, ◌≡◌, List, [], map, length, All, AllPairs, Option, slice_get}
use Rattle.av1_plane.specs.declared.three.Three.{Three}
use Rattle.std.specs.List.{AllZip, slice_index_or}
use Rattle.av1_block.specs.declared.block.Block.{Block}
use Rattle.av1_block.specs.declared.me_stats.MEStats.{MEStats}
use Rattle.av1_block.specs.declared.restoration_unit.RestorationUnit.{RestorationUnit}
use Rattle.av1_tiling.specs.Restoration.{Units}
use Rattle.av1_block.specs.Cut.{IsInside, AreApart}
use Rattle.av1_block.specs.Rows.{Rows}
use Rattle.av1_tiling.specs.Views.{View, Part, PlaneView}
use Rattle.av1_tiling.specs.Frames.{State, no_rect}
use Rattle.av1_tiling.specs.Puts.{Tables, PartLies}

-- entry k of a table with `cols` columns stands in a part's rectangle
abbrev pub IsCovered : {E : Type 0} → (cols k : ℕ) → Part E → Type 0
IsCovered cols k part = IsInside part.rect (k % cols) (k / cols)

-- the entry that a part has for place k of a table with `cols` columns
abbrev pub entry_in : {E : Type 0} → (cols k : ℕ) → Part E → Option E
entry_in cols k part = slice_get part.entries ((k / cols - part.rect.y) * part.rect.width + (k % cols - part.rect.x))

-- new has each part's entries inside the part's rectangle, and elsewhere the entries of old
pub record HasParts {E : Type 0} (cols : ℕ) (parts : List (Part E)) (old new : List E) : Type 0 where
  pub length : length new ≡ length old
  pub inside : (k : ℕ) → All (λ part. IsCovered cols k part → slice_get new k ≡ entry_in cols k part) parts
  pub elsewhere : (k : ℕ) → All (λ part. ¬ IsCovered cols k part) parts → slice_get new k ≡ slice_get old k

-- a part of a table of n entries with `cols` columns, with an entry for each of its places
pub record IsTablePart {E : Type 0} (n cols : ℕ) (part : Part E) : Type 0 where
  pub lies : PartLies n part
  pub table_cols : part.table_cols ≡ cols
  pub whole : length part.entries ≡ part.rect.height * part.rect.width

-- no two parts have a place in common
abbrev pub ArePartsApart : {E : Type 0} → List (Part E) → Type 0
ArePartsApart parts = AllPairs (λ one other. AreApart one.rect other.rect) parts

-- the tables of a state and of its blocks
abbrev pub state_tables : State → Rows Block → Tables
state_tables s blocks = record { rec = s.rec; motion = s.frame_me_stats; units = s.restoration; blocks = blocks }

-- the parts of a view belong to these tables
pub record ViewLies (tables : Tables) (view : View) : Type 0 where
  pub y : IsTablePart (length tables.rec.y.samples) tables.rec.y.cfg.stride view.ts.rec.y
  pub u : IsTablePart (length tables.rec.u.samples) tables.rec.u.cfg.stride view.ts.rec.u
  pub v : IsTablePart (length tables.rec.v.samples) tables.rec.v.cfg.stride view.ts.rec.v
  pub motion : AllZip (λ t part. IsTablePart (length t.entries) t.cols part) tables.motion view.ts.me_stats
  pub y_units : IsTablePart (length tables.units.y.entries) tables.units.y.cols view.ts.units.y
  pub u_units : IsTablePart (length tables.units.u.entries) tables.units.u.cols view.ts.units.u
  pub v_units : IsTablePart (length tables.units.v.entries) tables.units.v.cols view.ts.units.v
  pub blocks : IsTablePart (length tables.blocks.entries) tables.blocks.cols view.blocks

-- the part with an empty rectangle
abbrev pub no_part : {E : Type 0} → Part E
no_part = record { rect = no_rect; table_cols = 0; entries = [] }

-- the part that a view has of motion table i
abbrev pub motion_part : ℕ → View → Part MEStats
motion_part i v = slice_index_or v.ts.me_stats i no_part

-- no two views have a sample, a motion record, a restoration unit or a block in common
pub record AreViewsApart (views : List View) : Type 0 where
  pub y : ArePartsApart (map (λ v. v.ts.rec.y) views)
  pub u : ArePartsApart (map (λ v. v.ts.rec.u) views)
  pub v : ArePartsApart (map (λ v. v.ts.rec.v) views)
  pub motion : (i : ℕ) → ArePartsApart (map (motion_part i) views)
  pub y_units : ArePartsApart (map (λ v. v.ts.units.y) views)
  pub u_units : ArePartsApart (map (λ v. v.ts.units.u) views)
  pub v_units : ArePartsApart (map (λ v. v.ts.units.v) views)
  pub blocks : ArePartsApart (map (λ v. v.blocks) views)

-- a plane with the samples of the parts in their rectangles, and with those of old elsewhere
pub record IsCodedPlane (parts : List (Part ℤ)) (old new : PlaneView) : Type 0 where
  pub cfg : new.cfg ≡ old.cfg
  pub samples : HasParts old.cfg.stride parts old.samples new.samples

-- the planes of a frame with each view's samples in its rectangles
pub record IsCodedFrame (views : List View) (old new : Three PlaneView) : Type 0 where
  pub y : IsCodedPlane (map (λ v. v.ts.rec.y) views) old.y new.y
  pub u : IsCodedPlane (map (λ v. v.ts.rec.u) views) old.u new.u
  pub v : IsCodedPlane (map (λ v. v.ts.rec.v) views) old.v new.v

-- the entries of a block table with `cols` columns, with each view's blocks in its rectangle
abbrev pub AreCodedBlocks : (cols : ℕ) → List View → (old new : List Block) → Type 0
AreCodedBlocks cols views old new = HasParts cols (map (λ v. v.blocks) views) old new

-- a table with the entries of the parts in their rectangles, and with those of old elsewhere
pub record IsCodedTable {E : Type 0} (parts : List (Part E)) (old new : Rows E) : Type 0 where
  pub cols : new.cols ≡ old.cols
  pub rows : new.rows ≡ old.rows
  pub entries : HasParts old.cols parts old.entries new.entries

-- the tables of motion records with each view's records in its rectangles
pub record IsCodedMotion (views : List View) (old new : List (Rows MEStats)) : Type 0 where
  pub count : length new ≡ length old
  pub tables : (i : ℕ) (d : Rows MEStats) → i < length old → IsCodedTable (map (motion_part i) views) (slice_index_or old i d) (slice_index_or new i d)

-- a plane's units with those of the parts in their rectangles, and with those of old elsewhere
pub record IsCodedUnitTable (parts : List (Part RestorationUnit)) (old new : Units) : Type 0 where
  pub cfg : new.cfg ≡ old.cfg
  pub cols : new.cols ≡ old.cols
  pub rows : new.rows ≡ old.rows
  pub entries : HasParts old.cols parts old.entries new.entries

-- the units of all planes with each view's units in its rectangles
pub record AreCodedUnits (views : List View) (old new : Three Units) : Type 0 where
  pub y : IsCodedUnitTable (map (λ v. v.ts.units.y) views) old.y new.y
  pub u : IsCodedUnitTable (map (λ v. v.ts.units.u) views) old.u new.u
  pub v : IsCodedUnitTable (map (λ v. v.ts.units.v) views) old.v new.v

-- all tables have each view's content in its rectangles, and elsewhere what stood there
pub record AreCoded (views : List View) (old new : Tables) : Type 0 where
  pub rec : IsCodedFrame views old.rec new.rec
  pub motion : IsCodedMotion views old.motion new.motion
  pub units : AreCodedUnits views old.units new.units
  pub blocks : IsCodedTable (map (λ v. v.blocks) views) old.blocks new.blocks
