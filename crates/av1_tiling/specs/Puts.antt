-- Parts that were cut out of a table, put back into it, and the planes, motion records and blocks of a frame with the
-- parts of several tiles put back.
use Rattle.std.specs.Prelude.{ℕ, ℤ, List, [], ◌∷◌, map}
use Rattle.av1_plane.specs.declared.frame.Frame.{Frame}
use Rattle.av1_plane.specs.declared.three.Three.{Three}
use Rattle.av1_block.specs.declared.block.Block.{Block}
use Rattle.av1_block.specs.declared.me_stats.MEStats.{MEStats}
use Rattle.av1_block.specs.declared.restoration_unit.RestorationUnit.{RestorationUnit}
use Rattle.av1_block.specs.Rows.{Rows}
use Rattle.av1_block.specs.Cut.{LiesIn, with_cut}
use Rattle.av1_tiling.specs.declared.restoration_state.RestorationState.{RestorationState}
use Rattle.av1_tiling.specs.Restoration.{Units, units_in}
use Rattle.av1_tiling.specs.Views.{View, Part, PlaneView, view_frame}

-- a table with a part put back where it was cut out
abbrev pub put : {E : Type 0} → List E → Part E → List E
put table part = with_cut table part.table_cols part.rect.x part.rect.y part.rect.width part.rect.height part.entries

-- a table with a part put back at its place
abbrev pub put_in : {E : Type 0} → Rows E → Part E → Rows E
put_in table part = record table { entries = put table.entries part }

-- the tables that tiles are cut from and put back into
pub record Tables : Type 0 where
  pub rec : Three PlaneView
  pub motion : List (Rows MEStats)
  pub units : Three Units
  pub blocks : Rows Block

-- a frame's planes, motion records, restoration units and blocks
abbrev pub tables_of : {X : Type 0} → (X → ℤ) → Frame X → List (Rows MEStats) → RestorationState → Rows Block → Tables
tables_of number f me units blocks = record {
  rec = view_frame number f;
  motion = me;
  units = units_in units;
  blocks = blocks;
}

-- three planes, each with a part put back
abbrev pub put_cuts : Three PlaneView → Three (Part ℤ) → Three PlaneView
put_cuts f parts = record {
  y = record f.y { samples = put f.y.samples parts.y };
  u = record f.u { samples = put f.u.samples parts.u };
  v = record f.v { samples = put f.v.samples parts.v };
}

-- tables, each with a part put back
unfoldable pub put_motion : List (Rows MEStats) → List (Part MEStats) → List (Rows MEStats)
put_motion [] parts = []
put_motion (table ∷ tables) [] = table ∷ tables
put_motion (table ∷ tables) (part ∷ parts) = put_in table part ∷ put_motion tables parts

-- a plane's units with a part put back
abbrev pub put_unit_part : Units → Part RestorationUnit → Units
put_unit_part u part = record u { entries = put u.entries part }

-- the units of three planes with a part each put back
abbrev pub put_units : Three Units → Three (Part RestorationUnit) → Three Units
put_units s parts = record {
  y = put_unit_part s.y parts.y;
  u = put_unit_part s.u parts.u;
  v = put_unit_part s.v parts.v;
}

-- all tables with a view put back
abbrev pub put_view : Tables → View → Tables
put_view tables v = record {
  rec = put_cuts tables.rec v.ts.rec;
  motion = put_motion tables.motion v.ts.me_stats;
  units = put_units tables.units v.ts.units;
  blocks = put_in tables.blocks v.blocks;
}

-- a table with one part after another put back
unfoldable pub put_all : {E : Type 0} → List E → List (Part E) → List E
put_all table [] = table
put_all table (part ∷ parts) = put_all (put table part) parts

-- a plane with one part after another put back
abbrev pub coded_plane : PlaneView → List (Part ℤ) → PlaneView
coded_plane p parts = record p { samples = put_all p.samples parts }

-- the planes with the samples of these views put back, tile after tile
abbrev pub coded_frame : Three PlaneView → List View → Three PlaneView
coded_frame f views = record {
  y = coded_plane f.y (map (λ v. v.ts.rec.y) views);
  u = coded_plane f.u (map (λ v. v.ts.rec.u) views);
  v = coded_plane f.v (map (λ v. v.ts.rec.v) views);
}

-- the block table with the blocks of these views put back
abbrev pub coded_blocks : List Block → List View → List Block
coded_blocks blocks views = put_all blocks (map (λ v. v.blocks) views)

-- the motion tables with the records of these views put back, tile after tile
unfoldable pub coded_motion : List (Rows MEStats) → List View → List (Rows MEStats)
coded_motion tables [] = tables
coded_motion tables (v ∷ views) = coded_motion (put_motion tables v.ts.me_stats) views

-- a plane's units with one part after another put back
abbrev pub coded_unit_part : Units → List (Part RestorationUnit) → Units
coded_unit_part u parts = record u { entries = put_all u.entries parts }

-- the units of three planes with the units of these views put back, tile after tile
abbrev pub coded_units : Three Units → List View → Three Units
coded_units s views = record {
  y = coded_unit_part s.y (map (λ v. v.ts.units.y) views);
  u = coded_unit_part s.u (map (λ v. v.ts.units.u) views);
  v = coded_unit_part s.v (map (λ v. v.ts.units.v) views);
}

-- all tables with these views put back
abbrev pub coded_tables : Tables → List View → Tables
coded_tables tables views = record {
  rec = coded_frame tables.rec views;
  motion = coded_motion tables.motion views;
  units = coded_units tables.units views;
  blocks = record tables.blocks { entries = coded_blocks tables.blocks.entries views };
}

-- a part lies in a table of n entries
abbrev pub PartLies : {E : Type 0} → ℕ → Part E → Type 0
PartLies n part = LiesIn n part.table_cols part.rect.x part.rect.y part.rect.width part.rect.height
