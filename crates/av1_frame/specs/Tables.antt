-- What clauses see of a table and of a seat.
use Rattle.std.specs.Prelude.{◌≡◌, ℕ, List}
use Rattle.av1_frame.specs.Abouts.{about_of}
use Rattle.av1_frame.specs.Claims.{claims, misses, IsAbout}
use Rattle.av1_frame.specs.declared.doing.About.{About}
use Rattle.av1_frame.specs.declared.table.TileTable.{TileTable}
use Rattle.av1_frame.specs.declared.table.TileSeat.{TileSeat}

module _ {T C : Type 0} where
  -- the views with which the table was made, and the coder
  abbrev pub about : TileTable T C → About T C
  about t = about_of t.table.shared.key

  -- how many tiles a table has
  abbrev pub tiles : TileTable T C → ℕ
  tiles t = t.table.shared.table_id.words

  -- the tiles that a seat claimed
  abbrev pub claimed : {g : _} → TileSeat T C g → List ℕ
  claimed s = claims s.seat.me.0

  -- the tiles that a seat found taken
  abbrev pub missed : {g : _} → TileSeat T C g → List ℕ
  missed s = misses s.seat.me.0

  -- the seat is one of the table
  abbrev pub IsSeatOf : {g : _} → TileTable T C → TileSeat T C g → Type 0
  IsSeatOf t s = (s.seat.table_id ≡ t.table.shared.table_id) × IsAbout (about t) s.seat.me.0
