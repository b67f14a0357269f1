-- The views and the coder that are fixed when a table is made.
use Rattle.std.specs.Prelude.{Vec}
use Rattle.std.specs.Global.{Global}
use Rattle.av1_tiling.specs.Views.{View}
use Rattle.std.specs.declared.snapshot.Snapshot.{Snapshot}
use Rattle.av1_frame.specs.declared.doing.About.{About}

-- what the key of a table says
abbrev pub about_of : {T C : Type 0} → Snapshot (Vec View Global) × Snapshot C → About T C
about_of key = record { starts = key.0.value.items; coder = key.1.value }
