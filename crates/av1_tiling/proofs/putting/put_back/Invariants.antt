use Rattle.std.proofs.Common.{◌≡◌, All, take}
use Rattle.av1_tiling.specs.Coded.{ViewLies}
use Rattle.av1_tiling.specs.Puts.{tables_of, coded_tables}
use Rattle.av1_tiling.proofs.putting.put_back.Given as goal

-- The first views are put back, and all views still belong to the tables.
abbrev pub invariant-loop-context : goal.invariant-loop-context
invariant-loop-context g l = record {
  coded :
      tables_of g.T.Pixel.number l.rec l.me l.units l.blocks
      ≡ coded_tables (tables_of g.T.Pixel.number l.initial.rec l.initial.me l.initial.units l.initial.blocks) (take l.context-index l.contexts);
  lies : All (ViewLies (tables_of g.T.Pixel.number l.rec l.me l.units l.blocks)) l.contexts;
}
