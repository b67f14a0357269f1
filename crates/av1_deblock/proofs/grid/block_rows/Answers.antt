use Rattle.std.proofs.Common.{rules}
use Rattle.av1_deblock.proofs.Views.{view_rows_are}
use Rattle.av1_deblock.proofs.grid.block_rows.Goals as goal

pub returns-clause-rows : goal.returns-clause-rows
returns-clause-rows c = view_rows_are _ _ _ _ _ c.requires.blocks (search rules) (search rules) c.row.ensures c.row-2.ensures
