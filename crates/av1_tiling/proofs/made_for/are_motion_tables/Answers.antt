use Rattle.std.proofs.Common.{length}
use Rattle.std.proofs.lemmas.Bool.Decides.{Decides-eqb}
use Rattle.av1_tiling.proofs.Decided.{one_more, all_done}
use Rattle.av1_tiling.proofs.MadeFor.{HasSides, motion_made}
use Rattle.av1_tiling.proofs.made_for.are_motion_tables.Goals as goal

pub loop-table-preserved : goal.loop-table-preserved
loop-table-preserved c =
    one_more (HasSides c.args.cols c.args.rows) c.args.tables.now c.loop-table.table-index c.table-item.result c.loop-table-test.true c.table-item.is c.loop-table.invariant (c.has_sides.ensures.0 c.if-not-has_sides.false)

pub returns : goal.returns
returns c =
    let tables = c.args.tables.now in
    let counted = Decides-eqb (length tables) 8 in
    let each = all_done (HasSides c.args.cols c.args.rows) tables c.loop-table.table-index c.loop-table-test.false c.loop-table.invariant in
    (λ e. motion_made c.args.cols c.args.rows tables (counted.0 e) each, λ made. counted.1 made.count)
