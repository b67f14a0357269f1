use Rattle.std.proofs.Common.{length, ap, arith}
use Rattle.av1_block.proofs.Cuts.{length-cut_of}
use Rattle.av1_block.proofs.cut.Cut.take.Goals as goal

pub from_entries-requires : goal.from_entries-requires
from_entries-requires g c =
    let made = c.in_ok-entries.entries in
    let rect = c.args.rect in
    omega (arith, made.ok.0, ap length c.in_ok-entries.ensures, length-cut_of c.args.table.now c.args.table_cols rect.x rect.y rect.width rect.height c.requires.inside)
