use Rattle.std.proofs.Common.{arith, rules, ◌<◌, ◌^◌, length}
use Rattle.av1_deblock.proofs.columns.gather_columns.Goals as goal

pub row_place-requires : goal.row_place-requires
row_place-requires g c =
    let inside = c.requires.edge.rows c.requires.direction c.loop-j.j (omega arith) in
    let fits : length c.args.store.now < 2 ^ 64 = search rules in
    omega arith
