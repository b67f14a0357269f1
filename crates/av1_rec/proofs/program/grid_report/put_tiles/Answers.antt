use Rattle.std.proofs.Common.{◌<◌, ℕ, subst}
use Rattle.av1_rec.proofs.GridTexts.{no_lines, lines_more}
use Rattle.av1_rec.proofs.program.grid_report.put_tiles.Goals as goal

pub loop-n-init : goal.loop-n-init
loop-n-init c = no_lines c.args.tiling.now c.args.out.now.items

pub put_tile-requires : goal.put_tile-requires
put_tile-requires c =
    c.requires.each c.loop-n.n (subst (λ (k : ℕ). c.loop-n.n < k) c.tile_count-n-end.ensures c.loop-n-test.true)

pub loop-n-preserved : goal.loop-n-preserved
loop-n-preserved c =
    lines_more c.args.tiling.now c.loop-n.n c.args.out.now.items c.loop-n.out.items c.put_tile.new.out.items c.in_ok-put_tile.ensures c.loop-n.invariant
