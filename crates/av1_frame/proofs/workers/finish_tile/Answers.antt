use Rattle.std.proofs.Common.{IfSome, sym, subst}
use Rattle.av1_tiling.specs.Frames.{views}
use Rattle.av1_frame.specs.AtHome.{IsResultOf}
use Rattle.av1_frame.specs.Worked.{IsTileResult, SaysResult}
use Rattle.av1_frame.proofs.Worked.{tile_said, ok_also}
use Rattle.av1_frame.proofs.workers.finish_tile.Goals as goal

pub returns-in-Some : goal.returns-in-Some
returns-in-Some g c =
    let meaning = g.C.TileCoder.meaning c.args.coder.now in
    let all = views c.args.tiling.now c.args.fs.now c.args.blocks.now.entries in
    let done = c.in-Some.done in
    let of = subst (λ e. IfSome e (IsResultOf g.C.TileCoder.meaning (record { starts = all; coder = c.args.coder.now }) c.args.tile)) c.in-Some.is c.requires.entry in
    ok_also (λ tile. SaysResult done tile) (IsTileResult meaning all c.args.tile) c.coded_tile.result (λ tile says. tile_said meaning all c.args.tile of.0 done tile of.1 of.2 says) c.coded_tile.ensures
