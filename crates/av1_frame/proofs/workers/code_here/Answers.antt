use Rattle.std.proofs.Common.{◌≡◌, length, sym, ap, ◌∙◌, subst, List, get_or}
use Rattle.av1_tiling.specs.Frames.{views}
use Rattle.av1_tiling.specs.Views.{View}
use Rattle.av1_frame.specs.Worked.{IsTileResult, SaysResult}
use Rattle.av1_frame.proofs.Deliveries.{coder_result}
use Rattle.av1_frame.proofs.Worked.{at_index, ok_also, tile_said}
use Rattle.av1_frame.proofs.workers.code_here.Goals as goal

pub returns : goal.returns
returns g c =
    let meaning = g.C.TileCoder.meaning c.args.coder.now in
    let all = views c.args.tiling.now c.args.fs.now c.args.blocks.now.entries in
    let view = c.swap_remove-view.result in
    let same : c.in_ok-contexts.contexts.items ≡ all = c.in_ok-contexts.ensures in
    let here = at_index all c.args.tile view c.requires.tile (subst (λ (l : List View). view ≡ get_or l c.args.tile view) same c.swap_remove-view.ensures.value) in
    ok_also (SaysResult _) (IsTileResult meaning all c.args.tile) c.coded_tile.result
    (λ tile says. tile_said meaning all c.args.tile view _ tile here
    (coder_result ((denote.Param.copied 0 g.row.T).Denot) (meaning view) view c.code-coded.new.ctx c.code-coded.result c.code-coded.ensures.coded c.code-coded.ensures.shape c.code-coded.ensures.refused) says)
    c.coded_tile.ensures
