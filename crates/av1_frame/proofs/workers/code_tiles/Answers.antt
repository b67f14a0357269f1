use Rattle.std.proofs.Common.{◌≡◌, ◌<◌, ◌≤◌, ◌∙◌, List, Option, length, map, ap, sym, subst}
use Rattle.std.specs.List.{AllZip}
use Rattle.av1_tiling.specs.Frames.{views}
use Rattle.av1_tiling.specs.Views.{View}
use Rattle.av1_frame.specs.AtHome.{GivesResults}
use Rattle.av1_frame.specs.Coding.{KeepsShape}
use Rattle.av1_frame.specs.Results.{result_of}
use Rattle.av1_frame.specs.Worked.{IsCodedFrom}
use Rattle.av1_frame.proofs.Worked.{few_views, some_views, ok_also, tiles_mean, tiles_keep}
use Rattle.av1_frame.proofs.workers.code_tiles.Goals as goal

pub deliver-requires-after_bounds : goal.deliver-requires-after_bounds
deliver-requires-after_bounds g c κs within =
    let t = c.args.tiling.now in let s = c.args.fs.now in let table = c.args.blocks.now in
    let same = sym c.in_ok-contexts.ensures in (
      subst (λ (l : List View). 0 < length l) same (some_views t s table.entries table.cols table.rows c.requires.made_for),
      subst (λ (l : List View). length l ≤ 4096) same (few_views t s table.entries table.cols table.rows c.requires.made_for),
    )

pub finish_tiles-requires-clause-count : goal.finish_tiles-requires-clause-count
finish_tiles-requires-clause-count g c κs within = c.in_ok-entries.ensures.count ∙ ap (λ (l : List View). length l) c.in_ok-contexts.ensures

pub finish_tiles-requires-clause-results : goal.finish_tiles-requires-clause-results
finish_tiles-requires-clause-results g c κs within =
    subst (λ (l : List View). GivesResults g.C.TileCoder.meaning (record { starts = l; coder = c.args.coder.now }) c.in_ok-entries.entries.items) c.in_ok-contexts.ensures c.in_ok-entries.ensures.results

pub returns-clause-coded : goal.returns-clause-coded
returns-clause-coded g c =
    let meaning = g.C.TileCoder.meaning c.args.coder.now in
    let all = views c.args.tiling.now c.args.fs.now c.args.blocks.now.entries in
    ok_also (λ tiles. AllZip (IsCodedFrom meaning) all tiles.items) (λ tiles. map result_of tiles.items ≡ map meaning all) c.finish_tiles.result (λ tiles h. tiles_mean meaning all tiles.items h) c.finish_tiles.ensures

pub returns-clause-shapes : goal.returns-clause-shapes
returns-clause-shapes g c =
    let meaning = g.C.TileCoder.meaning c.args.coder.now in
    let all = views c.args.tiling.now c.args.fs.now c.args.blocks.now.entries in
    ok_also (λ tiles. AllZip (IsCodedFrom meaning) all tiles.items) (λ tiles. AllZip KeepsShape all (map result_of tiles.items)) c.finish_tiles.result (λ tiles h. tiles_keep meaning all tiles.items h) c.finish_tiles.ensures
