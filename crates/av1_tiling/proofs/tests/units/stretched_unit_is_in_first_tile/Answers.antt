use Rattle.std.proofs.Common.{◌≡◌, sym, ap, subst, ◌∙◌}
use Rattle.av1_tiling.specs.Frames.{Parameters, IsTilingOf}
use Rattle.av1_tiling.proofs.MadeFor.{tiling_of}
use Rattle.av1_tiling.proofs.tests.units.stretched_unit_is_in_first_tile.Goals as goal

pub tile_iter_mut-requires : goal.tile_iter_mut-requires
tile_iter_mut-requires _ c =
    let fs = c.in_ok-fs.fs in
    let blocks = c.in_ok-blocks.blocks in
    let frame = c.in_ok-fi.ensures in
    let table = c.in_ok-blocks.ensures in
    subst (λ t. IsTilingOf t fs blocks.cols blocks.rows) (sym (ap (λ (p : Parameters). p.sequence.tiling) c.fi.view_is))
    (tiling_of 256 c.in_ok-fi.fi fs blocks.cols blocks.rows frame.frame c.in_ok-fs.ensures (table.cols ∙ sym frame.columns) (table.rows ∙ sym frame.rows))
