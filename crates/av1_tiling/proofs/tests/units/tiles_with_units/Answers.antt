use Rattle.std.proofs.Common.{◌≡◌, ℕ, List, sym, ap, ◌∙◌, subst}
use Rattle.std.specs.List.{AllZip, slice_set}
use Rattle.av1_block.specs.Tables.{table_entries}
use Rattle.av1_tiling.specs.Frames.{views, views_below}
use Rattle.av1_tiling.specs.Views.{View, SameShape}
use Rattle.av1_tiling.proofs.Inside.{few_tiles}
use Rattle.av1_tiling.proofs.Written.{same_shapes, written_at}
use Rattle.av1_tiling.proofs.tests.units.tiles_with_units.Goals as goal

pub tile_count-requires : goal.tile_count-requires
tile_count-requires c = few_tiles _ _ _ _ c.requires

pub returns : goal.returns
returns c =
    let t = c.args.tiling.now in
    let s = c.args.fs.now in
    let entries = table_entries c.args.blocks.now in
    let first = views t s entries in
    let items = c.in_ok-tiles.tiles.items in
    let cut : items ≡ first = c.in_ok-tiles.ensures ∙ ap (λ (n : ℕ). views_below t s entries n) c.tile_count.ensures in
    let none = subst (λ (vs : List View). AllZip SameShape first vs) (sym cut) (same_shapes first) in
    let one = written_at first items 0 _ c.set_unit.new.tile none c.index_mut.ensures.value c.set_unit.ensures in
    let two = written_at first (slice_set items 0 c.set_unit.new.tile) 3 _ c.set_unit-2.new.tile one c.index_mut-2.ensures.value c.set_unit-2.ensures in
    written_at first (slice_set (slice_set items 0 c.set_unit.new.tile) 3 c.set_unit-2.new.tile) 2 _ c.set_unit-3.new.tile two c.index_mut-3.ensures.value c.set_unit-3.ensures
