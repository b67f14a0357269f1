use Rattle.std.proofs.Common.{◌≡◌, ◌+◌, ◌*◌, take, drop, refl, ap, ◌∙◌, arith}
use Rattle.av1_block.specs.Rows.{with_entry_run}
use Rattle.av1_block.specs.Writing.{window, table_under, entries_under, place_under}
use Rattle.av1_block.proofs.Views.{same_view}
use Rattle.av1_block.proofs.tile_view_mut.TileViewMut.row_mut.Goals as goal

pub returns : goal.returns
returns g c =
    let old = c.args.self.now in
    let place : ((window old).top + c.args.y) * (table_under old).cols + (window old).left ≡ place_under old 0 c.args.y = omega arith in (
      (refl {a = c.run_mut.result.ghost_name}, λ w. same_view _ _ (λ i. record old.table { now = with_entry_run (table_under old) (place i) w }) refl),
      record { lends = tt; row = c.run_mut.ensures.run ∙ ap (λ k. take (window old).cols (drop k (entries_under old))) place; long = c.run_mut.ensures.long },
    )
