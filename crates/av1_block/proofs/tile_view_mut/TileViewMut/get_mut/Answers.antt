use Rattle.std.proofs.Common.{rules, ◌≡◌, refl}
use Rattle.std.specs.Option.{ghost_name_of}
use Rattle.av1_block.specs.Rows.{with_entry}
use Rattle.av1_block.specs.Writing.{table_under, index_under}
use Rattle.av1_block.proofs.Views.{same_view, same_left}
use Rattle.av1_block.proofs.tile_view_mut.TileViewMut.get_mut.Goals as goal

pub returns : goal.returns
returns g c =
    let old = c.args.self.now in
    let at : c.index_of-index.result ≡ index_under old c.args.x c.args.y = c.index_of-index.ensures.index in (
      same_left (ghost_name_of c.get_mut.result) (λ w. same_view _ _ (λ i. record old.table { now = with_entry (table_under old) (at i) w }) refl) (same_view _ _ refl refl),
      record { lends = tt; some = search rules; entry = search rules },
    )
