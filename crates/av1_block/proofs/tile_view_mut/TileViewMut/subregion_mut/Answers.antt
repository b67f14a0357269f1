use Rattle.std.proofs.Common.{refl, ap, arith}
use Rattle.av1_block.specs.declared.window.Window.{Window}
use Rattle.av1_block.proofs.Views.{same_view}
use Rattle.av1_block.proofs.tile_view_mut.TileViewMut.subregion_mut.Goals as goal

pub returns : goal.returns
returns g c =
    let part = c.part-window.ensures in
    let placed = c.requires.placed in (
      (refl, λ w. same_view _ _ refl refl),
      record {
        lends = tt;
        table = refl;
        window = part;
        placed = record {
          across = omega (arith, ap (λ (w : Window). w.left) part, ap (λ (w : Window). w.cols) part, placed.across, c.requires.column);
          down = omega (arith, ap (λ (w : Window). w.top) part, ap (λ (w : Window). w.rows) part, placed.down, c.requires.row);
          frame_across = omega (arith, ap (λ (w : Window). w.x) part, ap (λ (w : Window). w.cols) part, ap (λ (w : Window). w.frame_cols) part, placed.frame_across, c.requires.column);
          frame_down = omega (arith, ap (λ (w : Window). w.y) part, ap (λ (w : Window). w.rows) part, ap (λ (w : Window). w.frame_rows) part, placed.frame_down, c.requires.row);
        };
      },
    )
