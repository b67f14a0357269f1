use Rattle.std.proofs.Common.{◌≤◌, sym, subst, arith}
use Rattle.av1_plane.specs.declared.tile_rect.TileRect.{TileRect}
use Rattle.av1_tiling.proofs.TileMotions.{one_of_each, one_rect}
use Rattle.av1_tiling.proofs.tile_motion.TileMotion.take.Goals as goal

pub invariant_of-result : goal.invariant_of-result
invariant_of-result c =
    let cuts = c.in_ok-cuts.cuts in
    let a = c.args in
    let here = one_rect a.tables.now cuts.items a.rect c.in_ok-cuts.ensures in (
      omega (arith, cuts.ok.0, one_of_each a.tables.now cuts.items a.rect c.in_ok-cuts.ensures, c.requires.tables.count),
      (
        λ k d below. subst (λ (r : TileRect). r.x ≤ a.mi_cols) (sym (here k d below)) (omega (arith, c.requires.across)),
        (λ k d below. subst (λ (r : TileRect). r.y ≤ a.mi_rows) (sym (here k d below)) (omega (arith, c.requires.down)), tt),
      ),
    )
