use Rattle.std.proofs.Common.{length, sym, subst}
use Rattle.std.specs.List.{AllZip}
use Rattle.av1_tiling.specs.Puts.{PartLies}
use Rattle.av1_tiling.specs.Views.{View}
use Rattle.av1_tiling.proofs.Placed.{zip_lies}
use Rattle.av1_tiling.proofs.tile_context.TileContextMut.put_back.Goals as goal

pub put_back-requires-clause-motion : goal.put_back-requires-clause-motion
put_back-requires-clause-motion g c =
    subst (λ (v : View). AllZip (λ t part. PartLies (length t.entries) part) (c.args.me.now) v.ts.me_stats) (sym c.self.view_is) (zip_lies _ _ c.requires.motion)
