use Rattle.std.proofs.Common.{◌≡◌, ℕ, Ok, Vec, Global, length, vec_len}
use Rattle.std.specs.Iterator.{YieldsFirst}
use Rattle.std.proofs.lemmas.Iterator.Adapters.{fact_from_collect}
use Rattle.std.proofs.lemmas.Iterator.Consumers.{YieldsList-from_first}
use Rattle.av1_tiling.specs.Frames.{views}
use Rattle.av1_tiling.specs.Tiles.{tiles_left}
use Rattle.av1_tiling.specs.Views.{View}
use Rattle.av1_frame.proofs.workers.all_contexts.Goals as goal

pub returns : goal.returns
returns g c = (fact_from_collect {E = ℕ} {steps = YieldsFirst tiles_left} {s = c.in_ok-tile_iter_mut.field-0} (λ xs (w : Vec View Global). (w.items ≡ xs) × (vec_len w ≡ length xs)) (Ok c.in_ok-contexts.contexts) c.in_ok-contexts.ensures.ran
    (YieldsList-from_first (λ (v : View). v) tiles_left (views c.args.tiling.now c.args.fs.now c.args.blocks.now.entries) c.in_ok-tile_iter_mut.ensures)).0
