use Rattle.std.proofs.Common.{sym, ◌∙◌}
use Rattle.av1_rec.specs.Recorded.{recorded}
use Rattle.av1_rec.proofs.RecordedEntries.{entry_end}
use Rattle.av1_rec.proofs.coder.recorded_coder.entry_at.Goals as goal

pub returns : goal.returns
returns g c = sym (entry_end (recorded g.T.Pixel.number) c.args.tiling.now (c.args.x, c.args.y) c.loop-tile.n c.loop-tile.rest.now c.in_default.ensures.cases) ∙ c.loop-tile.invariant.value
