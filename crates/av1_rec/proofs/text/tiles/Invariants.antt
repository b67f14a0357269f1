use Rattle.std.proofs.Common.{◌≡◌, ◌-◌, ◌*◌, map}
use Rattle.av1_rec.specs.Lines.{numbered}
use Rattle.av1_rec.specs.Recorded.{recorded}
use Rattle.av1_rec.specs.Text.{tile_at}
use Rattle.av1_rec.proofs.Many.{with_front}
use Rattle.av1_rec.proofs.text.tiles.Given as goal

-- The tiles read and the rest of the text give what all tiles give.
abbrev pub invariant-loop-n : goal.invariant-loop-n
invariant-loop-n g l =
    let count = l.tiling.cols * l.tiling.rows in
    let read = tile_at l.header l.tiling in
    with_front (map (recorded g.T.Pixel.number) l.tiles.items) (numbered read l.n (count - l.n) l.rest) ≡ numbered read 0 count l.text
