use Rattle.std.proofs.Common.{◌≡◌, take, map}
use Rattle.av1_rec.specs.Bands.{numbered_block}
use Rattle.av1_rec.proofs.text.block_table.blocks_of.Given as goal

abbrev pub invariant-loop-number : goal.invariant-loop-number
invariant-loop-number l = l.blocks.items ≡ map (λ n. numbered_block l.lines n) (take l.number-index l.numbers)
