use Rattle.std.proofs.Common.{◌∙◌}
use Rattle.av1_rec.proofs.BandFacts.{last_blocks}
use Rattle.av1_rec.proofs.text.block_table.blocks_from.Goals as goal

pub returns : goal.returns
returns c =
    last_blocks c.args.cols c.args.rows c.args.lines.now c.raise_all.new.numbers _ (c.raise_all.ensures.len ∙ c.requires.table) c.in_ok-blocks.ensures c.in_ok-raise_all.ensures.value
