-- Entries of a table of what is known of units.
use Rattle.av1_block.proofs.Places.{row_ends}
use Rattle.std.proofs.lemmas.List.{get_or_read_under}

pub ruleset infos = (row_ends, get_or_read_under)
