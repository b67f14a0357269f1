-- Motion records.
use Rattle.av1_block.specs.declared.me_stats.MEStats.{MEStats}
use Rattle.av1_block.specs.Block.{no_motion}

-- no motion, and no difference
abbrev pub no_stats : MEStats
no_stats = record { mv = no_motion; normalized_sad = 0 }
