-- The deblocking state.
use Rattle.std.specs.Prelude.{pos, [], ◌∷◌, false}
use Rattle.av1_tiling.specs.declared.deblock_state.DeblockState.{DeblockState}

-- the deblocking state with all levels and deltas 0, and the deltas switched off
abbrev pub default_deblock : DeblockState
default_deblock = record {
  levels = 0 ∷ 0 ∷ 0 ∷ 0 ∷ [];
  deltas_enabled = false;
  ref_deltas = pos 0 ∷ pos 0 ∷ pos 0 ∷ pos 0 ∷ pos 0 ∷ pos 0 ∷ pos 0 ∷ pos 0 ∷ [];
  mode_deltas = pos 0 ∷ pos 0 ∷ [];
  block_deltas_enabled = false;
  block_delta_shift = 0;
  block_delta_multi = false;
}
