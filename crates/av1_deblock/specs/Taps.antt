-- The taps of the wide filters (AV1 specification, section 7.14.6).
use Rattle.std.specs.Prelude.{◌≡◌, ◌+◌, ◌≤◌, ◌^◌, ◌⊎◌}
use Rattle.av1_deblock.specs.declared.wide.Taps.{Taps}

-- how often the samples count makes 2 to the log2_size in all
pub record IsTaps (taps : Taps) : Type 0 where
  pub inner : taps.n2 ≤ taps.n
  pub weight : taps.n + taps.n + 1 + (taps.n2 + taps.n2 + 1) ≡ 2 ^ taps.log2_size
  pub size : (taps.log2_size ≡ 3) ⊎ (taps.log2_size ≡ 4)
