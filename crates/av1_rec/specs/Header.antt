-- The first eight lines of a text: a frame's format, its rate and the tiles asked for, its type, quantisers,
-- switches, loop filter deltas and CDEF strengths (AV1 specification, sections 5.9.11 and 5.9.19).
use Rattle.std.specs.Prelude.{ℕ, ◌≡◌, ◌⊎◌, ◌≤◌, All, ℤ, List, [], ◌∷◌, Bool, true, false, ◌==◌, ◌||◌, ◌&&◌, if◌then◌else◌, Option, Some, None, codes}
use Rattle.av1_plane.specs.declared.sampling.ChromaSampling.{ChromaSampling}
use Rattle.av1_plane.specs.declared.sampling.ChromaSampling.TheVariants.{Cs420, Cs422, Cs444, Cs400}
use Rattle.av1_tiling.specs.declared.deblock_state.DeblockState.{DeblockState}
use Rattle.av1_tiling.specs.declared.frame_invariants.FrameType.{FrameType}
use Rattle.av1_tiling.specs.declared.frame_invariants.FrameType.TheVariants.{KEY, INTER}
use Rattle.av1_rec.specs.declared.text.header.FrameFormat.{FrameFormat}
use Rattle.av1_rec.specs.declared.text.header.Header.{Header}
use Rattle.av1_rec.specs.declared.text.header.TilingTarget.{TilingTarget}
use Rattle.av1_rec.specs.declared.text.header.Quantizers.{Quantizers}
use Rattle.av1_rec.specs.declared.text.header.Switches.{Switches}
use Rattle.av1_rec.specs.declared.text.header.CdefStrengths.{CdefStrengths}
use Rattle.av1_rec.specs.Fields.{◌>>=◌, option_bind, tag, field, delta, flag}

-- the number by which a text names a sampling
abbrev pub sampling_of : ℕ → Option ChromaSampling
sampling_of n = if n == 400 then Some Cs400 else (if n == 420 then Some Cs420 else (if n == 422 then Some Cs422 else (if n == 444 then Some Cs444 else None)))

-- a space, and the number of a sampling
unfoldable pub sampling : List ℕ → Option (ChromaSampling × List ℕ)
sampling text = do
  n ← field 400 444 text
  s ← sampling_of n.0
  Some (s, n.1)

-- a space, and a bit depth
unfoldable pub depth : List ℕ → Option (ℕ × List ℕ)
depth text = do
  n ← field 8 12 text
  if n.0 == 8 || n.0 == 10 || n.0 == 12 then Some n else None

-- `frame W H S D`: the frame's sides, sampling and bit depth
unfoldable pub frame_line : List ℕ → Option (FrameFormat × List ℕ)
frame_line text = do
  rest ← tag (codes "frame") text
  w ← field 1 65536 rest
  h ← field 1 65536 w.1
  s ← sampling h.1
  d ← depth s.1
  rest ← tag (codes "\n") d.1
  Some (record { width = w.0; height = h.0; sampling = s.0; depth = d.0 }, rest)

-- `tiling NUM DEN C R`: the frame rate, and the wanted logarithms of columns and rows of tiles
unfoldable pub tiling_line : List ℕ → Option (TilingTarget × List ℕ)
tiling_line text = do
  rest ← tag (codes "tiling") text
  num ← field 0 4294967295 rest
  den ← field 0 4294967295 num.1
  cols ← field 0 63 den.1
  rows ← field 0 63 cols.1
  rest ← tag (codes "\n") rows.1
  Some (record { num = num.0; den = den.0; cols_log2 = cols.0; rows_log2 = rows.0 }, rest)

-- `type key` or `type inter`: the frame's type
unfoldable pub type_line : List ℕ → Option (FrameType × List ℕ)
type_line text = elim (tag (codes "type key\n") text) [ Some rest ↦ Some (KEY, rest) | None ↦ option_bind (tag (codes "type inter\n") text) (λ rest. Some (INTER, rest)) ]

-- `quant AC BASE`: the quantiser's step and index
unfoldable pub quant_line : List ℕ → Option (Quantizers × List ℕ)
quant_line text = do
  rest ← tag (codes "quant") text
  ac ← field 0 65535 rest
  base ← field 0 255 ac.1
  rest ← tag (codes "\n") base.1
  Some (record { ac_quantizer = ac.0; base_q_idx = base.0 }, rest)

-- whether restoration units may be large: not where a side is a single sample
abbrev pub may_be_large : FrameFormat → Bool → Bool → Bool
may_be_large f restoration large = if restoration && large && (f.width == 1 || f.height == 1) then false else true

-- `switches FAST CDEF RESTORATION LARGE NOUPDATE`: five switches of the coding, each 0 or 1
unfoldable pub switches_line : FrameFormat → List ℕ → Option (Switches × List ℕ)
switches_line f text = do
  rest ← tag (codes "switches") text
  fast ← flag rest
  cdef ← flag fast.1
  restoration ← flag cdef.1
  large ← flag restoration.1
  no_update ← flag large.1
  rest ← tag (codes "\n") no_update.1
  if may_be_large f restoration.0 large.0 then Some (record { fast_deblock = fast.0; enable_cdef = cdef.0; enable_restoration = restoration.0; enable_large_lru = large.0; disable_frame_end_update_cdf = no_update.0 }, rest) else None

-- eight signed numbers, each behind a space
unfoldable pub eight_deltas : List ℕ → Option (List ℤ × List ℕ)
eight_deltas text = do
  a ← delta text
  b ← delta a.1
  c ← delta b.1
  d ← delta c.1
  e ← delta d.1
  f ← delta e.1
  g ← delta f.1
  h ← delta g.1
  Some (a.0 ∷ b.0 ∷ c.0 ∷ d.0 ∷ e.0 ∷ f.0 ∷ g.0 ∷ h.0 ∷ [], h.1)

-- `deltas E R0 to R7 M0 M1 B SHIFT MULTI`: the loop filter deltas
unfoldable pub deltas_line : List ℕ → Option (DeblockState × List ℕ)
deltas_line text = do
  rest ← tag (codes "deltas") text
  e ← flag rest
  r ← eight_deltas e.1
  m ← delta r.1
  n ← delta m.1
  b ← flag n.1
  shift ← field 0 3 b.1
  multi ← flag shift.1
  rest ← tag (codes "\n") multi.1
  Some (record { levels = 0 ∷ 0 ∷ 0 ∷ 0 ∷ []; deltas_enabled = e.0; ref_deltas = r.0; mode_deltas = m.0 ∷ n.0 ∷ []; block_deltas_enabled = b.0; block_delta_shift = shift.0; block_delta_multi = multi.0 }, rest)

-- eight strengths, each behind a space
unfoldable pub eight_strengths : List ℕ → Option (List ℕ × List ℕ)
eight_strengths text = do
  a ← field 0 63 text
  b ← field 0 63 a.1
  c ← field 0 63 b.1
  d ← field 0 63 c.1
  e ← field 0 63 d.1
  f ← field 0 63 e.1
  g ← field 0 63 f.1
  h ← field 0 63 g.1
  Some (a.0 ∷ b.0 ∷ c.0 ∷ d.0 ∷ e.0 ∷ f.0 ∷ g.0 ∷ h.0 ∷ [], h.1)

-- `cdef DAMPING Y0 to Y7 U0 to U7`: CDEF's damping and strengths
unfoldable pub cdef_line : List ℕ → Option (CdefStrengths × List ℕ)
cdef_line text = do
  rest ← tag (codes "cdef") text
  damping ← field 3 6 rest
  y ← eight_strengths damping.1
  uv ← eight_strengths y.1
  rest ← tag (codes "\n") uv.1
  Some (record { damping = damping.0; y_strengths = y.0; uv_strengths = uv.0 }, rest)

-- a bit depth of samples
abbrev pub IsSampleDepth : ℕ → Type 0
IsSampleDepth d = (d ≡ 8) ⊎ ((d ≡ 10) ⊎ (d ≡ 12))

-- the numbers of a header that was read are within their bounds
pub record IsHeader (h : Header) : Type 0 where
  pub width : (1 ≤ h.format.width) × (h.format.width ≤ 65536)
  pub height : (1 ≤ h.format.height) × (h.format.height ≤ 65536)
  pub depth : IsSampleDepth h.format.depth
  pub shift : h.deblock.block_delta_shift ≤ 3
  pub damping : (3 ≤ h.cdef.damping) × (h.cdef.damping ≤ 6)
  pub y_strengths : All (λ s. s ≤ 63) h.cdef.y_strengths
  pub uv_strengths : All (λ s. s ≤ 63) h.cdef.uv_strengths
  pub large : may_be_large h.format h.switches.enable_restoration h.switches.enable_large_lru ≡ true
