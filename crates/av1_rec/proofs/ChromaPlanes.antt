-- Chroma planes have samples wherever there is chroma.
use Rattle.std.proofs.Common.{◌≡◌, ℕ, ◌<◌, ◌≤◌, Some, None, arith}
use Rattle.av1_plane.specs.Layout.{frame_layout}
use Rattle.av1_plane.specs.Sampling.{decimation}
use Rattle.av1_plane.specs.declared.sampling.ChromaSampling.{ChromaSampling}
use Rattle.av1_plane.specs.declared.sampling.ChromaSampling.TheVariants.{Cs420, Cs422, Cs444, Cs400}

-- the chroma planes of a frame that has chroma have a row and a column
pub chroma_filled : (w h : ℕ) (s : ChromaSampling) (d : ℕ × ℕ) → 1 ≤ w → 1 ≤ h → decimation s ≡ Some d → (0 < (frame_layout w h s).v.width) × (0 < (frame_layout w h s).v.height)
chroma_filled w h Cs420 d wide high e = (omega arith, omega arith)
chroma_filled w h Cs422 d wide high e = (omega arith, omega arith)
chroma_filled w h Cs444 d wide high e = (omega arith, omega arith)
chroma_filled w h Cs400 d wide high e = absurd (let f : None ≡ Some d = e in cc)
