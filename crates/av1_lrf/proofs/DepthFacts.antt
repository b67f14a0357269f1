-- What a bit depth says of its sample type.
use Rattle.std.proofs.Common.{ℕ, ◌≤◌, ◌^◌, inl, inr, lit≤}
use Rattle.av1_tiling.specs.Frames.{FitsDepth}
use Rattle.av1_lrf.specs.Wiener.{IsDepth}

-- bit depths and the sample types that hold them
pub is_depth : (limit bd : ℕ) → FitsDepth limit bd → IsDepth bd
is_depth limit bd h = elim h [ inl a ↦ inl a.0 | inr b ↦ inr b.0 ]

-- a sample type holds the samples of its depth
pub depth_limit : (limit bd : ℕ) → FitsDepth limit bd → 2 ^ bd ≤ limit
depth_limit limit bd h = elim h [
  | inl a ↦ rw (a.0, a.1) (lit≤ tt)
  | inr b ↦ rw b.1 (elim b.0 [ inl e ↦ rw e (lit≤ tt) | inr e ↦ rw e (lit≤ tt) ])
]
