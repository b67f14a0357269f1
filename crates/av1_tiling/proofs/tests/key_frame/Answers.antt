use Rattle.std.proofs.Common.{◌≡◌, ℕ, ◌≤◌, ◌/◌, inl, refl, ap, ◌∙◌, arith}
use Rattle.std.proofs.lemmas.List.Elements.{All-replicate}
use Rattle.std.specs.Int.{next_multiple_of}
use Rattle.av1_plane.specs.Layout.{rounded}
use Rattle.av1_tiling.proofs.tests.key_frame.Goals as goal

-- the next multiple of 8, by its two names
to_eight : (n : ℕ) → next_multiple_of n 8 ≡ rounded n
to_eight n = omega arith

pub returns-clause-frame : goal.returns-clause-frame
returns-clause-frame c = record {
  width = (omega (c.requires.width.0, arith), c.requires.width.1);
  height = (omega (c.requires.height.0, arith), c.requires.height.1);
  depth = inl (refl, refl);
  superblock = refl;
  columns = ap (λ (n : ℕ). n / 4) (c.next_multiple_of.ensures.value ∙ to_eight c.args.width);
  rows = ap (λ (n : ℕ). n / 4) (c.next_multiple_of-2.ensures.value ∙ to_eight c.args.height);
  superblock_columns = c.div_ceil.ensures;
  superblock_rows = c.div_ceil-2.ensures;
  y_strengths = All-replicate (λ s. s ≤ 63) 8 0 (omega arith);
  uv_strengths = All-replicate (λ s. s ≤ 63) 8 0 (omega arith);
  damping = (omega arith, omega arith);
  tiling = (25, 1, c.args.tile_cols_log2, c.args.tile_rows_log2, c.in-Ok.ensures.tiling);
  large_units = λ large on. (c.requires.width.0, c.requires.height.0);
}
