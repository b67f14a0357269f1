-- What coding the tiles of a frame leaves is the outcome of its job.
use Rattle.std.proofs.Common.{◌≡◌, ℕ, ℤ, List, All, ◌*◌, ◌<◌, ◌≤◌, length, replicate, get_or, refl, sym, ap, ◌∙◌, subst, arith}
use Rattle.std.specs.Prelude.{if◌then◌else◌}
use Rattle.av1_plane.specs.declared.three.Three.{Three}
use Rattle.av1_block.specs.declared.block.Block.{Block}
use Rattle.av1_block.specs.Rows.{Rows}
use Rattle.av1_tiling.specs.Views.{View, PlaneView}
use Rattle.av1_tiling.specs.Frames.{Parameters, State, IsTilingOf}
use Rattle.av1_tiling.specs.Puts.{coded_tables}
use Rattle.av1_tiling.specs.Coded.{ViewLies, AreViewsApart}
use Rattle.av1_tiling.specs.declared.deblock_state.DeblockState.{DeblockState}
use Rattle.std.proofs.Math.Nat.{mul-le-mul}
use Rattle.std.proofs.lemmas.Nat.{pow_pos}
use Rattle.av1_tiling.specs.declared.tiling_info.TilingInfo.{TilingInfo}
use Rattle.av1_tiling.specs.TileRects.{superblock_rows, superblock_side}
use Rattle.av1_tiling.proofs.GridFacts.{div_ceil-pos}
use Rattle.av1_tiling.proofs.Inside.{tiling_facts}
use Rattle.av1_tiling.proofs.LawProofs.{cols-pos, tile_high-pos}
use Rattle.av1_tiling.proofs.Placed.{coded_have}
use Rattle.av1_frame.specs.Coding.{tile_bytes, tile_views}
use Rattle.av1_frame.specs.Framing.{framed, size_bytes, longest}
use Rattle.av1_frame.specs.Reference.{with_levels, reference, visible_picture}
use Rattle.av1_frame.specs.Outcome.{Job, Holds, job_tables, outcome, coded_of, chosen_levels, context_tile_of}

-- what was made of a job: the new frame and the chosen levels
pub record IsLeft (j : Job) (s : State) : Type 0 where
  pub rec : s.rec ≡ reference j.parameters (with_levels j.state.deblock (chosen_levels j (coded_of j))) (coded_of j)
  pub state : s ≡ record j.state {
    rec = s.rec;
    frame_me_stats = (coded_of j).motion;
    restoration = (coded_of j).units;
    deblock = with_levels j.state.deblock (chosen_levels j (coded_of j));
    max_tile_size_bytes = size_bytes (tile_bytes j.results);
    context_update_tile_id = context_tile_of j;
  }

-- A state that holds what was made of a job, with the group's bytes and blocks, holds the job's outcome.
pub left_of : (j : Job) (group : List ℕ) (s : State) (blocks : List Block) → All (ViewLies (job_tables j)) (tile_views j.results) → AreViewsApart (tile_views j.results)
    → group ≡ framed (tile_bytes j.results) → IsLeft j s → blocks ≡ (coded_of j).blocks.entries → Holds j (outcome j) group s blocks
left_of j group s blocks lies apart bytes left put = record {
  group_bytes = bytes;
  state = left.state;
  seen = ap (visible_picture j.parameters) left.rec;
  coded_blocks = put;
  places = coded_have (job_tables j) (tile_views j.results) lies apart;
}

-- a frame has a tile
pub some_tile : (t : TilingInfo) (s : State) (cols rows : ℕ) → IsTilingOf t s cols rows → 1 ≤ t.cols * t.rows
some_tile t s cols rows made =
    let facts = tiling_facts t s cols rows made in
    let across : 0 < t.cols = cols-pos t facts in
    let high = div_ceil-pos (superblock_rows t) t.tile_height_sb (div_ceil-pos t.frame_height (superblock_side t) facts.high.0 (pow_pos t.sb_size_log2)) (tile_high-pos t facts) in
    let down : 0 < t.rows = subst (λ n. 0 < n) (sym facts.rows) high in
    mul-le-mul {n₁ = 1} {m₁ = 1} {n₂ = t.cols} {m₂ = t.rows} across down
