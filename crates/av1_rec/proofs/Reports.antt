-- The report of a coded frame, by the outcome that coding left.
use Rattle.std.proofs.Common.{◌≡◌, ℕ, List, Result, Ok, Err, IsErr, IsErrAnd, IfErr, ltb, sym, subst, ap, ◌∙◌}
use Rattle.av1_frame.specs.declared.group_error.GroupError.{GroupError}
use Rattle.av1_block.specs.declared.block.Block.{Block}
use Rattle.av1_tiling.specs.declared.tiling_info.TilingInfo.{TilingInfo}
use Rattle.av1_tiling.specs.Frames.{Parameters, State}
use Rattle.av1_frame.specs.Outcome.{Job, Holds, job_of, outcome}
use Rattle.av1_rec.specs.Begin.{start_state, start_blocks}
use Rattle.av1_rec.specs.Parameters.{frame_parameters}
use Rattle.av1_rec.specs.Group.{said_job, planes_of, shown, reported}
use Rattle.av1_rec.specs.Recorded.{recorded_meaning}
use Rattle.av1_rec.specs.Text.{Said}

-- a state that holds an outcome shows the outcome
pub holds_shown : (j : Job) (group : List ℕ) (s : State) (blocks : List Block) → Holds j (outcome j) group s blocks → shown j.parameters s group ≡ reported j
holds_shown j group s blocks h = λ i. record {
  levels = (h.state i).deblock.levels;
  size_bytes = (h.state i).max_tile_size_bytes;
  context_tile = (h.state i).context_update_tile_id;
  group = h.group_bytes i;
  wide = ltb 8 j.parameters.sequence.bit_depth;
  planes = planes_of j.parameters.sequence.chroma_sampling (h.seen i);
}

-- the job of a text is that of parameters, a state and blocks that are the text's
pub job_is : (s : Said) (p : Parameters) (first : State) (blocks : List Block) → p ≡ frame_parameters s.header s.tiling
    → first ≡ start_state s.header p.sequence.tiling s.source → blocks ≡ start_blocks p
    → job_of (recorded_meaning s.tiling s.tiles) p first blocks ≡ said_job s
job_is s p first blocks same begun fresh =
    let tiled : p.sequence.tiling ≡ s.tiling = ap (λ (q : Parameters). q.sequence.tiling) same in
    let state : first ≡ start_state s.header s.tiling s.source = begun ∙ ap (λ (a : TilingInfo). start_state s.header a s.source) tiled in
    let table : blocks ≡ start_blocks (frame_parameters s.header s.tiling) = fresh ∙ ap (λ (q : Parameters). start_blocks q) same in
    λ i. job_of (recorded_meaning s.tiling s.tiles) (same i) (state i) (table i)

-- a fact about an error holds where the error is handed on
pub handed_on : {A : Type 0} (r : Result A GroupError) (given : GroupError) (P : GroupError → Type 0) → IsErr r × IsErrAnd r (λ e. e ≡ given) → P given → IfErr r P
handed_on (Ok x) given P h p = tt
handed_on (Err e) given P h p = subst P (sym h.1) p
