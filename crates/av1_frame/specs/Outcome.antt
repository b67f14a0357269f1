-- What coding the tiles of a frame leaves: a record of all that is made, what stands
-- afterwards, and what refuses the tiles.
use Rattle.std.specs.Prelude.{ℕ, ℤ, List, Some, None, ◌≡◌, ◌⊎◌, if◌then◌else◌}
use Rattle.av1_plane.specs.declared.three.Three.{Three}
use Rattle.av1_block.specs.declared.block.Block.{Block}
use Rattle.av1_block.specs.Rows.{Rows}
use Rattle.av1_tiling.specs.Views.{View}
use Rattle.av1_tiling.specs.Frames.{Parameters, State}
use Rattle.av1_tiling.specs.Puts.{Tables, coded_tables}
use Rattle.av1_tiling.specs.Coded.{AreCoded, state_tables}
use Rattle.av1_frame.specs.declared.group_error.GroupError.{GroupError}
use Rattle.av1_frame.specs.declared.group_error.GroupError.TheVariants.{OutOfMemory}
use Rattle.av1_frame.specs.Coding.{Meaning, meanings, tile_bytes, tile_views, refusal}
use Rattle.av1_frame.specs.Framing.{framed, size_bytes, longest}
use Rattle.av1_frame.specs.Reference.{levels_of, with_levels, reference, visible_picture}

-- a frame before its tiles are coded, and what a coder makes of each tile
pub record Job : Type 0 where
  pub parameters : Parameters
  pub state : State
  pub blocks : List Block
  pub results : List Meaning

-- the job of a coder with this meaning, by the entries of the block table
abbrev pub job_of : (View → Meaning) → Parameters → State → List Block → Job
job_of meaning p s blocks = record { parameters = p; state = s; blocks = blocks; results = meanings meaning p s blocks }

-- the job of a coder with this meaning, by the block table
abbrev pub job : (View → Meaning) → Parameters → State → Rows Block → Job
job meaning p s table = job_of meaning p s table.entries

-- the tables that a job's tiles are cut from
abbrev pub job_tables : Job → Tables
job_tables j = state_tables j.state (record {
  entries = j.blocks;
  cols = j.parameters.w_in_b;
  rows = j.parameters.h_in_b;
})

-- tables have each tile's result inside the tile's rectangles, and elsewhere what stood there
abbrev pub IsCoded : Job → Tables → Type 0
IsCoded j c = AreCoded (tile_views j.results) (job_tables j) c

-- all that coding a tile group makes
pub record Outcome : Type 0 where
  pub bytes : List ℕ
  pub levels : List ℕ
  pub size_bytes : ℕ
  pub context_tile : ℕ
  pub coded : Tables
  pub reference : Three (List (List ℤ))

-- the planes, motion records, restoration units and blocks that the tiles were coded into
abbrev pub coded_of : Job → Tables
coded_of j = coded_tables (job_tables j) (tile_views j.results)

-- the picture of the reference: what was coded, after deblocking at these levels, CDEF and restoration
abbrev pub reference_of : Job → List ℕ → Tables → Three (List (List ℤ))
reference_of j levels c =
    visible_picture j.parameters
    (reference j.parameters (with_levels j.state.deblock levels) c)

-- the levels that coded planes and blocks are deblocked at
abbrev pub chosen_levels : Job → Tables → List ℕ
chosen_levels j c = levels_of j.parameters c.blocks.entries c.rec j.state.input

-- the tile whose contexts the next frame begins with: the last of the longest, or the state's own
abbrev pub context_tile_of : Job → ℕ
context_tile_of j =
    if j.parameters.disable_frame_end_update_cdf then j.state.context_update_tile_id
    else longest (tile_bytes j.results)

-- the outcome of a job whose results are accepted
abbrev pub outcome : Job → Outcome
outcome j = record {
  bytes = framed (tile_bytes j.results);
  levels = chosen_levels j (coded_of j);
  size_bytes = size_bytes (tile_bytes j.results);
  context_tile = context_tile_of j;
  coded = coded_of j;
  reference = reference_of j (chosen_levels j (coded_of j)) (coded_of j);
}

-- these bytes, this state and these blocks hold an outcome; all else of the state stays
pub record Holds (j : Job) (o : Outcome) (group : List ℕ) (s : State) (blocks : List Block) : Type 0 where
  pub group_bytes : group ≡ o.bytes
  pub state : s ≡ record j.state {
    rec = s.rec;
    frame_me_stats = o.coded.motion;
    restoration = o.coded.units;
    deblock = with_levels j.state.deblock o.levels;
    max_tile_size_bytes = o.size_bytes;
    context_update_tile_id = o.context_tile;
  }
  pub seen : visible_picture j.parameters s.rec ≡ o.reference
  pub coded_blocks : blocks ≡ o.coded.blocks.entries
  pub places : IsCoded j o.coded

-- what a coded job leaves
abbrev pub LeavesOutcome : Job → List ℕ → State → Rows Block → Type 0
LeavesOutcome j group s table = Holds j (outcome j) group s table.entries

-- no result of a job is refused
abbrev pub IsAccepted : Job → Type 0
IsAccepted j = refusal j.parameters j.results ≡ None

-- why a job isn't coded: want of memory, or the refusal of its results
abbrev pub IsCause : Job → GroupError → Type 0
IsCause j e = (e ≡ OutOfMemory) ⊎ (refusal j.parameters j.results ≡ Some e)
