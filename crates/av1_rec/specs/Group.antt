-- What a text that is read asks for: a status, and what is printed.
use Rattle.std.specs.Prelude.{ℕ, ℤ, List, [], ◌∷◌, nat_lt, Some, None}
use Rattle.av1_plane.specs.declared.sampling.ChromaSampling.{ChromaSampling}
use Rattle.av1_plane.specs.declared.sampling.ChromaSampling.TheVariants.{Cs420, Cs422, Cs444, Cs400}
use Rattle.av1_plane.specs.declared.three.Three.{Three}
use Rattle.av1_tiling.specs.Frames.{Parameters, State}
use Rattle.av1_frame.specs.Coding.{refusal}
use Rattle.av1_frame.specs.Outcome.{Job, job_of, outcome}
use Rattle.av1_frame.specs.Reference.{visible_picture}
use Rattle.av1_rec.specs.declared.program.report.Form.{Form}
use Rattle.av1_rec.specs.declared.program.report.Form.TheVariants as forms
use Rattle.av1_rec.specs.declared.program.status.Status.{Status}
use Rattle.av1_rec.specs.declared.program.status.Status.TheVariants as status
use Rattle.av1_rec.specs.Begin.{start_state, start_blocks}
use Rattle.av1_rec.specs.Parameters.{frame_parameters}
use Rattle.av1_rec.specs.Recorded.{recorded_meaning}
use Rattle.av1_rec.specs.Report.{Reported, report}
use Rattle.av1_rec.specs.Summary.{summary}
use Rattle.av1_rec.specs.Statuses.{refusal_line}
use Rattle.av1_rec.specs.Text.{Said}

-- the status of a run, and what is printed
abbrev pub Answer : Type 0
Answer = Status × List ℕ

-- the answer of a refusal, with its line
abbrev pub refused : Status → Answer
refused s = (s, refusal_line s)

-- the job of a text's frame, whose results are those in the text
abbrev pub said_job : Said → Job
said_job s =
    let p = frame_parameters s.header s.tiling in
    job_of (recorded_meaning s.tiling s.tiles) p (start_state s.header s.tiling s.source) (start_blocks p)

-- the planes that a frame has
abbrev pub planes_of : ChromaSampling → Three (List (List ℤ)) → List (List (List ℤ))
planes_of Cs400 f = f.y ∷ []
planes_of Cs420 f = f.y ∷ f.u ∷ f.v ∷ []
planes_of Cs422 f = f.y ∷ f.u ∷ f.v ∷ []
planes_of Cs444 f = f.y ∷ f.u ∷ f.v ∷ []

-- what is to be reported of a state and of a group's bytes
abbrev pub shown : Parameters → State → List ℕ → Reported
shown p s group = record {
  levels = s.deblock.levels;
  size_bytes = s.max_tile_size_bytes;
  context_tile = s.context_update_tile_id;
  group = group;
  wide = nat_lt 8 p.sequence.bit_depth;
  planes = planes_of p.sequence.chroma_sampling (visible_picture p s.rec);
}

-- what is reported of a job's outcome
abbrev pub reported : Job → Reported
reported j =
    let o = outcome j in
    record {
      levels = o.levels;
      size_bytes = o.size_bytes;
      context_tile = o.context_tile;
      group = o.bytes;
      wide = nat_lt 8 j.parameters.sequence.bit_depth;
      planes = planes_of j.parameters.sequence.chroma_sampling o.reference;
    }

-- the text of what is reported
abbrev pub reported_text : Form → Reported → List ℕ
reported_text forms.Report r = report r
reported_text forms.Summary r = summary r

-- the report or the summary of a text's outcome, or why its results are refused
unfoldable pub group_answer : Form → Said → Answer
group_answer form s =
    let job = said_job s in
    elim (refusal job.parameters job.results) [
      | Some error ↦ refused (status.Group error)
      | None ↦ (status.Done, reported_text form (reported job))
    ]
