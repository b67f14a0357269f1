-- What a run answers and prints, by its words and its text.
use Rattle.std.specs.Prelude.{◌≡◌, ◌⊎◌, Option, Some, None, IfSome, option_map, is_some, ℕ, ◌^◌, List, [], length, nat_lt, true, false, if◌then◌else◌, Ok, Err}
use Rattle.std.specs.Io.KnownBytes.{Appends}
use Rattle.av1_rec.specs.declared.program.commands.Command.{Command}
use Rattle.av1_rec.specs.declared.program.commands.Command.TheVariants.{Group, Tiles, Gen}
use Rattle.av1_rec.specs.declared.program.report.Form.TheVariants as forms
use Rattle.av1_rec.specs.declared.program.status.Status.{Status}
use Rattle.av1_rec.specs.declared.program.status.Status.TheVariants as status
use Rattle.av1_rec.specs.declared.text.fault.Fault.{Fault}
use Rattle.av1_rec.specs.declared.text.fault.Fault.TheVariants as faults
use Rattle.av1_rec.specs.Commands.{reads, asks_for_text}
use Rattle.av1_rec.specs.GridText.{grid_text}
use Rattle.av1_rec.specs.Group.{Answer, refused, group_answer}
use Rattle.av1_rec.specs.Statuses.{refusal_line}
use Rattle.av1_rec.specs.Generated.{generated, generated_header}
use Rattle.av1_rec.specs.Text.{tiling, tiled_header, text_of, line_number}
use Rattle.av1_rec.specs.Told.{Prefixed}

-- the answer where a text is wrong or has no tiling
abbrev pub fault_answer : List ℕ → Fault → Answer
fault_answer text (faults.Wrong left) = refused (status.Syntax (line_number text left))
fault_answer text faults.NoTiling = refused status.NoTiling

-- the answer to a text that isn't too long, with the report of its frame
unfoldable pub text_answer : List ℕ → Answer
text_answer text = elim (text_of text) [ Ok said ↦ group_answer forms.Report said | Err fault ↦ fault_answer text fault ]

-- the answer to a text with its tile grid, for which only the header is looked at
unfoldable pub grid_answer : List ℕ → Answer
grid_answer text = elim (tiled_header text) [ Ok h ↦ (status.Done, grid_text h.1) | Err fault ↦ fault_answer text fault ]

-- the answer to a number, with the summary of the frame that is made from it
unfoldable pub generated_answer : ℕ → Answer
generated_answer seed = elim (tiling generated_header) [
  | Ok t ↦ group_answer forms.Summary (generated generated_header t seed)
  | Err fault ↦ fault_answer [] fault
]

-- the answer to a command and a text; no number of workers changes it
abbrev pub answer_of : Command → List ℕ → Answer
answer_of (Group workers) text = text_answer text
answer_of Tiles text = grid_answer text
answer_of (Gen seed workers) text = generated_answer seed

-- the answer to a command and all that a source gave
unfoldable pub input_answer : Command → List ℕ → Answer
input_answer command text = if nat_lt (2 ^ 28) (length text) then refused status.TooLong else answer_of command text

-- the answer to the words and to a source with these bytes left; nothing is known where a text is
-- asked for and the source doesn't tell its bytes
unfoldable pub asked : Option Command → Option (List ℕ) → Option Answer
asked None left = Some (refused status.Usage)
asked (Some command) left =
    if reads command then option_map (input_answer command) left else Some (answer_of command [])

-- how a text alone may end a run
abbrev pub IsOfText : Status → Type 0
IsOfText status.Done = Unit {0}
IsOfText (status.Syntax line) = Unit {0}
IsOfText status.NoTiling = Unit {0}
IsOfText (status.Group error) = Unit {0}
IsOfText s = ⊥

-- how a run that makes its own frame may end: done, without memory, or with a write that failed
abbrev pub IsOfOwnFrame : Status → Type 0
IsOfOwnFrame status.Done = Unit {0}
IsOfOwnFrame status.OutOfMemory = Unit {0}
IsOfOwnFrame status.WriteFault = Unit {0}
IsOfOwnFrame s = ⊥

-- what is printed after a read that failed
abbrev pub read_refusal : List ℕ
read_refusal = refusal_line status.ReadFault

-- a status other than a fault of the streams or a want of memory
abbrev pub IsFaultless : Status → Type 0
IsFaultless status.OutOfMemory = ⊥
IsFaultless status.ReadFault = ⊥
IsFaultless status.WriteFault = ⊥
IsFaultless s = Unit {0}

-- the status and what is printed are those of the known answer
abbrev pub IsKnown : Option Answer → Status → List ℕ → Type 0
IsKnown known s printed = IfSome known (λ a. a ≡ (s, printed))

-- what was made of a command and what a source gave: a status and what is to be printed; `rose` says whether the
-- source's count of faults rose
abbrev pub Made : Option Command → Option Answer → Type 0 → Status → List ℕ → Type 0
Made command known rose status.OutOfMemory printed = printed ≡ []
Made command known rose status.ReadFault printed =
    (asks_for_text command ≡ true) × rose × (printed ≡ read_refusal)
Made command known rose status.WriteFault printed = ⊥
Made command known rose status.Usage printed = (is_some command ≡ false) × IsKnown known status.Usage printed
Made command known rose s printed = (is_some command ≡ true) × IsKnown known s printed

-- how writing ends a run
abbrev pub Finished : Status → List ℕ → Type 0 → Option (List ℕ) → Option (List ℕ) → Status → Type 0
Finished before printed rose old new after =
    ((after ≡ before) × Appends old new printed)
    ⊎ (((after ≡ status.WriteFault) × rose × Prefixed old new printed)
    ⊎ ((after ≡ status.OutOfMemory) × Prefixed old new printed))

-- a part of the known text was written, or, after a failed read, a part of that refusal's line
abbrev pub PartWritten : Option Command → Option Answer → Type 0 → Option (List ℕ) → Option (List ℕ) → Type 0
PartWritten command known read_rose old new =
    IfSome known (λ a. Prefixed old new a.1)
    ⊎ ((asks_for_text command ≡ true) × read_rose × Prefixed old new read_refusal)

-- the status is the known one, and the known text was written
abbrev pub KnownWritten : Option Answer → Option (List ℕ) → Option (List ℕ) → Status → Type 0
KnownWritten known old new s = IfSome known (λ a. (s ≡ a.0) × Appends old new a.1)

-- how a run ends, and what it has written: what the command and the source ask for, unless memory ran out or the
-- source's or the sink's count of faults rose; want of memory may come at any point, and leaves a part
abbrev pub Answered : Option Command → Option Answer → Type 0 → Type 0 → Option (List ℕ) → Option (List ℕ) → Status → Type 0
Answered command known read_rose write_rose old new status.OutOfMemory = PartWritten command known read_rose old new
Answered command known read_rose write_rose old new status.ReadFault =
    (asks_for_text command ≡ true) × read_rose × Appends old new read_refusal
Answered command known read_rose write_rose old new status.WriteFault =
    write_rose × PartWritten command known read_rose old new
Answered command known read_rose write_rose old new status.Usage =
    (is_some command ≡ false) × KnownWritten known old new status.Usage
Answered command known read_rose write_rose old new s = (is_some command ≡ true) × KnownWritten known old new s
