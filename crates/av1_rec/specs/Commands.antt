-- The command words: `group N`, `tiles` and `gen K N`, the numbers of 32 bits, without sign or leading zero.
use Rattle.std.specs.Prelude.{ℕ, List, [], ◌∷◌, length, Bool, true, false, ◌==◌, if◌then◌else◌, Option, Some, None, codes}
use Rattle.av1_rec.specs.declared.program.commands.Command.{Command}
use Rattle.av1_rec.specs.declared.program.commands.Command.TheVariants.{Group, Tiles, Gen}
use Rattle.av1_rec.specs.Fields.{◌>>=◌, tag, number_in}

-- whether a word is the given bytes
abbrev pub is_word : List ℕ → List ℕ → Bool
is_word word bytes = elim (tag word bytes) [ Some rest ↦ length rest == 0 | None ↦ false ]

-- the number that a word spells
unfoldable pub word_number : List ℕ → Option ℕ
word_number bytes = do
  n ← number_in 0 4294967295 bytes
  if length n.1 == 0 then Some n.0 else None

-- the command `tiles`, which has no further word
unfoldable pub tiles_command : List ℕ → Option Command
tiles_command name = if is_word (codes "tiles") name then Some Tiles else None

-- the command `group N`
unfoldable pub group_command : List ℕ → List ℕ → Option Command
group_command name n = if is_word (codes "group") name then (do
  workers ← word_number n
  Some (Group workers)) else None

-- the command `gen K N`
unfoldable pub gen_command : List ℕ → List ℕ → List ℕ → Option Command
gen_command name k n = if is_word (codes "gen") name then (do
  seed ← word_number k
  workers ← word_number n
  Some (Gen seed workers)) else None

-- the command that the words spell, if any
unfoldable pub command_of : List (List ℕ) → Option Command
command_of [] = None
command_of (name ∷ []) = tiles_command name
command_of (name ∷ n ∷ []) = group_command name n
command_of (name ∷ k ∷ n ∷ []) = gen_command name k n
command_of (name ∷ k ∷ n ∷ more ∷ words) = None

-- whether a command reads a text
abbrev pub reads : Command → Bool
reads (Group workers) = true
reads Tiles = true
reads (Gen seed workers) = false

-- whether there is a command and it reads a text
abbrev pub asks_for_text : Option Command → Bool
asks_for_text None = false
asks_for_text (Some command) = reads command

-- whether there is a command and it makes its own frame
abbrev pub makes_frame : Option Command → Bool
makes_frame None = false
makes_frame (Some (Group workers)) = false
makes_frame (Some Tiles) = false
makes_frame (Some (Gen seed workers)) = true
