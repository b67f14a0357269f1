-- What becomes of the bytes that a source has left, of the bytes that a sink has taken, and of the
-- counts of their faults.
use Rattle.std.specs.Prelude.{◌≡◌, ◌<◌, ◌-◌, ◌^◌, ◌⊎◌, ◌++◌, ℕ, List, length, Option}
use Rattle.std.specs.Io.KnownBytes.{Appends, Consumes}

-- a count rose, or stands at its greatest
abbrev pub Rose : ℕ → ℕ → Type 0
Rose before after = (before < after) ⊎ (after ≡ 2 ^ 64 - 1)

-- `count` bytes came off the front of what was left
abbrev pub LosesCount : Option (List ℕ) → Option (List ℕ) → ℕ → Type 0
LosesCount before after count = (taken : List ℕ) × Consumes before after taken × (length taken ≡ count)

-- a front of these bytes was appended
abbrev pub Prefixed : Option (List ℕ) → Option (List ℕ) → List ℕ → Type 0
Prefixed before after bytes = (front : List ℕ) × (rest : List ℕ) × (bytes ≡ front ++ rest) × Appends before after front
