use Rattle.std.proofs.Common.{◌≡◌, ◌-◌, ◌++◌}
use Rattle.arrayvec.specs.ArrayVec.{array_vec_len}
use Rattle.av1_frame.specs.Framing.{little_endian}
use Rattle.av1_frame.proofs.framing.le_bytes.Given as goal

-- The bytes written and the bytes of the rest of the number are the number's bytes.
abbrev pub invariant-loop : goal.invariant-loop
invariant-loop l =
    (array_vec_len l.bytes ≡ l.counter)
    × (l.bytes.items ++ little_endian (l.count - l.counter) l.rest ≡ little_endian l.count l.number)
