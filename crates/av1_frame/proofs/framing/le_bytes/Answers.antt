use Rattle.std.proofs.Common.{◌≡◌, ◌+◌, ◌-◌, ◌/◌, ◌++◌, ap, arith, ◌∙◌, List, ℕ}
use Rattle.arrayvec.specs.ArrayVec.{array_vec_len}
use Rattle.av1_frame.specs.Framing.{little_endian}
use Rattle.av1_frame.proofs.Framings.{bytes_more, bytes_done}
use Rattle.av1_frame.proofs.framing.le_bytes.Goals as goal

pub loop-preserved : goal.loop-preserved
loop-preserved c = (
  let pushed = c.push.ensures.len in let so_far = c.loop.invariant.0 in omega arith,
  ap (λ (xs : List ℕ). xs ++ little_endian (c.args.count - (c.loop.counter + 1)) (c.loop.rest / 256)) c.push.ensures.items
      ∙ bytes_more c.args.count c.loop.counter c.args.number c.loop.rest c.loop.bytes.items c.loop-test.true c.loop.invariant.1,
)

pub returns : goal.returns
returns c = bytes_done c.args.count c.loop.counter c.args.number c.loop.rest c.loop.bytes.items (omega arith) c.loop.invariant.1
