use Rattle.std.proofs.Common.{arith}
use Rattle.av1_lrf.proofs.vert_padded.VertPaddedIter.new.Goals as goal

pub invariant_of-result : goal.invariant_of-result
invariant_of-result g c =
    let h = c.requires.enhanced in
    record {
      look = record {
        enhanced = h;
        deblocked = record { some_width = h.some_width; some_height = h.some_height; wide = rw c.requires.shape h.wide; high = rw c.requires.shape h.high; small_width = h.small_width; small_height = h.small_height };
        start = omega arith;
        stop = omega arith;
        near = omega (arith, h.small_height);
      };
      near = omega (arith, h.small_height);
    }
