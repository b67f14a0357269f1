use Rattle.std.proofs.Common.{◌≡◌, arith}
use Rattle.std.specs.Prelude.{length}
use Rattle.av1_frame.proofs.Framings.{four_bytes}
use Rattle.av1_frame.proofs.reading.split_tile.Goals as goal

pub overflow_add-number_of : goal.overflow_add-number_of
overflow_add-number_of c =
    let parts = c.in_ok-size.ensures.cases in
    let small = four_bytes c.number_of.result (length c.in_ok-size.size.now) c.number_of.ensures.bound (omega arith) in
    omega arith
