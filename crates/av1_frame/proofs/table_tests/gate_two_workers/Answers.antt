use Rattle.std.proofs.Common.{sym, ◌∙◌}
use Rattle.av1_frame.proofs.table_tests.gate_two_workers.Goals as goal

pub encode_tile_group-requires-clause-made_for : goal.encode_tile_group-requires-clause-made_for
encode_tile_group-requires-clause-made_for _ c κs =
    let frame = c.in_ok-fi.ensures in
    let table = c.in_ok-blocks.ensures in
    record {
      state = c.in_ok-fs.ensures;
      blocks = record { columns = table.cols ∙ sym frame.columns; rows = table.rows ∙ sym frame.rows };
    }
