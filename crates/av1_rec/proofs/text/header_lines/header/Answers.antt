use Rattle.av1_rec.proofs.text.header_lines.header.Goals as goal

pub returns-clause-right : goal.returns-clause-right
returns-clause-right c = record {
  width = rw c.in_ok-format.ensures.ok_part at c.frame_line.ensures.width;
  height = rw c.in_ok-format.ensures.ok_part at c.frame_line.ensures.height;
  depth = rw c.in_ok-format.ensures.ok_part at c.frame_line.ensures.depth;
  shift = rw c.in_ok-deblock.ensures.ok_part at c.deltas_line.ensures.shift;
  damping = rw c.in_ok-cdef.ensures.ok_part at c.cdef_line.ensures.damping;
  y_strengths = rw c.in_ok-cdef.ensures.ok_part at c.cdef_line.ensures.y_strengths;
  uv_strengths = rw c.in_ok-cdef.ensures.ok_part at c.cdef_line.ensures.uv_strengths;
  large = rw c.in_ok-switches.ensures.ok_part at c.switches_line.ensures.large;
}
