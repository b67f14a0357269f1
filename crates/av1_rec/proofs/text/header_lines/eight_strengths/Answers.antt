use Rattle.av1_rec.proofs.Strengths.{eight_within}
use Rattle.av1_rec.proofs.text.header_lines.eight_strengths.Goals as goal

pub returns-clause-within : goal.returns-clause-within
returns-clause-within c =
    eight_within c.in_ok-a.a c.in_ok-b.b c.in_ok-c.c c.in_ok-d.d c.in_ok-e.e c.in_ok-f.f c.in_ok-g.g c.in_ok-h.h
    c.in_ok-a.ensures.within c.in_ok-b.ensures.within c.in_ok-c.ensures.within c.in_ok-d.ensures.within c.in_ok-e.ensures.within c.in_ok-f.ensures.within c.in_ok-g.ensures.within c.in_ok-h.ensures.within
