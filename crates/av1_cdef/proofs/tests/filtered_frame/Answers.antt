use Rattle.av1_cdef.proofs.tests.filtered_frame.Goals as goal

pub filter_small-requires-clause-sizes : goal.filter_small-requires-clause-sizes
filter_small-requires-clause-sizes c = c.in_ok-fi.ensures.sizes
