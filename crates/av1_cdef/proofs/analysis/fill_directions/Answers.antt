use Rattle.std.proofs.Common.{◌≡◌, arith}
use Rattle.av1_cdef.proofs.Analyses.{columns_none, columns_more, columns_next, columns_done}
use Rattle.av1_cdef.proofs.analysis.fill_directions.Goals as goal

pub loop-i-init : goal.loop-i-init
loop-i-init g c = columns_none _ _ _ _ c.requires.shape

pub loop-j-preserved : goal.loop-j-preserved
loop-j-preserved g c =
    columns_more _ _ _ _ _ _ _ _ _ (omega arith) (omega arith) c.loop-j.invariant c.put.ensures.shape
    c.find_filtered-direction.ensures.direction c.find_filtered-direction.ensures.variance c.put.ensures.dir c.put.ensures.var

pub loop-i-preserved : goal.loop-i-preserved
loop-i-preserved g c = let e : c.loop-j.j ≡ 8 = omega arith in columns_next _ _ _ _ _ (rw e at c.loop-j.invariant)

pub returns : goal.returns
returns g c = let e : c.loop-i.i ≡ 8 = omega arith in columns_done _ _ _ _ (rw e at c.loop-i.invariant)
