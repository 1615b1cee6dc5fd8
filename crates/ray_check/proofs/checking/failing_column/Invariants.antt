use Rattle.lp_rays.specs.RayData.{weights_of}
use Rattle.ray_check.specs.Deciding.{ColumnsPass}
use Rattle.ray_check.proofs.checking.failing_column.Given as goal

-- the columns so far pass
abbrev pub invariant-loop-j : goal.invariant-loop-j
invariant-loop-j l = ColumnsPass l.program (weights_of l.ray) l.j
