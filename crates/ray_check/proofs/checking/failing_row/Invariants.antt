use Rattle.lp_rays.specs.RayData.{weights_of}
use Rattle.ray_check.specs.Deciding.{RowsPass}
use Rattle.ray_check.proofs.checking.failing_row.Given as goal

-- the rows so far pass
abbrev pub invariant-loop-i : goal.invariant-loop-i
invariant-loop-i l = RowsPass l.program (weights_of l.ray) l.i
