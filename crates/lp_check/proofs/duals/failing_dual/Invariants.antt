use Rattle.std.proofs.Common.{length, map}
use Rattle.lp_model.specs.Vectors.{Vector, vector_of}
use Rattle.lp_model.specs.Meaning.{meaning}
use Rattle.lp_check.specs.declared.verdicts.Item.TheVariants.{Cost}
use Rattle.lp_check.specs.Deciding.{EarlierPassIn}
use Rattle.lp_check.specs.DecidingPairs.{DualsPass}
use Rattle.lp_check.specs.Summing.{AreRowSumsIn}
use Rattle.lp_check.proofs.duals.failing_dual.Given as goal

-- the duals so far pass
abbrev pub invariant-loop-i : goal.invariant-loop-i
invariant-loop-i g l = (x : Vector) → AreRowSumsIn g.T.Exact.number g.T.Exact.room (meaning l.program) x (length l.program.columns) l.sums → EarlierPassIn g.T.Exact.room (meaning l.program) x Cost
    → DualsPass l.program.sense (meaning l.program) x (vector_of (map g.T.Exact.number l.duals)) l.i
