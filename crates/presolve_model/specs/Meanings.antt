-- What a verdict means of a linear program, in a sense.
use Rattle.std.specs.Prelude.{Bool, true, false}
use Rattle.lp_model.specs.declared.program.Sense.{Sense}
use Rattle.lp_model.specs.LinearProgram.{LinearProgram}
use Rattle.lp_model.specs.Verdicts.{NoPoint, NoPointOrEndless}
use Rattle.presolve_model.specs.declared.instance.Verdict.{Verdict}
use Rattle.presolve_model.specs.declared.instance.Verdict.TheVariants.{CrossedBounds, CrossedSides, InfeasibleRow, UnboundedColumn}

abbrev pub Meant : Verdict → Sense → LinearProgram → Type 0
Meant (CrossedBounds j) d M = NoPoint M
Meant (CrossedSides i) d M = NoPoint M
Meant (InfeasibleRow i) d M = NoPoint M
Meant (UnboundedColumn j) d M = NoPointOrEndless d M

-- whether it says that no point is feasible
abbrev pub says_no_point : Verdict → Bool
says_no_point (CrossedBounds j) = true
says_no_point (CrossedSides i) = true
says_no_point (InfeasibleRow i) = true
says_no_point (UnboundedColumn j) = false
