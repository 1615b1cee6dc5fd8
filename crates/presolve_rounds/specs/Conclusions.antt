-- What presolve concludes of a program.
use Rattle.std.specs.Prelude.{◌≡◌, true, false}
use Rattle.lp_model.specs.Meaning.{meaning}
use Rattle.lp_model.specs.ProgramData.{ProgramData}
use Rattle.lp_model.specs.Verdicts.{NoPoint, NoPointOrEndless}
use Rattle.presolve_model.specs.declared.conclusion.Options.{Options}
use Rattle.presolve_model.specs.Conclusions.{Concluded, Decided}
use Rattle.presolve_model.specs.Meanings.{says_no_point}
use Rattle.presolve_model.specs.Workers.{Workers}
use Rattle.presolve_rounds.specs.declared.outcome.Presolved.{Presolved}
use Rattle.presolve_rounds.specs.declared.outcome.Presolved.TheVariants.{Reduced, Infeasible, UnboundedOrInfeasible}

-- What it was reduced to; or a history that ends in a verdict, and what follows: where the verdict says that no point is feasible, that none
-- is; else that each feasible point, if there is one, gives others of any cost.
abbrev pub Concludes : Options → Workers → ProgramData → Presolved → Type 0
Concludes options workers program (Reduced made) = Concluded options workers program made.program made.records made.end
Concludes options workers program (Infeasible made) =
    Decided options workers program made.history.items made.verdict × (says_no_point made.verdict ≡ true) × NoPoint (meaning program)
Concludes options workers program (UnboundedOrInfeasible made) =
    Decided options workers program made.history.items made.verdict × (says_no_point made.verdict ≡ false) × NoPointOrEndless program.sense (meaning program)
