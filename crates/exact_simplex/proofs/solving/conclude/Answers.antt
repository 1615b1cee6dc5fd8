use Rattle.std.proofs.Common.{subst}
use Rattle.simplex_tableau.specs.Data.{shown}
use Rattle.simplex_tableau.specs.Programs.{minimized}
use Rattle.exact_simplex.specs.RunEnds.{RunEnds}
use Rattle.exact_simplex.specs.declared.runs.Ending.TheVariants.{Ended}
use Rattle.simplex_steps.specs.declared.steps.End.{End}
use Rattle.exact_simplex.proofs.AnswerLaws.{infeasible_of, unbounded_of}
use Rattle.exact_simplex.proofs.solving.conclude.Goals as goal

pub returns-in-Infeasible : goal.returns-in-Infeasible
returns-in-Infeasible c = λ N h. infeasible_of c.args.program.now (shown c.args.tableau.now) c.args.pivots N
    (subst (λ (e : End). RunEnds (minimized c.args.program.now) N (Ended e c.args.pivots) (shown c.args.tableau.now)) c.in-Infeasible.is h)

pub returns-in-Unbounded : goal.returns-in-Unbounded
returns-in-Unbounded c = λ N h. unbounded_of c.args.program.now (shown c.args.tableau.now) c.args.pivots N
    (subst (λ (e : End). RunEnds (minimized c.args.program.now) N (Ended e c.args.pivots) (shown c.args.tableau.now)) c.in-Unbounded.is h)
