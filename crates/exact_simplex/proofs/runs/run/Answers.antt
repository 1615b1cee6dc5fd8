use Rattle.std.proofs.Common.{◌≡◌, ℕ, Option, Some, None, sym, subst, arith}
use Rattle.tableau_laws.specs.Tableaus.{Tableau}
use Rattle.tableau_laws.specs.Keeping.{IsTableau}
use Rattle.simplex_laws.specs.Runs.{Comes}
use Rattle.simplex_laws.proofs.Steps.{makes_is_tableau}
use Rattle.simplex_steps.specs.declared.steps.End.{End}
use Rattle.simplex_steps.specs.Steps.{Says, Stands}
use Rattle.tableau_laws.proofs.Starts.{start_is_tableau}
use Rattle.simplex_tableau.specs.Data.{shown}
use Rattle.simplex_tableau.specs.Programs.{minimized}
use Rattle.exact_simplex.proofs.RunLaws.{comes_none, comes_more, run_past}
use Rattle.exact_simplex.proofs.runs.run.Goals as goal

pub loop-done-init : goal.loop-done-init
loop-done-init c = record {
  comes = comes_none (minimized c.args.program.now) c.args.pivots (shown c.args.tableau.now) c.requires.in_order c.requires.room c.requires.start;
  usable = c.requires.usable;
  tableau = subst (λ (t : Tableau). IsTableau (minimized c.args.program.now) t) (sym c.requires.start) (start_is_tableau (minimized c.args.program.now));
}

pub returns-in_default : goal.returns-in_default
returns-in_default c = run_past (minimized c.args.program.now) c.args.pivots c.loop-done.done (shown c.loop-done.tableau) c.loop-done-test.true c.loop-done.invariant.comes c.in_default.ensures.past

pub returns-in-Some : goal.returns-in-Some
returns-in-Some c =
    let says : Says (minimized c.args.program.now) (shown c.loop-done.tableau) (Some c.in-Some.end) (shown c.step.new.tableau) =
    subst (λ (o : Option End). Says (minimized c.args.program.now) (shown c.loop-done.tableau) o (shown c.step.new.tableau)) c.in-Some.is c.in-Ok.ensures.says in (
      subst (λ (t : Tableau). Comes (minimized c.args.program.now) c.args.pivots c.loop-done.done t) (sym says.0) c.loop-done.invariant.comes,
      subst (λ (t : Tableau). Stands (minimized c.args.program.now) t c.in-Some.end) (sym says.0) says.1,
    )

pub loop-done-preserved : goal.loop-done-preserved
loop-done-preserved c =
    let says : Says (minimized c.args.program.now) (shown c.loop-done.tableau) None (shown c.step.new.tableau) =
    subst (λ (o : Option End). Says (minimized c.args.program.now) (shown c.loop-done.tableau) o (shown c.step.new.tableau)) c.in_default-said.is c.in-Ok.ensures.says in
    record {
      comes = comes_more (minimized c.args.program.now) c.args.pivots c.loop-done.done (shown c.loop-done.tableau) (shown c.step.new.tableau) c.loop-done-test.true c.loop-done.invariant.comes says.0 says.1;
      usable = c.in-Ok.ensures.usable;
      tableau = makes_is_tableau (minimized c.args.program.now) (shown c.loop-done.tableau) c.loop-done.invariant.tableau says.0 (shown c.step.new.tableau) says.1;
    }

pub returns-in-None : goal.returns-in-None
returns-in-None c =
    let e : c.loop-done.done ≡ c.args.pivots = omega (arith, c.loop-done-test.false, c.loop-done.invariant.comes.few) in (
      shown c.loop-done.tableau,
      subst (λ (k : ℕ). Comes (minimized c.args.program.now) c.args.pivots k (shown c.loop-done.tableau)) e c.loop-done.invariant.comes,
      c.in-None.ensures,
    )
