use Rattle.std.proofs.Common.{◌≡◌, false}
use Rattle.tableau_laws.specs.Keeping.{IsTableau}
use Rattle.simplex_laws.specs.Runs.{Comes}
use Rattle.simplex_tableau.specs.Data.{shown}
use Rattle.simplex_tableau.specs.Programs.{minimized}
use Rattle.exact_simplex.proofs.runs.run.Given as goal

-- the run has come so far
abbrev pub invariant-loop-done : goal.invariant-loop-done
invariant-loop-done l = record {
  comes : Comes (minimized l.program) l.pivots l.done (shown l.tableau);
  usable : l.tableau.spent ≡ false;
  tableau : IsTableau (minimized l.program) (shown l.tableau);
}
