-- How a run ends.
use Rattle.std.specs.Prelude.{ℕ}
use Rattle.lp_model.specs.LinearProgram.{LinearProgram}
use Rattle.tableau_laws.specs.Tableaus.{Tableau}
use Rattle.simplex_laws.specs.Runs.{Comes, EndsSpent, EndsPast}
use Rattle.exact_simplex.specs.declared.runs.Ending.{Ending}
use Rattle.exact_simplex.specs.declared.runs.Ending.TheVariants.{Ended, Spent, Past}
use Rattle.simplex_steps.specs.Steps.{Stands}

-- after k of at most N steps the rules ask for no further one; or they ask for more than N; or a number has no room. t is the last tableau
abbrev pub RunEnds : LinearProgram → ℕ → Ending → Tableau → Type 0
RunEnds M N (Ended end k) t = Comes M N k t × Stands M t end
RunEnds M N Spent t = EndsSpent M N
RunEnds M N (Past k) t = EndsPast M N k
