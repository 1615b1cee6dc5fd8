-- What the text of a ray tells of the program of a text, by the run that found no feasible point.
use Rattle.std.specs.Prelude.{◌≡◌, ℕ, List, [], ◌∷◌, ◌++◌, length, codes}
use Rattle.std.specs.Fmt.{decimal}
use Rattle.lp_model.specs.Meaning.{meaning}
use Rattle.lp_model.specs.Names.{names_of_columns, names_of_rows}
use Rattle.lp_model.specs.ProgramData.{ProgramData}
use Rattle.lp_rays.specs.Ray.{Ray}
use Rattle.lp_rays.specs.RayData.{IsSized, RayData, weights_of}
use Rattle.ray_steps.specs.RayRoom.{LiftFits, RayStopsAt}
use Rattle.ray_text.specs.RayText.{HasRoom, ray_text}
use Rattle.problem_model.specs.Programs.{IsProblemOf}
use Rattle.problem_model.specs.Sparse.{Sparse}
use Rattle.presolve_model.specs.declared.instance.Reduction.{Reduction}
use Rattle.presolve_model.specs.declared.instance.Verdict.{Verdict}
use Rattle.run_rays.specs.Lifting.{last_weights, ray_of, steps_along}
use Rattle.endings.specs.Ending.{infeasible_line}

-- a text holds a ray of the program, which proves that it has no feasible point: that of the verdict, taken back over the history
pub record TellsRay (program : ProgramData) (history : List Reduction) (verdict : Verdict) (text : List ℕ) : Type 0 where
  pub ray : RayData
  pub sized : IsSized (length program.rows) (length program.columns) ray
  pub room : HasRoom ray
  pub proves : Ray (meaning program) (weights_of ray)
  pub lifted : (p : Sparse) → IsProblemOf program p → weights_of ray ≡ ray_of p history verdict
  pub fits : (p : Sparse) → IsProblemOf program p → LiftFits (steps_along p history) (last_weights p history verdict)
  pub written : text ≡ ray_text (names_of_rows program.rows) (names_of_columns program.columns) ray

-- a number has no room where the record of this number is undone, the first one being 1, and none where those after it are
abbrev pub StopsAt : ProgramData → List Reduction → Verdict → ℕ → Type 0
StopsAt program history verdict at = (p : Sparse) → IsProblemOf program p → RayStopsAt (steps_along p history) (last_weights p history verdict) at

-- what is said then
abbrev pub past_lines : ℕ → List ℕ
past_lines at = infeasible_line ++ (codes "ray past record " ++ (decimal at ++ 10 ∷ []))
