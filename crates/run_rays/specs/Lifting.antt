-- The ray of a run that ended with no feasible point: that of its verdict, taken back over its history.
use Rattle.std.specs.Prelude.{◌≡◌, true, List, [], ◌∷◌}
use Rattle.fractions.specs.declared.Numbers.{Numbers}
use Rattle.lp_model.specs.ProgramData.{ProgramData}
use Rattle.lp_rays.specs.Ray.{Weights}
use Rattle.ray_steps.specs.StepBack.{StepBack, lift_ray, step_of}
use Rattle.ray_starts.specs.Starts.{start_of}
use Rattle.problem_model.specs.Programs.{IsProblemOf}
use Rattle.problem_model.specs.Showing.{shown}
use Rattle.problem_model.specs.Sparse.{Sparse}
use Rattle.presolve_model.specs.declared.instance.Instance.TheVariants as at
use Rattle.presolve_model.specs.declared.instance.Reduction.{Reduction}
use Rattle.presolve_model.specs.declared.instance.Verdict.{Verdict}
use Rattle.presolve_model.specs.Changes.{changed}
use Rattle.presolve_model.specs.Enabled.{enabled_on}
use Rattle.presolve_model.specs.Replay.{replay, Replays}
use Rattle.presolve_model.specs.Tables.{record_of}

-- the step back over each reduction: its record, and which of its ends had moved in the problem after it
abbrev pub steps_along : Sparse → List Reduction → List StepBack
steps_along p [] = []
steps_along p (r ∷ rs) = step_of (record_of r p) (shown (changed r p)) ∷ steps_along (changed r p) rs

-- the weights of the verdict, on what the history leaves of p
abbrev pub last_weights : Sparse → List Reduction → Verdict → Weights
last_weights p rs v = start_of (shown (replay p rs)) v

abbrev pub ray_of : Sparse → List Reduction → Verdict → Weights
ray_of p rs v = lift_ray (steps_along p rs) (last_weights p rs v)

-- the reductions of the history can be applied to the program's problem, one after the other, and the verdict is enabled on what they leave
pub record IsEndOf (numbers : Numbers) (program : ProgramData) (history : List Reduction) (verdict : Verdict) : Type 0 where
  pub start : Sparse
  pub opened : IsProblemOf program start
  pub replays : Replays numbers start history
  pub enabled : enabled_on (replay start history) (at.Verdict verdict) ≡ true
