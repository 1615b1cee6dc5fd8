use Rattle.std.proofs.Common.{◌≡◌, ◌++◌, length}
use Rattle.presolve_model.specs.Replay.{replay, Replays}
use Rattle.run_rays.specs.Lifting.{steps_along}
use Rattle.run_rays.proofs.steps.steps_of.Given as goal

-- what is left can be applied, and the steps over it come behind those that were made
abbrev pub invariant-loop-rest : goal.invariant-loop-rest
invariant-loop-rest l = Replays l.numbers l.problem l.rest × (l.steps.items ++ steps_along l.problem l.rest ≡ steps_along l.fn.problem l.history) × (replay l.problem l.rest ≡ replay l.fn.problem l.history)

abbrev pub decreases-loop-rest : goal.decreases-loop-rest
decreases-loop-rest l = length l.rest
