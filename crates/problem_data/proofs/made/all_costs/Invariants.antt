use Rattle.std.proofs.Common.{◌≡◌, map, take}
use Rattle.lp_model.specs.Turning.{signed}
use Rattle.problem_data.proofs.made.all_costs.Given as goal

-- the costs of the columns so far
abbrev pub invariant-loop-column : goal.invariant-loop-column
invariant-loop-column l = l.costs.items ≡ map (λ c. signed l.sense c.cost) (take l.column-index l.columns)
