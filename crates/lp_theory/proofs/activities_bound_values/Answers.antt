use Rattle.lp_theory.proofs.ActivityLaws.{least-value, greatest-value}
use Rattle.lp_theory.proofs.activities_bound_values.Goals as goal

pub returns-clause-low : goal.returns-clause-low
returns-clause-low c = least-value

pub returns-clause-high : goal.returns-clause-high
returns-clause-high c = greatest-value
