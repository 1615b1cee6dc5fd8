use Rattle.run_laws.proofs.Concluding.{concluded_same, decided_same, not_both}
use Rattle.run_laws.proofs.conclusions_are_one.Goals as goal

pub returns-clause-reduced : goal.returns-clause-reduced
returns-clause-reduced c = concluded_same

pub returns-clause-decided : goal.returns-clause-decided
returns-clause-decided c = decided_same

pub returns-clause-apart : goal.returns-clause-apart
returns-clause-apart c = not_both
