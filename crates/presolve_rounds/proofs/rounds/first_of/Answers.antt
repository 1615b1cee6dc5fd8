use Rattle.presolve_rounds.proofs.Running.{first_there}
use Rattle.presolve_rounds.proofs.rounds.first_of.Goals as goal

pub returns-in-len1-up : goal.returns-in-len1-up
returns-in-len1-up c = first_there c.args.instances.now _ c.in-len1-up.len_at_least
