use Rattle.round_laws.proofs.Rounds.{passed_marked, passed_round}
use Rattle.round_laws.proofs.passes.passes_are_rounds.Goals as goal

pub returns-clause-round : goal.returns-clause-round
returns-clause-round c = passed_round

pub returns-clause-marked : goal.returns-clause-marked
returns-clause-marked c = passed_marked
