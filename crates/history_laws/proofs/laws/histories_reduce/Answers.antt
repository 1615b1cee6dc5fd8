use Rattle.history_laws.proofs.Histories.{history_pairs, history_reduces}
use Rattle.history_laws.proofs.Keeping.{verdict_means}
use Rattle.history_laws.proofs.laws.histories_reduce.Goals as goal

pub returns-clause-reduces : goal.returns-clause-reduces
returns-clause-reduces c = history_reduces

pub returns-clause-pairs : goal.returns-clause-pairs
returns-clause-pairs c = history_pairs

pub returns-clause-verdict : goal.returns-clause-verdict
returns-clause-verdict c = verdict_means
