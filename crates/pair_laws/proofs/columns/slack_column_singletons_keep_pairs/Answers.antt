use Rattle.pair_laws.proofs.ColumnPairs.{slack_dropped, slack_kept}
use Rattle.pair_laws.proofs.columns.slack_column_singletons_keep_pairs.Goals as goal

pub returns-clause-kept : goal.returns-clause-kept
returns-clause-kept c = slack_kept

pub returns-clause-dropped : goal.returns-clause-dropped
returns-clause-dropped c = slack_dropped
