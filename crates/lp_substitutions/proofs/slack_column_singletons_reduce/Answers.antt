use Rattle.lp_substitutions.proofs.SlackColumnSingleton.{slack_kept_reduces, slack_kept_pairs, slack_dropped_reduces, slack_dropped_pairs}
use Rattle.lp_substitutions.proofs.slack_column_singletons_reduce.Goals as goal

pub returns-clause-kept_points : goal.returns-clause-kept_points
returns-clause-kept_points c = λ s M j i d. slack_kept_reduces M j i d s

pub returns-clause-kept_pairs : goal.returns-clause-kept_pairs
returns-clause-kept_pairs c = slack_kept_pairs

pub returns-clause-dropped_points : goal.returns-clause-dropped_points
returns-clause-dropped_points c = λ s M j i d. slack_dropped_reduces M j i d s

pub returns-clause-dropped_pairs : goal.returns-clause-dropped_pairs
returns-clause-dropped_pairs c = slack_dropped_pairs
