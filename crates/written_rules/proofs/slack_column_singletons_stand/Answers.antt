use Rattle.written_rules.proofs.SoleColumns.{slack_column_singleton_computes, slack_column_singleton_enabled}
use Rattle.written_rules.proofs.slack_column_singletons_stand.Goals as goal

pub returns : goal.returns
returns c = λ n p q j i s on live. (slack_column_singleton_enabled n p q s j i on live, slack_column_singleton_computes n p q s j i on live)
