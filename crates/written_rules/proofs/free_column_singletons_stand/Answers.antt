use Rattle.written_rules.proofs.SoleColumns.{free_column_singleton_computes, free_column_singleton_enabled}
use Rattle.written_rules.proofs.free_column_singletons_stand.Goals as goal

pub returns : goal.returns
returns c = λ n p q j i s on live. (free_column_singleton_enabled n p q s j i on live, free_column_singleton_computes n p q s j i on live)
