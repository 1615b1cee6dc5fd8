use Rattle.written_rules.proofs.Parallels.{parallel_columns_computes, parallel_columns_enabled}
use Rattle.written_rules.proofs.parallel_columns_stand.Goals as goal

pub returns : goal.returns
returns c = λ n p q j k s first second. (parallel_columns_enabled n p q s j k first second, parallel_columns_computes n p q s j k first second)
