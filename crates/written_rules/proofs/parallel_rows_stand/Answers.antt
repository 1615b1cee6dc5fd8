use Rattle.written_rules.proofs.Parallels.{parallel_rows_computes, parallel_rows_enabled}
use Rattle.written_rules.proofs.parallel_rows_stand.Goals as goal

pub returns : goal.returns
returns c = λ n p q i k s first second. (parallel_rows_enabled n p q s i k first second, parallel_rows_computes n p q s i k first second)
