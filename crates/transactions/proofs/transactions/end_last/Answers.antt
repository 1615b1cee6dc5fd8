use Rattle.transactions.proofs.Cuts.{last_set_as}
use Rattle.transactions.proofs.transactions.end_last.Goals as goal

pub returns-then-count-gt0 : goal.returns-then-count-gt0
returns-then-count-gt0 c = last_set_as _ _ _ _ c.args.end c.as_slice-count.ensures.value c.if-count-gt0.true c.index_mut.ensures.value
