use Rattle.activity_rules.proofs.Tightened.{named_where}
use Rattle.activity_rules.proofs.bound_tightening.is_in_row.Goals as goal

pub returns : goal.returns
returns c = named_where c.args.problem.now c.args.row c.args.column c.is_zero.result c.entry_of.result c.is_sparse.ensures c.entry_of.ensures c.is_zero.ensures.same
