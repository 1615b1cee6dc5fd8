use Rattle.parallel_column_rules.proofs.Looks.{not_none}
use Rattle.parallel_column_rules.proofs.factor.factor_of.Goals as goal

pub unreachable-requires : goal.unreachable-requires
unreachable-requires c = not_none c.args.problem.now c.args.column c.args.other c.factor_if.result c.requires c.factor_if.ensures c.in-None.is
