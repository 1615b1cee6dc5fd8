use Rattle.std.proofs.Common.{sym, ◌∙◌}
use Rattle.kept_sums.proofs.Totals.{end_heavy}
use Rattle.kept_sums.proofs.row_totals.sum_with.Goals as goal

pub returns-in_default-clause-none : goal.returns-in_default-clause-none
returns-in_default-clause-none c = end_heavy _ _ c.args.denominator c.args.sum.now (sym c.in_default.is ∙ c.end_of.ensures.exact) c.requires.positive c.requires.short c.requires.over
