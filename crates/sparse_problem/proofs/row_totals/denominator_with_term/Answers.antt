use Rattle.std.proofs.Common.{sym, ◌∙◌}
use Rattle.sparse_problem.proofs.TermWalks.{gone_with}
use Rattle.sparse_problem.proofs.row_totals.denominator_with_term.Goals as goal

pub returns-else-is_column_live-clause-some : goal.returns-else-is_column_live-clause-some
returns-else-is_column_live-clause-some c = gone_with c.args.parts.now c.args.common c.args.term.now c.requires.positive c.requires.short (sym c.is_column_live.ensures ∙ c.if-is_column_live.false)
