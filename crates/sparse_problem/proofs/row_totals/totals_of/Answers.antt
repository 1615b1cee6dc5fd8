use Rattle.row_spans.specs.Spans.{spans_among}
use Rattle.kept_sums.proofs.Walks.{not_tame}
use Rattle.sparse_problem.proofs.TermWalks.{if_none}
use Rattle.sparse_problem.proofs.row_totals.totals_of.Goals as goal

pub returns-in_err-sums-clause-none : goal.returns-in_err-sums-clause-none
returns-in_err-sums-clause-none c = if_none c.from_residual-in_err-sums.result
    (not_tame (spans_among c.args.parts.now c.args.terms.now) c.in_ok-denominator.denominator c.in_ok-denominator.ensures.some c.in_err-sums.ensures.none)
