use Rattle.std.proofs.Common.{List, sym, subst}
use Rattle.lp_model.specs.declared.terms.Term.{Term}
use Rattle.row_spans.specs.Spans.{spans_among}
use Rattle.kept_sums.proofs.Walks.{IsDenominatorOf, denominator_first}
use Rattle.sparse_problem.proofs.Mending.{after_is}
use Rattle.sparse_problem.proofs.TermWalks.{denominator_off, denominator_on, if_none}
use Rattle.sparse_problem.proofs.row_totals.denominator_of.Goals as goal

pub loop-rest-init : goal.loop-rest-init
loop-rest-init c = denominator_first (spans_among c.args.parts.now c.args.terms.now)

pub loop-rest-preserved : goal.loop-rest-preserved
loop-rest-preserved c =
    denominator_on c.args.parts.now (spans_among c.args.parts.now c.args.terms.now) c.term-item.result _ c.loop-rest.common c.in_ok-common.common
    (subst (λ (ts : List Term). IsDenominatorOf (spans_among c.args.parts.now c.args.terms.now) c.loop-rest.common (spans_among c.args.parts.now ts)) (sym (after_is c.term-item.result c.loop-rest.rest.now c.in-len1-up.len_at_least c.term-item.is)) c.loop-rest.invariant)
    c.in_ok-common.ensures.some

pub returns-in_err-common-clause-none : goal.returns-in_err-common-clause-none
returns-in_err-common-clause-none c = if_none c.from_residual.result
    (denominator_off c.args.parts.now (spans_among c.args.parts.now c.args.terms.now) c.term-item.result _ c.loop-rest.common
    (subst (λ (ts : List Term). IsDenominatorOf (spans_among c.args.parts.now c.args.terms.now) c.loop-rest.common (spans_among c.args.parts.now ts)) (sym (after_is c.term-item.result c.loop-rest.rest.now c.in-len1-up.len_at_least c.term-item.is)) c.loop-rest.invariant)
    c.in_err-common.ensures.none)
