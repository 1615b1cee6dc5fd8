use Rattle.std.proofs.Common.{List, ◌+◌, ◌<◌, ◌^◌, length, sym, subst}
use Rattle.lp_model.specs.declared.terms.Term.{Term}
use Rattle.row_spans.specs.Spans.{spans_among}
use Rattle.row_spans.specs.declared.span.Extreme.TheVariants.{Least, Greatest}
use Rattle.kept_sums.proofs.Walks.{AreSumsLeft}
use Rattle.sparse_problem.proofs.Mending.{after_is}
use Rattle.sparse_problem.proofs.TermWalks.{few_on, sums_on, term_over}
use Rattle.sparse_problem.proofs.row_totals.sums_over.Goals as goal

pub sums_with_term-requires-clause-over : goal.sums_with_term-requires-clause-over
sums_with_term-requires-clause-over c =
    term_over c.args.parts.now (spans_among c.args.parts.now c.args.terms.now) c.term-item.result _ c.args.denominator c.loop-rest.sums
    (subst (λ (ts : List Term). AreSumsLeft c.args.denominator (spans_among c.args.parts.now c.args.terms.now) c.loop-rest.sums (spans_among c.args.parts.now ts)) (sym (after_is c.term-item.result c.loop-rest.rest.now c.in-len1-up.len_at_least c.term-item.is)) c.loop-rest.invariant.0)

pub loop-rest-preserved : goal.loop-rest-preserved
loop-rest-preserved c =
    let e = sym (after_is c.term-item.result c.loop-rest.rest.now c.in-len1-up.len_at_least c.term-item.is) in (
      sums_on c.args.parts.now (spans_among c.args.parts.now c.args.terms.now) c.term-item.result _ c.args.denominator c.loop-rest.sums
          (subst (λ (ts : List Term). AreSumsLeft c.args.denominator (spans_among c.args.parts.now c.args.terms.now) c.loop-rest.sums (spans_among c.args.parts.now ts)) e c.loop-rest.invariant.0)
          c.in_ok-sums.sums c.in_ok-sums.ensures.some,
      few_on c.args.parts.now Least c.term-item.result _ c.loop-rest.sums.least.infinite c.in_ok-sums.sums.least.infinite (subst (λ (ts : List Term). c.loop-rest.sums.least.infinite + length ts < 2 ^ 32) e c.loop-rest.invariant.1) c.in_ok-sums.ensures.some.least.infinite,
      few_on c.args.parts.now Greatest c.term-item.result _ c.loop-rest.sums.greatest.infinite c.in_ok-sums.sums.greatest.infinite (subst (λ (ts : List Term). c.loop-rest.sums.greatest.infinite + length ts < 2 ^ 32) e c.loop-rest.invariant.2) c.in_ok-sums.ensures.some.greatest.infinite,
    )
