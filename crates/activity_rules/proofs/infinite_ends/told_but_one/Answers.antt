use Rattle.std.proofs.Common.{ap, sym, ◌∙◌}
use Rattle.row_spans.specs.declared.span.Extreme.TheVariants.{Least, Greatest}
use Rattle.row_spans.specs.Spans.{ends_at, spans_of}
use Rattle.activity_rules.specs.Tightened.{at_most_one_infinite}
use Rattle.activity_rules.proofs.InfiniteEnds.{few_told}
use Rattle.activity_rules.proofs.infinite_ends.told_but_one.Goals as goal

pub returns-in-Least : goal.returns-in-Least
returns-in-Least c =
    few_told (ends_at Least (spans_of c.args.problem.now c.args.row)) c.in_ok-kept.kept.least c.in_ok-kept.ensures.least
    ∙ ap (λ x. at_most_one_infinite (ends_at x (spans_of c.args.problem.now c.args.row))) (sym c.in-Least.is)

pub returns-in-Greatest : goal.returns-in-Greatest
returns-in-Greatest c =
    few_told (ends_at Greatest (spans_of c.args.problem.now c.args.row)) c.in_ok-kept.kept.greatest c.in_ok-kept.ensures.greatest
    ∙ ap (λ x. at_most_one_infinite (ends_at x (spans_of c.args.problem.now c.args.row))) (sym c.in-Greatest.is)
