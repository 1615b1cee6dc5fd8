use Rattle.std.proofs.Common.{◌∙◌, arith, ap}
use Rattle.std.proofs.lemmas.Bool.{ltb-true}
use Rattle.row_spans.specs.declared.span.Extreme.TheVariants.{Least, Greatest}
use Rattle.row_spans.specs.RowSums.{rest}
use Rattle.row_spans.specs.Spans.{spans_of}
use Rattle.row_spans.proofs.Reading.{spans_of-are}
use Rattle.activities.proofs.Infinite.{infinite_still}
use Rattle.activities.proofs.rests.is_each_rest_infinite.Goals as goal

pub returns-in-Least : goal.returns-in-Least
returns-in-Least c = λ many j.
    let counted = c.in-Some.ensures.least.infinite in
    ap (λ x. rest x j (spans_of c.args.problem.now c.args.row)) c.in-Least.is
    ∙ infinite_still Least j (spans_of c.args.problem.now c.args.row) (spans_of-are c.args.problem.now c.args.row c.is_sparse.ensures) (omega (arith, counted, ltb-true 1 c.in-Some.kept.least.infinite many))

pub returns-in-Greatest : goal.returns-in-Greatest
returns-in-Greatest c = λ many j.
    let counted = c.in-Some.ensures.greatest.infinite in
    ap (λ x. rest x j (spans_of c.args.problem.now c.args.row)) c.in-Greatest.is
    ∙ infinite_still Greatest j (spans_of c.args.problem.now c.args.row) (spans_of-are c.args.problem.now c.args.row c.is_sparse.ensures) (omega (arith, counted, ltb-true 1 c.in-Some.kept.greatest.infinite many))
