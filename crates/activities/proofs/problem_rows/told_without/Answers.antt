use Rattle.std.proofs.Common.{◌<◌, arith, sym, ◌∙◌, ◌≡◌, ◌++◌, ◌∷◌, List, Option, Some, None, IfSome, Ok, ap}
use Rattle.fractions.specs.Number.{Number}
use Rattle.row_spans.specs.RowSums.{activity, row_sum}
use Rattle.row_spans.specs.Spans.{end_at, ends_at, others, spans_of}
use Rattle.row_spans.proofs.Reading.{spans_of-are}
use Rattle.kept_sums.specs.CommonSums.{IsCommonSum, infinite_count}
use Rattle.activities.proofs.Infinite.{infinite_still}
use Rattle.activities.proofs.Told.{told_is}
use Rattle.activities.proofs.problem_rows.told_without.Goals as goal

pub returns-then-sum-gt1 : goal.returns-then-sum-gt1
returns-then-sum-gt1 c =
    let many : 1 < infinite_count (ends_at c.args.extreme (spans_of c.args.problem.now c.args.row)) = (let e = c.requires.sum.infinite in omega (arith, e, c.if-sum-gt1.true)) in
    infinite_still c.args.extreme c.args.column (spans_of c.args.problem.now c.args.row) (spans_of-are c.args.problem.now c.args.row c.is_sparse.ensures) many ∙ ap Ok (sym c.none.ensures)

pub returns : goal.returns
returns c = by c.told_rest.result c.told_rest.ensures
  where
    by : (r : Option (Option Number)) → IfSome r (λ o. (a b : List (Option Number)) → IsCommonSum (a ++ end_at c.args.extreme c.in_ok-span.span ∷ b) c.args.sum.now → row_sum (a ++ b) ≡ Ok o)
        → IfSome r (λ o. activity c.args.extreme (others c.args.column (spans_of c.args.problem.now c.args.row)) ≡ Ok o)
    by None f = tt
    by (Some o) f = told_is c.args.problem.now c.args.row c.args.column c.args.extreme c.is_sparse.ensures c.in_ok-span.ensures.live c.in_ok-span.ensures.some c.args.sum.now (end_at c.args.extreme c.in_ok-span.span) o
        (ap (end_at c.args.extreme) c.in_ok-span.ensures.value) c.requires.sum f
