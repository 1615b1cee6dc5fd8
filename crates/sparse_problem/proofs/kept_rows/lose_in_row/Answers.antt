use Rattle.std.proofs.Common.{◌++◌, ◌∷◌, List, Option, IfSome, sym, subst, ap, ◌∙◌}
use Rattle.problem_model.specs.Edits.{column_deleted}
use Rattle.problem_model.specs.Problems.{bounds_at}
use Rattle.problem_model.specs.Sparse.{Sparse}
use Rattle.row_spans.specs.declared.span.Span.{Span}
use Rattle.kept_sums.specs.KeptSums.{AreSumsOf}
use Rattle.kept_sums.specs.declared.kept.KeptSums.{KeptSums}
use Rattle.sparse_problem.specs.KeptRows.{AreBetween, kept_at, span_within}
use Rattle.sparse_problem.proofs.Mending.{losing_gone, losing_step}
use Rattle.sparse_problem.proofs.kept_rows.lose_in_row.Goals as goal

pub returns-then-is_row_live : goal.returns-then-is_row_live
returns-then-is_row_live c ts none h =
    let p : Sparse = c.args.parts.now in
    subst (AreBetween p (column_deleted c.args.parts.now c.args.j) ts) (sym c.put.ensures)
    (losing_step p c.args.j c.is_sparse.ensures c.requires.column c.args.term.now ts c.args.kept.now.items c.lost_in_row-sums.result c.requires.told c.requires.some (sym c.is_row_live.ensures ∙ c.if-is_row_live.true)
    (subst (λ (o : Option KeptSums). (a b : List Span) → IfSome o (AreSumsOf (a ++ span_within p c.args.j c.args.term.now.value (bounds_at p c.args.j).lower (bounds_at p c.args.j).upper ∷ b)) → IfSome c.lost_in_row-sums.result (AreSumsOf (a ++ b)))
    (c.kept_of-before.ensures ∙ ap (λ (ks : List (Option KeptSums)). kept_at ks c.args.term.now.id) c.as_slice.ensures.value) c.lost_in_row-sums.ensures)
    none h)

pub returns-else-is_row_live : goal.returns-else-is_row_live
returns-else-is_row_live c ts none h =
    let p : Sparse = c.args.parts.now in
    subst (AreBetween p (column_deleted c.args.parts.now c.args.j) ts) (sym c.put-else-is_row_live.ensures) (losing_gone p c.args.j c.is_sparse.ensures c.requires.column c.args.term.now ts c.args.kept.now.items none h)
