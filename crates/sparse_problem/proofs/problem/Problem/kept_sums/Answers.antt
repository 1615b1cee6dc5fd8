use Rattle.std.proofs.Common.{List, Option, IfSome, ap, subst, sym, ◌∙◌}
use Rattle.problem_model.specs.Sparse.{Sparse}
use Rattle.row_spans.specs.Spans.{spans_of}
use Rattle.kept_sums.specs.KeptSums.{AreSumsOf}
use Rattle.kept_sums.specs.declared.kept.KeptSums.{KeptSums}
use Rattle.sparse_problem.specs.KeptRows.{kept_at}
use Rattle.sparse_problem.proofs.Mending.{kept_at_row}
use Rattle.sparse_problem.proofs.problem.Problem.kept_sums.Goals as goal

pub returns : goal.returns
returns c =
    subst (λ (p : Sparse). IfSome c.kept_of.result (AreSumsOf (spans_of p c.args.i))) c.self.view_is
    (subst (λ (o : Option KeptSums). IfSome o (AreSumsOf (spans_of c.self.inside.parts c.args.i))) (sym (c.kept_of.ensures ∙ ap (λ (ks : List (Option KeptSums)). kept_at ks c.args.i) c.as_slice.ensures.value))
    (kept_at_row c.self.inside.parts c.self.inside.kept.items c.args.i c.self.invariant))
