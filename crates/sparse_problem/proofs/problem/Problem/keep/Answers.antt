use Rattle.std.proofs.Common.{Some, subst, sym}
use Rattle.row_spans.specs.Spans.{spans_of}
use Rattle.kept_sums.specs.KeptSums.{AreSumsOf}
use Rattle.problem_model.specs.Sparse.{Sparse}
use Rattle.sparse_problem.specs.KeptRows.{AreKept}
use Rattle.sparse_problem.proofs.Mending.{kept_put}
use Rattle.sparse_problem.proofs.problem.Problem.keep.Goals as goal

pub invariant_of-self : goal.invariant_of-self
invariant_of-self c = subst (AreKept c.self.inside.parts) (sym c.put.ensures)
    (kept_put c.self.inside.parts c.self.inside.kept.items c.args.i (Some c.args.sums) c.self.invariant (subst (λ (p : Sparse). AreSumsOf (spans_of p c.args.i) c.args.sums) (sym c.self.view_is) c.requires))
