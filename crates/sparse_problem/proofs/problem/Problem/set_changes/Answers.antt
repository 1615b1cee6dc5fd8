use Rattle.std.proofs.Common.{subst, sym}
use Rattle.problem_model.specs.Sparse.{Sparse}
use Rattle.problem_data.specs.Renumbered.{changes_put, number_put}
use Rattle.sparse_problem.specs.KeptRows.{AreKept}
use Rattle.sparse_problem.proofs.Mending.{kept_same}
use Rattle.sparse_problem.proofs.Staying.{numbered_spans}
use Rattle.sparse_problem.proofs.problem.Problem.set_changes.Goals as goal

pub invariant_of-self : goal.invariant_of-self
invariant_of-self c =
    let p : Sparse = c.self.inside.parts in
    subst (λ (q : Sparse). AreKept q c.self.inside.kept.items) (sym c.set_changes.ensures)
    (kept_same p (changes_put p c.args.part c.args.changes) c.self.inside.kept.items (numbered_spans p (number_put p c.args.part c.args.changes)) c.self.invariant)
