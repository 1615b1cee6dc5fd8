use Rattle.std.proofs.Common.{refl, subst, sym}
use Rattle.problem_model.specs.Edits.{sides_set}
use Rattle.problem_model.specs.Sparse.{Sparse}
use Rattle.sparse_problem.specs.KeptRows.{AreKept}
use Rattle.sparse_problem.proofs.Mending.{kept_same}
use Rattle.sparse_problem.proofs.problem.Problem.set_sides.Goals as goal

pub invariant_of-self : goal.invariant_of-self
invariant_of-self c = subst (λ (q : Sparse). AreKept q c.self.inside.kept.items) (sym c.set_sides.ensures)
    (kept_same c.self.inside.parts (sides_set c.self.inside.parts c.args.i c.args.lower c.args.upper) c.self.inside.kept.items (λ i. refl) c.self.invariant)
