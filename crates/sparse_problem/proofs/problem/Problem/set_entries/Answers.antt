use Rattle.std.proofs.Common.{◌∙◌, ap, subst, sym}
use Rattle.problem_model.specs.Problems.{column_at}
use Rattle.problem_model.specs.Sparse.{Sparse}
use Rattle.entry_lines.specs.Putting.{entries_set}
use Rattle.sparse_problem.specs.KeptRows.{AreKept}
use Rattle.sparse_problem.proofs.Mending.{kept_but}
use Rattle.sparse_problem.proofs.Staying.{entries_other}
use Rattle.sparse_problem.proofs.problem.Problem.set_entries.Goals as goal

pub invariant_of-self-2 : goal.invariant_of-self-2
invariant_of-self-2 c =
    let p : Sparse = c.self.inside.parts in
    subst (λ (q : Sparse). AreKept q c.forget_rows.new.kept.items) (sym c.in_ok-replaced.ensures.set)
    (c.forget_rows.ensures (entries_set p c.args.j c.args.terms.now)
    (kept_but p (entries_set p c.args.j c.args.terms.now) c.args.terms.now c.self.inside.kept.items
    (entries_other c.args.terms.now p c.args.j (ap (λ (q : Sparse). (column_at q c.args.j).live) c.self.view_is ∙ c.requires.column)) c.self.invariant))
