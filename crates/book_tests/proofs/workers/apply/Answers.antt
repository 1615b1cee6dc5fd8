use Rattle.std.proofs.Common.{sym, ap, ◌∙◌}
use Rattle.problem_model.specs.Sparse.{Sparse}
use Rattle.presolve_model.specs.Enabled.{enabled_on}
use Rattle.book_tests.proofs.workers.apply.Goals as goal

pub apply-requires : goal.apply-requires
apply-requires c = record { enabled = ap (λ (p : Sparse). enabled_on p c.args.instance) (sym c.problem.ensures) ∙ sym c.is_enabled.ensures ∙ c.if-not-is_enabled.false }
