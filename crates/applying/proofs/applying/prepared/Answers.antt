use Rattle.std.proofs.Common.{subst, sym}
use Rattle.presolve_model.specs.declared.instance.Reduction.{Reduction}
use Rattle.applying.specs.Prepared.{IsPrepared}
use Rattle.applying.proofs.applying.prepared.Goals as goal

pub returns-in-BoundTightening : goal.returns-in-BoundTightening
returns-in-BoundTightening c = subst (λ (r : Reduction). IsPrepared c.args.numbers r c.args.problem.now c.tightened.result) (sym c.in-BoundTightening.is) c.tightened.ensures
