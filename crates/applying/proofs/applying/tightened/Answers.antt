use Rattle.std.proofs.Common.{Result, Err, subst}
use Rattle.std.specs.Prelude.{IfErr}
use Rattle.problem_model.specs.declared.refusal.Refusal.{Refusal}
use Rattle.presolve_model.specs.declared.instance.Reduction.TheVariants.{BoundTightening}
use Rattle.presolve_model.specs.After.{AfterAllows}
use Rattle.applying.proofs.Admitting.{refused_bound, tightened_by}
use Rattle.applying.proofs.applying.tightened.Goals as goal

pub returns-in-Err : goal.returns-in-Err
returns-in-Err c =
    let r = BoundTightening c.args.row c.args.column c.args.side in
    subst (λ (u : Result (Unit {0}) Refusal). IfErr u (λ refusal. AfterAllows c.args.numbers r c.args.problem.now (Err refusal) c.args.problem.now)) c.in-Err.is
    (refused_bound c.args.numbers c.args.problem.now c.args.row c.args.column c.args.side c.moved_bound-edit.result c.admit_edit.result c.moved_bound-edit.ensures c.admit_edit.ensures)

pub returns-in-Ok : goal.returns-in-Ok
returns-in-Ok c = tightened_by c.args.numbers c.args.problem.now c.args.row c.args.column c.args.side c.moved_bound-edit.result c.tightening_by.result c.moved_bound-edit.ensures c.in-Ok.ensures c.tightening_by.ensures
