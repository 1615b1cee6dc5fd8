use Rattle.std.proofs.Common.{ap, ◌∙◌, subst}
use Rattle.std.specs.Prelude.{OnOk}
use Rattle.problem_model.specs.Reading.{Agrees}
use Rattle.problem_model.specs.Sparse.{Sparse}
use Rattle.presolve_model.specs.Enabled.{enabled_on}
use Rattle.presolve_model.proofs.Tabled.{enabled_by}
use Rattle.txn_book.proofs.book.Book.commit_compared.Goals as goal

pub apply_open-requires-clause-enabled : goal.apply_open-requires-clause-enabled
apply_open-requires-clause-enabled c =
    let p : Sparse = c.args.self.now.problem in
    let agrees : Agrees p c.args.proposal.now.reading = subst (λ r. OnOk r (Agrees p c.args.proposal.now.reading)) c.in_default-compared.is c.requires.agrees in
    ap (enabled_on p) c.instance-instance.ensures.value
    ∙ enabled_by p c.args.proposal.now.instance c.args.proposal.now.reading agrees c.instance-instance.ensures.enabled
