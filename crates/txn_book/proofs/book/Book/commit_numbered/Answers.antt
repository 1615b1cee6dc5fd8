use Rattle.std.proofs.Common.{List, arith, ap, subst}
use Rattle.std.specs.Prelude.{IfErr, OnOk}
use Rattle.problem_model.specs.declared.part.Read.{Read}
use Rattle.problem_model.specs.Sparse.{Sparse}
use Rattle.presolve_model.specs.Ledger.{Ledger, Stands}
use Rattle.instances.specs.Moved.{NumberDiffersAt, NumbersStand}
use Rattle.txn_book.proofs.Numbered.{agrees_too, differs_too}
use Rattle.txn_book.proofs.book.Book.commit_numbered.Goals as goal

pub commit_compared-requires-clause-agrees : goal.commit_compared-requires-clause-agrees
commit_compared-requires-clause-agrees c =
    let b : Ledger = c.args.self.now in
    agrees_too b c.args.proposal.now c.moved-compared.result (subst Stands c.self.view_is c.self.invariant) (omega (arith, c.limit.ensures, c.limit.type_inv)) c.requires
    (subst (λ (q : Sparse). OnOk c.moved-compared.result (NumbersStand q c.args.proposal.now.reading)) (ap (λ (l : Ledger). l.problem) c.self.view_is)
    (subst (λ (rs : List Read). OnOk c.moved-compared.result (NumbersStand c.self.inside.problem rs)) c.reading.ensures c.moved-compared.ensures.stands))

pub commit_compared-requires-clause-differs : goal.commit_compared-requires-clause-differs
commit_compared-requires-clause-differs c =
    let b : Ledger = c.args.self.now in
    differs_too (λ d. d.place) b c.args.proposal.now c.moved-compared.result (subst Stands c.self.view_is c.self.invariant) (omega (arith, c.limit.ensures, c.limit.type_inv)) c.requires
    (subst (λ (q : Sparse). IfErr c.moved-compared.result (λ d. NumberDiffersAt q c.args.proposal.now.reading d.place)) (ap (λ (l : Ledger). l.problem) c.self.view_is)
    (subst (λ (rs : List Read). IfErr c.moved-compared.result (λ d. NumberDiffersAt c.self.inside.problem rs d.place)) c.reading.ensures c.moved-compared.ensures.differs))
