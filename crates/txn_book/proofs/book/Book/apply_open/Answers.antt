use Rattle.std.proofs.Common.{sym, ap, ◌∙◌}
use Rattle.presolve_model.specs.Commits.{with_instance}
use Rattle.presolve_model.specs.Ledger.{Ledger}
use Rattle.txn_book.proofs.Growing.{none_noted}
use Rattle.txn_book.proofs.book.Book.apply_open.Goals as goal

pub returns-in-Verdict-clause-left : goal.returns-in-Verdict-clause-left
returns-in-Verdict-clause-left c = λ p same version.
    c.decide.ensures.left c.args.by p.version ∙ ap (with_instance c.args.self.now c.args.by p.version) (sym c.in-Verdict.is ∙ sym same)

pub returns-in-Verdict-clause-noted : goal.returns-in-Verdict-clause-noted
returns-in-Verdict-clause-noted c =
    none_noted c.args.self.now.problem c.decide.new.self.problem c.args.changed.now.items (ap (λ (b : Ledger). b.problem) (c.decide.ensures.left 0 0))
