use Rattle.std.proofs.Common.{IfSome, subst}
use Rattle.fractions.specs.Number.{◌-ℚ◌}
use Rattle.lp_model.specs.declared.program.Sense.TheVariants.{Min}
use Rattle.lp_model.specs.Reductions.{Reduces}
use Rattle.undo_records.specs.Lift.{lift}
use Rattle.presolve_model.specs.Ledger.{Ledger}
use Rattle.presolve_model.specs.Meanings.{Meant}
use Rattle.problem_model.specs.Showing.{shown}
use Rattle.history_laws.proofs.Books.{book_means}
use Rattle.txn_book.proofs.book.Book.stands.Goals as goal

pub returns-clause-reduces : goal.returns-clause-reduces
returns-clause-reduces c =
    subst (λ (b : Ledger). Reduces Min (shown b.start) (shown b.problem) (lift b.records) (b.problem.offset -ℚ b.start.offset)) c.self.view_is
    (book_means _ c.self.invariant).reduces

pub returns-clause-verdict : goal.returns-clause-verdict
returns-clause-verdict c = subst (λ (b : Ledger). IfSome b.verdict (λ v. Meant v Min (shown b.start))) c.self.view_is (book_means _ c.self.invariant).verdict
