use Rattle.std.proofs.Common.{◌≡◌, true, sym, subst}
use Rattle.presolve_model.specs.declared.instance.Instance.TheVariants as at
use Rattle.presolve_model.specs.Enabled.{enabled_on}
use Rattle.presolve_model.specs.Ledger.{Ledger}
use Rattle.history_laws.proofs.Books.{stands_verdict}
use Rattle.txn_book.proofs.book.Book.decide.Goals as goal

pub invariant_of-self : goal.invariant_of-self
invariant_of-self c =
    let s = c.self.inside in
    let b : Ledger = record { start = s.start.value; problem = s.problem; history = s.history.items; verdict = s.verdict; records = s.records.items; transactions = s.transactions; tally = s.tally; numbers = s.numbers; limit = s.limit } in
    stands_verdict b 0 0 c.args.verdict c.self.invariant (subst (λ (l : Ledger). enabled_on l.problem (at.Verdict c.args.verdict) ≡ true) (sym c.self.view_is) c.requires)
