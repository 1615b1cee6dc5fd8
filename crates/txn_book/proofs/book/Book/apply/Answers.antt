use Rattle.std.proofs.Common.{refl}
use Rattle.presolve_model.specs.Scans.{proposal_of}
use Rattle.presolve_model.proofs.Readings.{reading_agrees}
use Rattle.txn_book.proofs.book.Book.apply.Goals as goal

pub returns-clause-outcome : goal.returns-clause-outcome
returns-clause-outcome c = c.apply_open.ensures.outcome (proposal_of c.args.self.now.problem c.args.version c.args.instance) refl (reading_agrees c.args.self.now.problem c.args.instance)
