use Rattle.record_file.proofs.ToldLines.{told_some}
use Rattle.record_file.proofs.records.push_told.Goals as goal

pub returns-in_ok-push_undo-in-Some : goal.returns-in_ok-push_undo-in-Some
returns-in_ok-push_undo-in-Some c = told_some _ _ _ c.args.place _ _ _ c.in-Some.is c.in_ok-push_transaction-in-Some.ensures c.in_ok-push_undo-in-Some.ensures
