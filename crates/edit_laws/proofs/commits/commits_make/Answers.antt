use Rattle.edit_laws.proofs.Committed.{shown_committed, offset_committed, flags_committed}
use Rattle.edit_laws.proofs.commits.commits_make.Goals as goal

pub returns-clause-shown : goal.returns-clause-shown
returns-clause-shown c = shown_committed

pub returns-clause-offset : goal.returns-clause-offset
returns-clause-offset c = offset_committed

pub returns-clause-live : goal.returns-clause-live
returns-clause-live c = flags_committed
