use Rattle.round_laws.proofs.Committing.{fresh_commits, stale_stays}
use Rattle.round_laws.proofs.passes.commits_are_met.Goals as goal

pub returns-clause-stale : goal.returns-clause-stale
returns-clause-stale c = stale_stays

pub returns-clause-fresh : goal.returns-clause-fresh
returns-clause-fresh c = fresh_commits
