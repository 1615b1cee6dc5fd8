use Rattle.round_laws.proofs.Sharing.{fresh_alike, read_alike, row_noted, row_stale, row_stopped}
use Rattle.round_laws.proofs.passes.rows_are_met.Goals as goal

pub returns-clause-stale : goal.returns-clause-stale
returns-clause-stale c = row_stale

pub returns-clause-noted : goal.returns-clause-noted
returns-clause-noted c = row_noted

pub returns-clause-fresh : goal.returns-clause-fresh
returns-clause-fresh c = fresh_alike

pub returns-clause-stopped : goal.returns-clause-stopped
returns-clause-stopped c = row_stopped

pub returns-clause-alike : goal.returns-clause-alike
returns-clause-alike c = read_alike
