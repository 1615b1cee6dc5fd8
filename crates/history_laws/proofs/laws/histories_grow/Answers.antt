use Rattle.history_laws.proofs.Histories.{numbers_grow, replay_grows, records_grow, replays_grow}
use Rattle.history_laws.proofs.laws.histories_grow.Goals as goal

pub returns-clause-replay : goal.returns-clause-replay
returns-clause-replay c = replay_grows

pub returns-clause-records : goal.returns-clause-records
returns-clause-records c = records_grow

pub returns-clause-numbers : goal.returns-clause-numbers
returns-clause-numbers c = numbers_grow

pub returns-clause-replays : goal.returns-clause-replays
returns-clause-replays c = replays_grow
