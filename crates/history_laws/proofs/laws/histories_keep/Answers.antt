use Rattle.std.proofs.Common.{refl}
use Rattle.history_laws.proofs.Keeping.{records_sound, records_walk, sparse_replay, writable_replay}
use Rattle.history_laws.proofs.Sizes.{replay_size}
use Rattle.history_laws.proofs.laws.histories_keep.Goals as goal

pub returns-clause-sound : goal.returns-clause-sound
returns-clause-sound c = sparse_replay

pub returns-clause-writable : goal.returns-clause-writable
returns-clause-writable c = writable_replay

pub returns-clause-rows : goal.returns-clause-rows
returns-clause-rows c = λ p rs. (replay_size p rs).rows

pub returns-clause-columns : goal.returns-clause-columns
returns-clause-columns c = λ p rs. (replay_size p rs).columns

pub returns-clause-constant : goal.returns-clause-constant
returns-clause-constant c = λ p rs. (replay_size p rs).constant

pub returns-clause-records : goal.returns-clause-records
returns-clause-records c = λ numbers p rs s h. (records_sound numbers p rs _ _ s h refl refl, records_walk numbers p rs s h)
