use Rattle.undo_records.proofs.NearLaws.{near_between, near_nearest}
use Rattle.undo_records.proofs.laws.near_numbers_are_nearest.Goals as goal

pub returns-clause-between : goal.returns-clause-between
returns-clause-between c = near_between

pub returns-clause-nearest : goal.returns-clause-nearest
returns-clause-nearest c = near_nearest
