use Rattle.two_runs.proofs.OneMigrate.{migrate_same}
use Rattle.two_runs.proofs.same_answers.migrates_are_one.Goals as goal

pub returns : goal.returns
returns c = migrate_same
