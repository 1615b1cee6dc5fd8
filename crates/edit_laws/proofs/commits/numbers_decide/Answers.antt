use Rattle.edit_laws.proofs.Raising.{all_told, all_counted}
use Rattle.edit_laws.proofs.commits.numbers_decide.Goals as goal

pub returns-clause-told : goal.returns-clause-told
returns-clause-told c = all_told

pub returns-clause-few : goal.returns-clause-few
returns-clause-few c = all_counted
