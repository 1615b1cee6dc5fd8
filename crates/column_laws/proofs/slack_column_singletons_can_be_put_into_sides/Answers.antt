use Rattle.column_laws.proofs.SlackColumnSingleton.{owes}
use Rattle.column_laws.proofs.slack_column_singletons_can_be_put_into_sides.Goals as goal

pub returns : goal.returns
returns c = owes
