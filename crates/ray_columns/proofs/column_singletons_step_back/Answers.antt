use Rattle.ray_columns.proofs.DroppedColumn.{free_column_back, slack_column_back, slack_row_back}
use Rattle.ray_columns.proofs.column_singletons_step_back.Goals as goal

pub returns-clause-free : goal.returns-clause-free
returns-clause-free c = free_column_back

pub returns-clause-kept : goal.returns-clause-kept
returns-clause-kept c = slack_column_back

pub returns-clause-dropped : goal.returns-clause-dropped
returns-clause-dropped c = slack_row_back
