use Rattle.ray_text.proofs.GivenLaws.{row_given, column_given, row_missing, column_missing}
use Rattle.ray_text.proofs.laws.weights_are_given.Goals as goal

pub returns-clause-row : goal.returns-clause-row
returns-clause-row c = row_given

pub returns-clause-column : goal.returns-clause-column
returns-clause-column c = column_given

pub returns-clause-no_row : goal.returns-clause-no_row
returns-clause-no_row c = row_missing

pub returns-clause-no_column : goal.returns-clause-no_column
returns-clause-no_column c = column_missing
