use Rattle.ray_columns.proofs.PlacedColumn.{dual_fixed_back, dominated_back, empty_column_back, settled_back, dominated_settled_back}
use Rattle.ray_columns.proofs.placed_columns_step_back.Goals as goal

pub returns-clause-cost : goal.returns-clause-cost
returns-clause-cost c = dual_fixed_back

pub returns-clause-dominated : goal.returns-clause-dominated
returns-clause-dominated c = dominated_back

pub returns-clause-empty : goal.returns-clause-empty
returns-clause-empty c = empty_column_back

pub returns-clause-settled : goal.returns-clause-settled
returns-clause-settled c = settled_back

pub returns-clause-dominated_settled : goal.returns-clause-dominated_settled
returns-clause-dominated_settled c = dominated_settled_back
