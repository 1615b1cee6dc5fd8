use Rattle.lp_theory.proofs.Moves.{value_moves, cost_moves, coefficient_moves}
use Rattle.lp_theory.proofs.values_move_with_a_coordinate.Goals as goal

pub returns-clause-value : goal.returns-clause-value
returns-clause-value c = value_moves

pub returns-clause-cost : goal.returns-clause-cost
returns-clause-cost c = cost_moves

pub returns-clause-coefficient : goal.returns-clause-coefficient
returns-clause-coefficient c = coefficient_moves
