use Rattle.std.proofs.Common.{[], refl}
use Rattle.activity_rules.proofs.Tightened.{all_found}
use Rattle.activity_rules.proofs.tightened_bounds.TightenedBounds.of_row.Goals as goal

pub returns : goal.returns
returns c = all_found c.args.problem.now c.args.row _ _ [] _ c.requires c.is_sparse.ensures c.in_ok-of_row.ensures c.sides-sides.ensures refl
