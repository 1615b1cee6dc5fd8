use Rattle.std.proofs.Common.{◌≡◌, ◌++◌, ◌+◌, length}
use Rattle.lp_model.specs.Sparse.{Ascends}
use Rattle.dual_rules.specs.Merging.{sides_besides}
use Rattle.dual_rules.proofs.both_columns.add_sides_besides.Given as goal

-- those so far, so that with those that are left they are all
abbrev pub invariant-loop-row : goal.invariant-loop-row
invariant-loop-row l = record {
  same : l.parts.items ++ sides_besides l.problem l.rest l.rest_of_others ≡ l.initial.parts.items ++ sides_besides l.problem l.entries l.others;
  entries : Ascends 0 (length l.problem.matrix.rows) l.rest;
  others : Ascends 0 (length l.problem.matrix.rows) l.rest_of_others;
}

abbrev pub decreases-loop-row : goal.decreases-loop-row
decreases-loop-row l = length l.rest + length l.rest_of_others
