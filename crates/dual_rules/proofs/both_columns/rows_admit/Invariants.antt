use Rattle.std.proofs.Common.{◌≡◌, ◌+◌, length}
use Rattle.lp_model.specs.Sparse.{Ascends}
use Rattle.problem_model.specs.Matrices.{live_only}
use Rattle.dual_rules.specs.Merging.{all_admit}
use Rattle.dual_rules.proofs.both_columns.rows_admit.Given as goal

-- the rows so far admit it, so that all depends on those that are left
abbrev pub invariant-loop-row : goal.invariant-loop-row
invariant-loop-row l = record {
  same : all_admit l.problem (live_only l.problem.matrix.rows l.rest) (live_only l.problem.matrix.rows l.rest_of_others) ≡ all_admit l.problem (live_only l.problem.matrix.rows l.entries) (live_only l.problem.matrix.rows l.others);
  entries : Ascends 0 (length l.problem.matrix.rows) l.rest;
  others : Ascends 0 (length l.problem.matrix.rows) l.rest_of_others;
}

abbrev pub decreases-loop-row : goal.decreases-loop-row
decreases-loop-row l = length l.rest + length l.rest_of_others
