use Rattle.std.proofs.Common.{◌≡◌, false, drop}
use Rattle.std.specs.Prelude.{is_none}
use Rattle.std.specs.List.{All}
use Rattle.problem_model.specs.Matrices.{live_only}
use Rattle.problem_model.specs.Problems.{bounds_at}
use Rattle.dual_rules.proofs.dominated_column.some_endless.Given as goal

-- each column so far has an upper bound
abbrev pub invariant-loop-term : goal.invariant-loop-term
invariant-loop-term l =
    All (λ t. is_none (bounds_at l.problem t.id).upper ≡ false) (live_only l.problem.matrix.columns (drop l.term-index l.terms)) → All (λ t. is_none (bounds_at l.problem t.id).upper ≡ false) (live_only l.problem.matrix.columns l.terms)
