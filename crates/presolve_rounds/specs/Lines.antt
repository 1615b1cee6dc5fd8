-- The line with which the instances of a rule of lines that are multiples of one another begin.
use Rattle.std.specs.Prelude.{ℕ, Bool}
use Rattle.problem_model.specs.Problems.{column_at, row_at}
use Rattle.problem_model.specs.Sparse.{Sparse}
use Rattle.presolve_model.specs.declared.instance.Rule.{Rule}
use Rattle.presolve_model.specs.declared.instance.Rule.TheVariants as rule

-- it is live
abbrev pub has_line : Sparse → Rule → ℕ → Bool
has_line p rule.ParallelRows i = (row_at p i).live
has_line p other j = (column_at p j).live
