use Rattle.std.proofs.Common.{ℕ, ◌<◌}
use Rattle.lp_model.specs.Meaning.{column_at}
use Rattle.lp_model.specs.Vectors.{vector_of}
use Rattle.lp_model.specs.Violations.{FitsColumn}
use Rattle.lp_model.proofs.plain.violated_column.Given as goal

abbrev pub invariant-loop-j : goal.invariant-loop-j
invariant-loop-j l = (j : ℕ) → j < l.j → FitsColumn (column_at l.program j) (vector_of l.point j)
