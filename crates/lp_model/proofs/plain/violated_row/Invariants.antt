use Rattle.std.proofs.Common.{ℕ, ◌<◌}
use Rattle.fractions.specs.Ends.{Between}
use Rattle.lp_model.specs.LinearProgram.{value_at}
use Rattle.lp_model.specs.Meaning.{row_at, meaning}
use Rattle.lp_model.specs.Vectors.{vector_of}
use Rattle.lp_model.proofs.plain.violated_row.Given as goal

abbrev pub invariant-loop-i : goal.invariant-loop-i
invariant-loop-i l = (i : ℕ) → i < l.i → Between (row_at l.program i).lower (row_at l.program i).upper (value_at (meaning l.program) i (vector_of l.point))
