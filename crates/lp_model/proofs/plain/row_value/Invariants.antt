use Rattle.lp_model.specs.Meaning.{meaning}
use Rattle.lp_model.specs.Vectors.{vector_of}
use Rattle.lp_model.proofs.Sums.{Summed}
use Rattle.lp_model.proofs.plain.row_value.Given as goal

abbrev pub invariant-loop-j : goal.invariant-loop-j
invariant-loop-j l = Summed l.j ((meaning l.program).coefficient l.row) (vector_of l.point) l.sum
