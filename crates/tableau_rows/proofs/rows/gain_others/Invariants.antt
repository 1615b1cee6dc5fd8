use Rattle.lp_model.specs.Vectors.{vector_of}
use Rattle.fractions.specs.Number.{zero_ℚ}
use Rattle.tableau_rows.specs.Places.{GainedAt, GainFitsAt}
use Rattle.tableau_rows.proofs.Sweeps.{Swept, Both}
use Rattle.tableau_rows.proofs.rows.gain_others.Given as goal

-- those so far
abbrev pub invariant-loop-k : goal.invariant-loop-k
invariant-loop-k l = Swept (Both (GainedAt l.b l.e l.multiple (vector_of l.line)) (GainFitsAt l.b l.e l.multiple (vector_of l.line))) zero_ℚ l.k l.initial.row l.row
