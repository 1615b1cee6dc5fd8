-- Sums of rows that are made beside the problem.
use Rattle.std.specs.Prelude.{Result, IfOk}
use Rattle.std.specs.List.{All}
use Rattle.std.specs.declared.vec.Vec.{Vec}
use Rattle.problem_model.specs.Sparse.{Sparse}
use Rattle.row_spans.specs.Spans.{spans_of}
use Rattle.kept_sums.specs.KeptSums.{AreSumsOf}
use Rattle.threaded_passes.specs.declared.sums.RowSums.{RowSums}

-- these are the sums of their row of the problem
abbrev pub AreSumsIn : Sparse → RowSums → Type 0
AreSumsIn p made = AreSumsOf (spans_of p made.row) made.sums

-- so is each of them, where memory did not run out
abbrev pub AreSumsOrLost : {Z E : Type 0} → Sparse → Result (Vec RowSums Z) E → Type 0
AreSumsOrLost p made = IfOk made (λ v. All (AreSumsIn p) v.items)
