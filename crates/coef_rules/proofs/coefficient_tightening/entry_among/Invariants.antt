use Rattle.std.proofs.Common.{◌≡◌, length}
use Rattle.row_spans.specs.Spans.{spans_among}
use Rattle.activity_laws.specs.BoundTightening.{entry_at}
use Rattle.coef_rules.proofs.coefficient_tightening.entry_among.Given as goal

-- it is among those that are left
abbrev pub invariant-loop-rest : goal.invariant-loop-rest
invariant-loop-rest l = entry_at l.column (spans_among l.problem l.rest) ≡ entry_at l.column (spans_among l.problem l.terms)

abbrev pub decreases-loop-rest : goal.decreases-loop-rest
decreases-loop-rest l = length l.rest
