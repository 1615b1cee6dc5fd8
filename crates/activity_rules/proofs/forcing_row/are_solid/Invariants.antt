use Rattle.std.proofs.Common.{◌≡◌, length}
use Rattle.row_spans.specs.Spans.{spans_among}
use Rattle.activity_laws.specs.ForcingRow.{all_solid}
use Rattle.activity_rules.proofs.forcing_row.are_solid.Given as goal

-- those that are left tell it of all
abbrev pub invariant-loop-rest : goal.invariant-loop-rest
invariant-loop-rest l = all_solid (spans_among l.problem l.rest) ≡ all_solid (spans_among l.problem l.terms)

abbrev pub decreases-loop-rest : goal.decreases-loop-rest
decreases-loop-rest l = length l.rest
