use Rattle.std.proofs.Common.{sym, ◌∙◌}
use Rattle.command_line.proofs.Places.{placed}
use Rattle.command_line.proofs.reading.presolve.Goals as goal

pub returns-clause-place : goal.returns-clause-place
returns-clause-place c =
    placed (λ r. r.now) c.in_ok-options.options c.in_ok-output.output.now c.in_ok-records.records.now c.value-ray.result _ c.value-ray.ensures c.in_ok-options.ensures.ordered
    (sym c.has_no_place.ensures ∙ c.if-has_no_place.false)
