use Rattle.std.proofs.Common.{take}
use Rattle.presolve_model.specs.Scans.{instances_at}
use Rattle.presolve_model.specs.Tallies.{open_on}
use Rattle.presolve_rounds.specs.Walking.{IsPassed}
use Rattle.presolve_rounds.proofs.pass.visit_each.Given as goal

-- those so far
abbrev pub invariant-loop-id : goal.invariant-loop-id
invariant-loop-id l = IsPassed l.walk.frozen.now.value (instances_at (open_on l.walk.frozen.now.value.tally) l.walk.frozen.now.value.problem l.rule (take l.id-index l.ids)) l.initial.watch l.initial.book l.watch l.book
