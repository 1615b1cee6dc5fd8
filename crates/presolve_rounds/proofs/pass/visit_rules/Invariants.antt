use Rattle.std.proofs.Common.{take}
use Rattle.presolve_model.specs.Tallies.{open_on}
use Rattle.place_laws.specs.Choosing.{instances_of}
use Rattle.presolve_rounds.specs.Walking.{IsPassed}
use Rattle.presolve_rounds.proofs.pass.visit_rules.Given as goal

-- those so far
abbrev pub invariant-loop-rule : goal.invariant-loop-rule
invariant-loop-rule l = IsPassed l.walk.frozen.now.value (instances_of (open_on l.walk.frozen.now.value.tally) l.walk.frozen.now.value.problem l.ids (take l.rule-index l.rules)) l.initial.watch l.initial.book l.watch l.book
