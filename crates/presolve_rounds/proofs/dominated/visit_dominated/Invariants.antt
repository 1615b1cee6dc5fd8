use Rattle.std.proofs.Common.{take}
use Rattle.dual_rules.specs.Footprints.{AreFootprints}
use Rattle.presolve_model.specs.declared.instance.Rule.TheVariants as rule_of
use Rattle.presolve_model.specs.Scans.{instances_at}
use Rattle.presolve_model.specs.Tallies.{open_on}
use Rattle.presolve_rounds.specs.Walking.{IsPassed}
use Rattle.presolve_rounds.proofs.dominated.visit_dominated.Given as goal

-- those so far
abbrev pub invariant-loop-row : goal.invariant-loop-row
invariant-loop-row l =
    IsPassed l.walk.frozen.now.value (instances_at (open_on l.walk.frozen.now.value.tally) l.walk.frozen.now.value.problem rule_of.DominatedColumn (take l.row-index l.rows)) l.initial.watch l.initial.book l.watch l.book
    × AreFootprints l.book.problem l.footprints
