use Rattle.std.proofs.Common.{take}
use Rattle.dual_rules.specs.Footprints.{AreFootprints}
use Rattle.presolve_rounds.specs.Walking.{IsPassed}
use Rattle.presolve_rounds.proofs.dominated.visit_pairs.Given as goal

-- those so far
abbrev pub invariant-loop-instance : goal.invariant-loop-instance
invariant-loop-instance l = IsPassed l.walk.frozen.now.value (take l.instance-index l.found) l.initial.watch l.initial.book l.watch l.book × AreFootprints l.book.problem l.footprints
