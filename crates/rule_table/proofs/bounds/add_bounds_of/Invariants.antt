use Rattle.std.proofs.Common.{◌≡◌, ◌++◌, length}
use Rattle.problem_model.specs.Matrices.{live_only}
use Rattle.rule_words.specs.Reading.{bounds_of}
use Rattle.rule_table.proofs.bounds.add_bounds_of.Given as goal

-- those so far, and those of the terms that are left
abbrev pub invariant-loop-rest : goal.invariant-loop-rest
invariant-loop-rest l = l.parts.items ++ bounds_of (live_only l.problem.matrix.columns l.rest) ≡ l.fn.parts.items ++ bounds_of (live_only l.problem.matrix.columns l.terms)

abbrev pub decreases-loop-rest : goal.decreases-loop-rest
decreases-loop-rest l = length l.rest
