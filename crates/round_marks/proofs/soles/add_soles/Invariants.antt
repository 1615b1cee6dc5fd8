use Rattle.std.proofs.Common.{◌≡◌, ◌++◌, length}
use Rattle.round_marks.specs.Soles.{soles}
use Rattle.round_marks.proofs.soles.add_soles.Given as goal

-- those so far, and those of the columns that are left
abbrev pub invariant-loop-rest : goal.invariant-loop-rest
invariant-loop-rest l = l.ids.items ++ soles l.problem l.rest ≡ l.initial.ids.items ++ soles l.problem l.columns

abbrev pub decreases-loop-rest : goal.decreases-loop-rest
decreases-loop-rest l = length l.rest
