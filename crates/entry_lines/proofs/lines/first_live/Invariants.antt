use Rattle.std.proofs.Common.{◌≡◌, [], take}
use Rattle.problem_model.specs.Matrices.{live_only}
use Rattle.entry_lines.proofs.lines.first_live.Given as goal

-- none of the terms so far is live
abbrev pub invariant-loop-term : goal.invariant-loop-term
invariant-loop-term l = live_only l.others (take l.term-index l.terms) ≡ []
