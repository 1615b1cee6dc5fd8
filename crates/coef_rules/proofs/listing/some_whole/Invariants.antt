use Rattle.std.proofs.Common.{◌≡◌, length}
use Rattle.coef_rules.specs.Columns.{any_whole}
use Rattle.coef_rules.proofs.listing.some_whole.Given as goal

-- none so far is whole
abbrev pub invariant-loop-rest : goal.invariant-loop-rest
invariant-loop-rest l = any_whole l.problem l.rest ≡ any_whole l.problem l.terms

abbrev pub decreases-loop-rest : goal.decreases-loop-rest
decreases-loop-rest l = length l.rest
