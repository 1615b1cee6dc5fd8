use Rattle.std.proofs.Common.{◌≡◌, length}
use Rattle.coef_rules.specs.Columns.{any_longer}
use Rattle.coef_rules.proofs.listing.some_longer.Given as goal

-- none so far is longer
abbrev pub invariant-loop-rest : goal.invariant-loop-rest
invariant-loop-rest l = any_longer l.number l.rest ≡ any_longer l.number l.terms

abbrev pub decreases-loop-rest : goal.decreases-loop-rest
decreases-loop-rest l = length l.rest
