use Rattle.std.proofs.Common.{◌≡◌, ℕ, ◌<◌, false, None}
use Rattle.lp_model.specs.Meaning.{meaning}
use Rattle.lp_check.proofs.columns.first_not_continuous.Given as goal

-- none of the columns so far has to be whole
abbrev pub invariant-loop-j : goal.invariant-loop-j
invariant-loop-j l = (k : ℕ) → k < l.j → ((meaning l.program).whole k ≡ false) × ((meaning l.program).gap k ≡ None)
