-- How runs end.
use Rattle.std.specs.Prelude.{◌≡◌, ◌≢◌, ◌<◌, ℕ, List, [], ◌∷◌, length, Option, Some, None}
use Rattle.presolve_model.specs.declared.instance.Instance.{Instance}
use Rattle.presolve_model.specs.Ledger.{Ledger}
use Rattle.presolve_model.specs.Tallies.{open_on}
use Rattle.presolve_model.specs.Stuck.{IsUndecided, skipped_on, Stuck}
use Rattle.presolve_model.specs.declared.conclusion.End.{End}
use Rattle.presolve_model.specs.declared.conclusion.End.TheVariants.{Fixpoint, LimitReached}
use Rattle.presolve_rounds.specs.declared.rounds.Swept.{Swept}
use Rattle.presolve_rounds.specs.declared.rounds.Swept.TheVariants.{Ended, Applied}

-- there is room in the book for more, none that is open can be applied, and so many open reductions are enabled
abbrev pub IsAtFixpoint : Ledger → ℕ → Type 0
IsAtFixpoint b skipped = (length b.history < b.limit) × Stuck b.numbers (open_on b.tally) b.problem × (skipped ≡ skipped_on (open_on b.tally) b.problem)

-- a run ended with this book; none says that a verdict was applied
abbrev pub EndsWith : Option End → Ledger → Type 0
EndsWith None b = b.verdict ≢ None
EndsWith (Some (Fixpoint skipped)) b = IsAtFixpoint b skipped
EndsWith (Some LimitReached) b = (length b.history ≡ b.limit) × IsUndecided b.problem

-- the first of some instances, if there are any
abbrev pub IsFirst : List Instance → Option Instance → Type 0
IsFirst es None = es ≡ []
IsFirst es (Some e) = (rest : List Instance) × (es ≡ e ∷ rest)

-- a round over everything, before which so many reductions stood, ended the run, or applied something, and no verdict
abbrev pub SweepsFrom : Swept → ℕ → Ledger → Type 0
SweepsFrom (Ended end) n c = EndsWith end c
SweepsFrom Applied n c = (c.verdict ≡ None) × (n < length c.history)
