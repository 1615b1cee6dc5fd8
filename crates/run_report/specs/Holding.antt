-- What a run leaves enabled, and why.
use Rattle.std.specs.Prelude.{◌≡◌, true, List, map, Some, None}
use Rattle.std.specs.List.{All}
use Rattle.presolve_model.specs.declared.instance.Instance.{Instance}
use Rattle.presolve_model.specs.declared.outcome.Outcome.{Outcome}
use Rattle.presolve_model.specs.declared.outcome.Outcome.TheVariants.{Closed, Full, Stale, Past, NotDecimal, Applied, NoMemory}
use Rattle.presolve_model.specs.Commits.{CanWrite, Fits, HasRoom, IsFull}
use Rattle.presolve_model.specs.Enabled.{enabled_on}
use Rattle.presolve_model.specs.Ledger.{Ledger}
use Rattle.presolve_model.specs.Stuck.{enabled_reductions}
use Rattle.presolve_model.specs.Tallies.{open_on}
use Rattle.run_report.specs.declared.look.Held.{Held}

-- the book can't apply an instance that is enabled: a verdict stands, there is no room, or its numbers are past or can't be written
pub record HoldsBack (b : Ledger) (e : Instance) : Type 0 where
  pub enabled : enabled_on b.problem e ≡ true
  pub never : b.verdict ≡ None → HasRoom b e → Fits e b.problem → CanWrite b e → ⊥

-- why an instance that is enabled was not applied: the verdict that stands, or that there is no room, or that its numbers are past, or that they
-- are not but can't be written
abbrev pub IsHeld : Ledger → Instance → Outcome → Type 0
IsHeld b e (Closed v) = b.verdict ≡ Some v
IsHeld b e Full = (b.verdict ≡ None) × IsFull b e
IsHeld b e Past = (b.verdict ≡ None) × HasRoom b e × (Fits e b.problem → ⊥)
IsHeld b e NotDecimal = (b.verdict ≡ None) × HasRoom b e × Fits e b.problem × (CanWrite b e → ⊥)
IsHeld b e (Stale k) = ⊥
IsHeld b e (Applied k) = ⊥
IsHeld b e NoMemory = ⊥

-- these are exactly the open reductions that are enabled in the book, in their order, each with why it was not applied
pub record AreHeld (b : Ledger) (hs : List Held) : Type 0 where
  pub all : map (λ h. h.instance) hs ≡ enabled_reductions (open_on b.tally) b.problem
  pub why : All (λ h. IsHeld b h.instance h.answer) hs
