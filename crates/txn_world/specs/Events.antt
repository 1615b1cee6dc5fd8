-- What events are, and what a commit of a worker's first proposal may answer.
use Rattle.std.specs.Prelude.{◌≡◌, ℕ, List, [], ◌∷◌, Option, Some, None}
use Rattle.presolve_model.specs.declared.outcome.Outcome.{Outcome}
use Rattle.presolve_model.specs.Commits.{Allows, left_by}
use Rattle.presolve_model.specs.Given.{Proposed}
use Rattle.presolve_model.specs.Ledger.{Ledger}
use Rattle.presolve_model.specs.Worlds.{Happening}
use Rattle.presolve_model.specs.Worlds as worlds
use Rattle.txn_world.specs.declared.event.Event.{Event}
use Rattle.txn_world.specs.declared.event.Event.TheVariants.{Freeze, Propose, Commit}

abbrev pub happening_of : Event → Happening
happening_of (Freeze w) = worlds.Freeze w
happening_of (Propose w p) = worlds.Propose w p
happening_of (Commit w) = worlds.Commit w

-- the first of the proposals is committed, if there is one
abbrev pub CommitsFirst : Ledger → (w : ℕ) → List Proposed → Option Outcome → Ledger → Type 0
CommitsFirst b w [] None c = c ≡ b
CommitsFirst b w [] (Some o) c = ⊥
CommitsFirst b w (p ∷ ps) None c = ⊥
CommitsFirst b w (p ∷ ps) (Some o) c = Allows b p o × (c ≡ left_by b w p o)
