-- The tasks of a round, and what comes of them.
use Rattle.std.specs.Prelude.{◌≡◌, ℕ, ◌+◌, ◌*◌, ◌<◌, ◌≤◌, true, List, [], ◌∷◌}
use Rattle.std.specs.List.{Contains}
use Rattle.sorted_ids.specs.Ascending.{AscendsFrom}
use Rattle.shared_book.specs.declared.call.Call.TheVariants.{Commit}
use Rattle.shared_book.specs.History.{Known, Shared}
use Rattle.presolve_model.specs.declared.instance.Instance.{Instance}
use Rattle.presolve_model.specs.declared.instance.Rule.{Rule}
use Rattle.presolve_model.specs.declared.outcome.Outcome.{Outcome}
use Rattle.presolve_model.specs.Enabled.{enabled_on}
use Rattle.presolve_model.specs.Given.{Proposed}
use Rattle.presolve_model.specs.Instances.{instances_from}
use Rattle.presolve_model.specs.Ledger.{Ledger}
use Rattle.presolve_model.specs.Scans.{found_in}
use Rattle.presolve_model.specs.Tallies.{open_on}
use Rattle.presolve_model.specs.Worlds.{Version}
use Rattle.book_turns.specs.Turns.{IsCalled, Turn}

-- some first ids of a rule, all of them in one chunk: 1,024 ids in a row
pub record TaskData : Type 0 where
  pub rule : Rule
  pub chunk : ℕ
  pub ids : List ℕ

-- the ids ascend, are ids of the chunk, and each of the chunk's ids is there with which an instance of the rule is enabled and open
pub record HoldsChunk (v : Version) (t : TaskData) : Type 0 where
  pub ascends : AscendsFrom (t.chunk * 1024) t.ids
  pub within : (k : ℕ) → Contains t.ids k → k < t.chunk * 1024 + 1024
  pub complete : (k : ℕ) (e : Instance) → t.chunk * 1024 ≤ k → k < t.chunk * 1024 + 1024 → Contains (instances_from (open_on v.tally) v.problem t.rule k) e → enabled_on v.problem e ≡ true → Contains t.ids k

-- what a task finds on a version: the enabled and open instances of its rule and chunk, each as it is read there
abbrev pub found_of : Version → TaskData → List Proposed
found_of v t = found_in (open_on v.tally) v.problem v.applied t.rule t.chunk

-- proposals committed by a pass in their order, a call each
abbrev pub AreCommitted : Shared Ledger → Known Ledger Turn → List Proposed → Known Ledger Turn → Type 0
AreCommitted s p [] q = q ≡ p
AreCommitted s p (x ∷ xs) q = (o : Outcome) × (r : Known Ledger Turn) × IsCalled s p (Commit p.number x o) r × AreCommitted s r xs q
