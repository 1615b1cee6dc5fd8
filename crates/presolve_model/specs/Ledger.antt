-- A book as data.
use Rattle.std.specs.Prelude.{◌≡◌, ℕ, ◌+◌, ◌≤◌, true, List, length, Option, Some, None, IfSome}
use Rattle.fractions.specs.declared.Numbers.{Numbers}
use Rattle.transactions.specs.Transactions.{Transaction}
use Rattle.undo_records.specs.declared.undo.Undo.{Undo}
use Rattle.problem_model.specs.declared.part.Part.{Part}
use Rattle.problem_model.specs.Parts.{changes_of}
use Rattle.problem_model.specs.Sparse.{Sparse}
use Rattle.problem_model.specs.Problems.{IsSparse}
use Rattle.problem_model.specs.Writing.{IsWritable}
use Rattle.presolve_model.specs.declared.instance.Reduction.{Reduction}
use Rattle.presolve_model.specs.declared.instance.Verdict.{Verdict}
use Rattle.presolve_model.specs.declared.instance.Instance.TheVariants as at
use Rattle.presolve_model.specs.Enabled.{enabled_on}
use Rattle.presolve_model.specs.Replay.{replay, records, Replays}
use Rattle.presolve_model.specs.Tallies.{AreCountsOf, Counts, IsTally}
use Rattle.presolve_model.specs.Transactions.{TellReadings}

-- the problem that it was opened with, the present one, the reductions that were applied, the verdict that closed it, the record and the
-- transaction of each reduction, and how often each bound was tightened
pub record Ledger : Type 0 where
  pub start : Sparse
  pub problem : Sparse
  pub history : List Reduction
  pub verdict : Option Verdict
  pub records : List Undo
  pub transactions : List Transaction
  pub tally : Counts
  pub numbers : Numbers
  pub limit : ℕ

-- how many instances were applied: the reductions, and the verdict
abbrev pub closes : Option Verdict → ℕ
closes None = 0
closes (Some v) = 1

abbrev pub instance_count : Ledger → ℕ
instance_count b = length b.history + closes b.verdict

-- what the type keeps: no part of the start had changed; the problem and the records are those of the history, which replays on it, the
-- transactions tell what its reductions read, and the tally is that of the records; a verdict is enabled on the problem
pub record Stands (b : Ledger) : Type 0 where
  pub sound : IsSparse b.start
  pub writable : IsWritable b.numbers b.start
  pub unchanged : (a : Part) → changes_of b.start a ≡ 0
  pub replays : Replays b.numbers b.start b.history
  pub problem : b.problem ≡ replay b.start b.history
  pub records : b.records ≡ records b.start b.history
  pub transactions : TellReadings b.start b.history b.transactions
  pub counts : AreCountsOf (length b.problem.matrix.columns) b.tally
  pub tally : IsTally b.tally b.records
  pub verdict : IfSome b.verdict (λ v. enabled_on b.problem (at.Verdict v) ≡ true)
  pub within : length b.history ≤ b.limit
