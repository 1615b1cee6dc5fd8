-- What a commit may answer, in this order, and what it leaves.
use Rattle.std.specs.Prelude.{◌≡◌, ℕ, ◌+◌, ◌<◌, ◌≤◌, [], ◌∷◌, ◌++◌, length, min, Some, None}
use Rattle.transactions.specs.Transactions.{Transaction}
use Rattle.problem_model.specs.Sparse.{Sparse}
use Rattle.presolve_model.specs.declared.instance.Instance.{Instance}
use Rattle.presolve_model.specs.declared.instance.Instance.TheVariants.{Reduction, Verdict}
use Rattle.presolve_model.specs.Given.{Proposed}
use Rattle.problem_model.specs.Reading.{Agrees, DiffersAt}
use Rattle.presolve_model.specs.Changes.{changed}
use Rattle.presolve_model.specs.Instances.{tallied}
use Rattle.presolve_model.specs.Tables.{record_of}
use Rattle.presolve_model.specs.Transactions.{numbers_read}
use Rattle.presolve_model.specs.Changes.{ChangeFits, ChangeIsWritten}
use Rattle.presolve_model.specs.Ledger.{Ledger}
use Rattle.presolve_model.specs.declared.outcome.Outcome.{Outcome}
use Rattle.presolve_model.specs.declared.outcome.Outcome.TheVariants.{Closed, Full, Stale, Past, NotDecimal, Applied, NoMemory}

-- there is room for one more; a verdict needs none
abbrev pub HasRoom : Ledger → Instance → Type 0
HasRoom b (Reduction r) = length b.history < b.limit
HasRoom b (Verdict v) = Unit {0}

abbrev pub IsFull : Ledger → Instance → Type 0
IsFull b (Reduction r) = b.limit ≤ length b.history
IsFull b (Verdict v) = ⊥

-- no verdict stands, there is room, and what was read stands
pub record IsOpen (b : Ledger) (p : Proposed) : Type 0 where
  pub undecided : b.verdict ≡ None
  pub room : HasRoom b p.instance
  pub agrees : Agrees b.problem p.reading

abbrev pub Fits : Instance → Sparse → Type 0
Fits (Reduction r) p = ChangeFits r p
Fits (Verdict v) p = Unit {0}

abbrev pub CanWrite : Ledger → Instance → Type 0
CanWrite b (Reduction r) = ChangeIsWritten b.numbers r b.problem
CanWrite b (Verdict v) = Unit {0}

-- how many stand in the history, a verdict too
abbrev pub next_place : Ledger → ℕ
next_place b = length b.history + 1

abbrev pub Allows : Ledger → Proposed → Outcome → Type 0
Allows b p (Closed v) = b.verdict ≡ Some v
Allows b p Full = (b.verdict ≡ None) × IsFull b p.instance
Allows b p (Stale k) = (b.verdict ≡ None) × HasRoom b p.instance × DiffersAt b.problem p.reading k
Allows b p Past = IsOpen b p × (Fits p.instance b.problem → ⊥)
Allows b p NotDecimal = IsOpen b p × Fits p.instance b.problem × (CanWrite b p.instance → ⊥)
Allows b p (Applied k) = IsOpen b p × Fits p.instance b.problem × CanWrite b p.instance × (k ≡ next_place b)
Allows b p NoMemory = Unit {0}

-- the transaction of an instance that w commits, found on a version: that one, or where it isn't below the instance's place the one before
-- that; and what the instance reads of the present problem
abbrev pub transaction_of : Ledger → (w version : ℕ) → Instance → Transaction
transaction_of b w version e = record { by = w; version = min version (length b.history); reads = numbers_read b.problem e }

-- the book with one instance more, which w commits, found on a version
abbrev pub with_instance : Ledger → (w version : ℕ) → Instance → Ledger
with_instance b w version (Reduction r) = record b {
  problem = changed r b.problem;
  history = b.history ++ r ∷ [];
  records = b.records ++ record_of r b.problem ∷ [];
  transactions = b.transactions ++ transaction_of b w version (Reduction r) ∷ [];
  tally = tallied r b.tally;
}
with_instance b w version (Verdict v) = record b { verdict = Some v }

-- what a commit of w leaves: only what is applied changes the book
abbrev pub left_by : Ledger → (w : ℕ) → Proposed → Outcome → Ledger
left_by b w p (Applied k) = with_instance b w p.version p.instance
left_by b w p (Closed v) = b
left_by b w p Full = b
left_by b w p (Stale k) = b
left_by b w p Past = b
left_by b w p NotDecimal = b
left_by b w p NoMemory = b
