-- What applying a reduction to a book may answer, and what it leaves.
use Rattle.std.specs.Prelude.{◌≡◌, ℕ, Result, Ok, Err}
use Rattle.presolve_model.specs.declared.instance.Reduction.{Reduction}
use Rattle.presolve_model.specs.declared.instance.Instance.TheVariants as at
use Rattle.presolve_model.specs.declared.outcome.Outcome.{Outcome}
use Rattle.presolve_model.specs.declared.outcome.Outcome.TheVariants as outcome
use Rattle.problem_model.specs.declared.refusal.Refusal.{Refusal}
use Rattle.problem_model.specs.declared.refusal.Refusal.TheVariants.{Past, NotDecimal, NoMemory}
use Rattle.presolve_model.specs.Changes.{ChangeFits, ChangeIsWritten}
use Rattle.presolve_model.specs.Ledger.{Ledger}
use Rattle.presolve_model.specs.Commits.{next_place, with_instance}

-- the book c with the reduction, which w applies, found on a version, and its place; Past where a number of the change is, else NotDecimal where one can't be written.
-- A refusal leaves the book b.
abbrev pub Applies : Ledger → (w version : ℕ) → Reduction → Result ℕ Refusal → Ledger → Type 0
Applies b w version r (Ok k) c = ChangeFits r b.problem × ChangeIsWritten b.numbers r b.problem × (k ≡ next_place b) × (c ≡ with_instance b w version (at.Reduction r))
Applies b w version r (Err Past) c = (ChangeFits r b.problem → ⊥) × (c ≡ b)
Applies b w version r (Err NotDecimal) c = ChangeFits r b.problem × (ChangeIsWritten b.numbers r b.problem → ⊥) × (c ≡ b)
Applies b w version r (Err NoMemory) c = c ≡ b

-- the same answer to a commit
abbrev pub outcome_of : Result ℕ Refusal → Outcome
outcome_of (Ok k) = outcome.Applied k
outcome_of (Err Past) = outcome.Past
outcome_of (Err NotDecimal) = outcome.NotDecimal
outcome_of (Err NoMemory) = outcome.NoMemory
