-- What applying a reduction may answer, and what it leaves.
use Rattle.std.specs.Prelude.{◌≡◌, Result, Ok, Err}
use Rattle.fractions.specs.declared.Numbers.{Numbers}
use Rattle.undo_records.specs.declared.undo.Undo.{Undo}
use Rattle.problem_model.specs.Sparse.{Sparse}
use Rattle.presolve_model.specs.declared.instance.Reduction.{Reduction}
use Rattle.problem_model.specs.declared.refusal.Refusal.{Refusal}
use Rattle.problem_model.specs.declared.refusal.Refusal.TheVariants.{Past, NotDecimal, NoMemory}
use Rattle.presolve_model.specs.Changes.{changed}
use Rattle.presolve_model.specs.Tables.{record_of}
use Rattle.presolve_model.specs.Changes.{ChangeFits, ChangeIsWritten}

-- the change and its record; Past where a number of the change is, else NotDecimal where one can't be written. A refusal changes nothing.
abbrev pub AfterAllows : Numbers → Reduction → Sparse → Result Undo Refusal → Sparse → Type 0
AfterAllows numbers r p (Ok u) q = ChangeFits r p × ChangeIsWritten numbers r p × (q ≡ changed r p) × (u ≡ record_of r p)
AfterAllows numbers r p (Err Past) q = (ChangeFits r p → ⊥) × (q ≡ p)
AfterAllows numbers r p (Err NotDecimal) q = ChangeFits r p × (ChangeIsWritten numbers r p → ⊥) × (q ≡ p)
AfterAllows numbers r p (Err NoMemory) q = q ≡ p
