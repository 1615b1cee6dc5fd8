-- What a reduction makes of a problem on which it is enabled, and when its numbers have room and can be written. No rule is named here.
use Rattle.fractions.specs.Number.{Number}
use Rattle.fractions.specs.declared.Numbers.{Numbers}
use Rattle.problem_model.specs.NewNumbers.{EditsFit, EditsAreWritten}
use Rattle.problem_model.specs.Offsets.{added_by}
use Rattle.problem_model.specs.Raised.{committed}
use Rattle.problem_model.specs.Sparse.{Sparse}
use Rattle.presolve_model.specs.declared.instance.Reduction.{Reduction}
use Rattle.presolve_model.specs.Tables.{edits, Computes}

-- its edits made, with the number of each part risen that holds something else
abbrev pub changed : Reduction → Sparse → Sparse
changed r p = committed p (edits r p)

-- what it adds to the cost
abbrev pub added : Reduction → Sparse → Number
added r p = added_by (edits r p)

-- the numbers that it computes, and those that are new, are not past
pub record ChangeFits (r : Reduction) (p : Sparse) : Type 0 where
  pub computes : Computes r p
  pub edits : EditsFit p (edits r p)

-- what stands in the problem after it can be written
abbrev pub ChangeIsWritten : Numbers → Reduction → Sparse → Type 0
ChangeIsWritten numbers r p = EditsAreWritten numbers (edits r p)
