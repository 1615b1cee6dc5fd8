-- What is listed of what the reductions of a history read.
use Rattle.std.specs.Prelude.{◌≡◌, List, [], ◌∷◌, map}
use Rattle.problem_model.specs.declared.part.Part.{Part}
use Rattle.problem_model.specs.declared.part.Read.{Read}
use Rattle.problem_model.specs.Parts.{changes_of}
use Rattle.problem_model.specs.Sparse.{Sparse}
use Rattle.transactions.specs.declared.transactions.PartRead.{PartRead}
use Rattle.transactions.specs.Transactions.{Transaction, VersionsBelow}
use Rattle.presolve_model.specs.declared.instance.Instance.{Instance}
use Rattle.presolve_model.specs.declared.instance.Instance.TheVariants as at
use Rattle.presolve_model.specs.declared.instance.Reduction.{Reduction}
use Rattle.presolve_model.specs.Changes.{changed}
use Rattle.presolve_model.specs.Enabled.{reads}

-- a part with how often it has changed
abbrev pub numbered : Sparse → Part → PartRead
numbered p a = record { part = a; changes = changes_of p a }

-- and as it was read
abbrev pub told_of : Read → PartRead
told_of r = record { part = r.part; changes = r.changes }

-- the parts that an instance reads of a problem, in their order, each with how often it has changed
abbrev pub numbers_read : Sparse → Instance → List PartRead
numbers_read p e = map (numbered p) (reads p e)

-- what each reduction of a history reads of the problem then present
abbrev pub numbers_along : Sparse → List Reduction → List (List PartRead)
numbers_along p [] = []
numbers_along p (r ∷ rs) = numbers_read p (at.Reduction r) ∷ numbers_along (changed r p) rs

-- each transaction lists exactly the parts that its reduction reads of the problem then present, with the numbers then present, and its
-- version is below its place
pub record TellReadings (p : Sparse) (rs : List Reduction) (ts : List Transaction) : Type 0 where
  pub reads : map (λ t. t.reads) ts ≡ numbers_along p rs
  pub versions : VersionsBelow 1 ts
