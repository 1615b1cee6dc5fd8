-- A history of reductions applied to a problem.
use Rattle.std.specs.Prelude.{◌≡◌, true, ⊤, List, [], ◌∷◌}
use Rattle.fractions.specs.declared.Numbers.{Numbers}
use Rattle.undo_records.specs.declared.undo.Undo.{Undo}
use Rattle.problem_model.specs.declared.edit.Edit.{Edit}
use Rattle.problem_model.specs.Sparse.{Sparse}
use Rattle.presolve_model.specs.declared.instance.Reduction.{Reduction}
use Rattle.presolve_model.specs.declared.instance.Instance.TheVariants as at
use Rattle.presolve_model.specs.Enabled.{enabled_on}
use Rattle.presolve_model.specs.Changes.{changed}
use Rattle.presolve_model.specs.Tables.{edits, record_of}
use Rattle.presolve_model.specs.Changes.{ChangeFits, ChangeIsWritten}

-- the problem after the reductions, the first one first
abbrev pub replay : Sparse → List Reduction → Sparse
replay p [] = p
replay p (r ∷ rs) = replay (changed r p) rs

-- the records of the reductions, each with what stood before it
abbrev pub records : Sparse → List Reduction → List Undo
records p [] = []
records p (r ∷ rs) = record_of r p ∷ records (changed r p) rs

-- a reduction can be applied: it is enabled, and its numbers have room and can be written
pub record CanApply (numbers : Numbers) (p : Sparse) (r : Reduction) : Type 0 where
  pub enabled : enabled_on p (at.Reduction r) ≡ true
  pub fits : ChangeFits r p
  pub written : ChangeIsWritten numbers r p

-- each reduction can be applied where its turn comes
abbrev pub Replays : Numbers → Sparse → List Reduction → Type 0
Replays numbers p [] = ⊤
Replays numbers p (r ∷ rs) = CanApply numbers p r × Replays numbers (changed r p) rs

-- the edits of a history: those of each reduction, a commit each
abbrev pub edits_along : Sparse → List Reduction → List (List Edit)
edits_along p [] = []
edits_along p (r ∷ rs) = edits r p ∷ edits_along (changed r p) rs
