-- Bounds that are tightened, and rows of which a coefficient is, hold something else than they did.
use Rattle.std.proofs.Common.{◌≡◌, ◌≢◌, ℕ, true, arith, refl}
use Rattle.std.specs.List.{Contains}
use Rattle.undo_records.specs.declared.side.Side.{Side}
use Rattle.problem_model.specs.declared.part.Part.TheVariants as part
use Rattle.problem_model.specs.Parts.{changes_of, contents_of}
use Rattle.problem_model.specs.Problems.{IsSparse}
use Rattle.problem_model.specs.Raised.{risen}
use Rattle.problem_model.specs.Sparse.{Sparse}
use Rattle.activity_laws.proofs.BoundTightening.{bounds_differ, reads_bounds}
use Rattle.coef_laws.proofs.Changing.{row_differs}
use Rattle.presolve_model.specs.declared.instance.Instance.TheVariants as at
use Rattle.presolve_model.specs.declared.instance.Reduction.TheVariants.{BoundTightening, CoefficientTightening}
use Rattle.presolve_model.specs.Changes.{changed}
use Rattle.presolve_model.specs.Enabled.{enabled_on, reads}
use Rattle.presolve_model.specs.Tables.{edits}
use Rattle.presolve_model.proofs.Tabled.{counted_changed}

pub tightened_differ : (p : Sparse) (i j : ℕ) (side : Side) → IsSparse p → enabled_on p (at.Reduction (BoundTightening i j side)) ≡ true → contents_of (changed (BoundTightening i j side) p) (part.Bounds j) ≢ contents_of p (part.Bounds j)
unfolding edits
tightened_differ p i j side s e = bounds_differ p i j side s e

pub tightened_rise : (p : Sparse) (i j : ℕ) (side : Side) → IsSparse p → enabled_on p (at.Reduction (BoundTightening i j side)) ≡ true → changes_of (changed (BoundTightening i j side) p) (part.Bounds j) ≡ risen (changes_of p (part.Bounds j))
tightened_rise p i j side s e = (counted_changed p (BoundTightening i j side) s e (part.Bounds j)).other (tightened_differ p i j side s e)

pub tightened_read : (p : Sparse) (i j : ℕ) (side : Side) → enabled_on p (at.Reduction (BoundTightening i j side)) ≡ true → Contains (reads p (at.Reduction (BoundTightening i j side))) (part.Bounds j)
tightened_read p i j side e = reads_bounds p i j side e

pub coefficient_differs : (p : Sparse) (i j : ℕ) → IsSparse p → enabled_on p (at.Reduction (CoefficientTightening i j)) ≡ true → contents_of (changed (CoefficientTightening i j) p) (part.Row i) ≢ contents_of p (part.Row i)
unfolding edits
coefficient_differs p i j s e = row_differs p i j s e

pub coefficient_rises : (p : Sparse) (i j : ℕ) → IsSparse p → enabled_on p (at.Reduction (CoefficientTightening i j)) ≡ true → changes_of (changed (CoefficientTightening i j) p) (part.Row i) ≡ risen (changes_of p (part.Row i))
coefficient_rises p i j s e = (counted_changed p (CoefficientTightening i j) s e (part.Row i)).other (coefficient_differs p i j s e)

pub coefficient_read : (p : Sparse) (i j : ℕ) → Contains (reads p (at.Reduction (CoefficientTightening i j))) (part.Row i)
coefficient_read p i j = (0, omega arith, refl)
