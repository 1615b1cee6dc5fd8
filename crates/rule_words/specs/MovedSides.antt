-- The sides of rows out of which a multiple of a column is taken.
use Rattle.fractions.specs.Number.{Number, ◌*ℚ◌}
use Rattle.fractions.specs.Lowest.{Fits}
use Rattle.fractions.specs.Ends.{less}
use Rattle.fractions.specs.EndWords.{LessFits}
use Rattle.lp_model.specs.declared.terms.Term.{Term}
use Rattle.problem_model.specs.declared.edit.Edit.{Edit}
use Rattle.problem_model.specs.declared.edit.Edit.TheVariants.{SetSides}
use Rattle.problem_model.specs.Problems.{sides_at}
use Rattle.problem_model.specs.Sparse.{Sparse}

-- the sides of a term's row less the term at v
abbrev pub sides_less : Sparse → Number → Term → Edit
sides_less p v t = SetSides t.id (less (sides_at p t.id).lower (t.value *ℚ v)) (less (sides_at p t.id).upper (t.value *ℚ v))

-- the product and the differences are computed
pub record SidesFit (p : Sparse) (v : Number) (t : Term) : Type 0 where
  pub product : Fits (t.value *ℚ v)
  pub lower : LessFits (sides_at p t.id).lower (t.value *ℚ v)
  pub upper : LessFits (sides_at p t.id).upper (t.value *ℚ v)
