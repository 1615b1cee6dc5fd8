-- K14: the numbers that a row and the offset get.
use Rattle.std.specs.Prelude.{◌≡◌, ℕ}
use Rattle.fractions.specs.Lowest.{Fits}
use Rattle.problem_model.specs.Problems.{bounds_at, sides_at}
use Rattle.problem_model.specs.Sparse.{Sparse}
use Rattle.column_laws.specs.SoleEntry.{entry_of}
use Rattle.column_laws.specs.SlackColumnSingleton.{SideComputes, gain_of, least_at, most_at, new_lower, new_upper}
use Rattle.column_rules.specs.declared.slack_column_singleton.NewNumbers.{NewNumbers}

-- what the offset gains, and the row's new sides
pub record AreNumbers (p : Sparse) (j i : ℕ) (m : NewNumbers) : Type 0 where
  pub gain : m.gain ≡ gain_of p j i
  pub lower : m.lower ≡ new_lower p j i
  pub upper : m.upper ≡ new_upper p j i

-- they are computed
pub record NumbersCompute (p : Sparse) (j i : ℕ) : Type 0 where
  pub gain : Fits (gain_of p j i)
  pub lower : SideComputes (entry_of p j i) (sides_at p i).lower (most_at (entry_of p j i) (bounds_at p j).lower (bounds_at p j).upper)
  pub upper : SideComputes (entry_of p j i) (sides_at p i).upper (least_at (entry_of p j i) (bounds_at p j).lower (bounds_at p j).upper)
