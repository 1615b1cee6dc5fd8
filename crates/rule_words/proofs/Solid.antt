-- A column that is not semi-continuous shows its bounds, and no gap.
use Rattle.std.proofs.Common.{◌≡◌, ℕ, Bool, true, false, None, ap, refl, ◌∙◌}
use Rattle.lp_model.specs.Gaps.{reach_lower, reach_upper, gap_of}
use Rattle.problem_model.specs.declared.line.Bounds.{Bounds}
use Rattle.problem_model.specs.Showing.{reach_low, reach_high, gap_if, shown}
use Rattle.problem_model.specs.Problems.{column_at, bounds_at}
use Rattle.problem_model.specs.Sparse.{Sparse}
use Rattle.rule_words.proofs.Coefficients.{end_live}

pub low_solid : (b : Bounds) → b.semi ≡ false → reach_low b ≡ b.lower
low_solid b e = ap (λ (t : Bool). reach_lower t b.lower b.upper) e

pub high_solid : (b : Bounds) → b.semi ≡ false → reach_high b ≡ b.upper
high_solid b e = ap (λ (t : Bool). reach_upper t b.lower b.upper) e

pub gap_solid : (on : Bool) (b : Bounds) → b.semi ≡ false → gap_if on b ≡ None
gap_solid true b e = ap (λ (t : Bool). gap_of t b.lower b.upper) e
gap_solid false b e = refl

-- what is shown of such a column that is live
pub low_shown : (p : Sparse) (j : ℕ) → (column_at p j).live ≡ true → (bounds_at p j).semi ≡ false → (shown p).lower_bound j ≡ (bounds_at p j).lower
low_shown p j live solid = end_live (column_at p j).live (reach_low (bounds_at p j)) live ∙ low_solid (bounds_at p j) solid

pub high_shown : (p : Sparse) (j : ℕ) → (column_at p j).live ≡ true → (bounds_at p j).semi ≡ false → (shown p).upper_bound j ≡ (bounds_at p j).upper
high_shown p j live solid = end_live (column_at p j).live (reach_high (bounds_at p j)) live ∙ high_solid (bounds_at p j) solid
