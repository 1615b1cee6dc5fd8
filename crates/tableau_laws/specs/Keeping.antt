-- What a tableau of a program keeps.
use Rattle.std.specs.Prelude.{◌≡◌, ◌↔◌, ℕ, ◌<◌, true, false}
use Rattle.fractions.specs.Number.{zero_ℚ, ◌*ℚ◌}
use Rattle.fractions.specs.Total.{total}
use Rattle.lp_model.specs.Vectors.{Vector}
use Rattle.lp_model.specs.LinearProgram.{LinearProgram}
use Rattle.tableau_laws.specs.Variables.{variables, lower_end, upper_end, IsExtended, Rests}
use Rattle.tableau_laws.specs.Tableaus.{Tableau, Solves}

-- only basic variables have rows, and only the others stand in them
pub record IsSplit (t : Tableau) : Type 0 where
  pub rows : (m k : ℕ) → m < t.size → k < t.size → t.basic m ≡ false → t.table m k ≡ zero_ℚ
  pub columns : (m k : ℕ) → m < t.size → k < t.size → t.basic k ≡ true → t.table m k ≡ zero_ℚ
  pub prices : (k : ℕ) → k < t.size → t.basic k ≡ true → t.prices k ≡ zero_ℚ

-- t is a tableau of M: what solves its rows are the points with their rows' values, its prices tell their costs, its own values are
-- such a point, and each variable that is not basic is at an end, if it has one
pub record IsTableau (M : LinearProgram) (t : Tableau) : Type 0 where
  pub size : t.size ≡ variables M
  pub split : IsSplit t
  pub points : (v : Vector) → IsExtended M v ↔ Solves t v
  pub costs : (v : Vector) → IsExtended M v → total t.size (λ k. t.prices k *ℚ v k) ≡ total M.columns (λ j. M.costs j *ℚ v j)
  pub values : Solves t t.values
  pub rests : (k : ℕ) → k < t.size → t.basic k ≡ false → Rests (lower_end M k) (upper_end M k) (t.values k)
