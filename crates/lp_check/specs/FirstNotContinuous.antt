-- The first column that has to be whole, or is semi-continuous.
use Rattle.std.specs.Prelude.{◌≡◌, ◌⊎◌, ℕ, ◌<◌, IsTrue, IsSome, false, None}
use Rattle.lp_model.specs.LinearProgram.{LinearProgram}

pub record IsFirstNotContinuous (M : LinearProgram) (j : ℕ) : Type 0 where
  pub column : j < M.columns
  pub kind : IsTrue (M.whole j) ⊎ IsSome (M.gap j)
  pub first : (k : ℕ) → k < j → (M.whole k ≡ false) × (M.gap k ≡ None)
