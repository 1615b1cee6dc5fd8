-- The nearest limit so far.
use Rattle.std.specs.Prelude.{◌≡◌, ◌⊎◌, ℕ, ◌<◌, ◌≤◌, Option, Some, None}
use Rattle.fractions.specs.Number.{Number}
use Rattle.fractions.specs.Order.{◌<ℚ◌}
use Rattle.simplex_steps.specs.declared.limits.Stop.{Stop}

-- s is the nearest of the limits below k, and the first of these
pub record IsNearest (limits : ℕ → Option Number) (k : ℕ) (s : Stop) : Type 0 where
  pub within : s.variable < k
  pub limit : limits s.variable ≡ Some s.far
  pub least : (j : ℕ) (r : Number) → j < k → limits j ≡ Some r → (s.far <ℚ r) ⊎ ((s.far ≡ r) × (s.variable ≤ j))

-- the nearest, if there is a limit
abbrev pub IsBest : (ℕ → Option Number) → ℕ → Option Stop → Type 0
IsBest limits k None = (j : ℕ) → j < k → limits j ≡ None
IsBest limits k (Some s) = IsNearest limits k s
