-- Ends that are crossed: no number lies between them.
use Rattle.std.specs.Prelude.{Option, Some, None}
use Rattle.fractions.specs.Number.{Number}
use Rattle.fractions.specs.Order.{◌<ℚ◌}

-- the lower end is above the upper end
abbrev pub AreCrossed : Option Number → Option Number → Type 0
AreCrossed None u = ⊥
AreCrossed (Some l) None = ⊥
AreCrossed (Some l) (Some u) = u <ℚ l
