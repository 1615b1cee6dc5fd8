-- Finite sums over the numbers below n, and functions changed at one place.
use Rattle.std.specs.Prelude.{ℕ, zero, suc, nat_eq, if◌then◌else◌}
use Rattle.fractions.specs.Number.{Number, ◌+ℚ◌}
pub use Rattle.fractions.specs.Number.{zero_ℚ}

-- f 0 + f 1 + .. + f (n - 1)
unfoldable pub total : ℕ → (ℕ → Number) → Number
total zero f = zero_ℚ
total (suc n) f = total n f +ℚ f n

-- f with the value v at j
unfoldable pub put : {A : Type 0} → (ℕ → A) → ℕ → A → ℕ → A
put f j v k = if nat_eq k j then v else f k
