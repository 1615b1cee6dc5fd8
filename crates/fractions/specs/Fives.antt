-- Powers of five.
use Rattle.std.specs.Prelude.{◌≡◌, ℕ, ◌^◌}

pub record IsPowerOfFive (n : ℕ) : Type 0 where
  pub exponent : ℕ
  pub is : n ≡ 5 ^ exponent
