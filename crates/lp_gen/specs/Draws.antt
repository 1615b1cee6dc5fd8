-- Draws from a seed. A state is itself the seed of the draws behind it.
use Rattle.std.specs.Prelude.{ℕ, zero, suc, ◌+◌, ◌*◌, ◌/◌, ◌%◌, ◌^◌}

-- the state after so many draws
unfoldable pub state_after : ℕ → ℕ → ℕ
state_after seed zero = seed
state_after seed (suc k) = (state_after seed k * 6364136223846793005 + 1442695040888963407) % 2 ^ 64

-- the answer of draw k, counted from 0, which is below n
unfoldable pub drawn : ℕ → ℕ → ℕ → ℕ
drawn seed k n = state_after seed (suc k) / 2 ^ 33 % n
