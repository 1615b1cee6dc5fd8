-- Flags of tasks.
use Rattle.std.specs.Prelude.{◌≡◌, ◌⊎◌, ℕ, Bool, true, false, List, length, get_or}
use Rattle.std.specs.List.{Contains}

-- the flag at a place is set
abbrev pub IsSet : List Bool → ℕ → Type 0
IsSet flags i = get_or flags i false ≡ true

-- flags after those of some places were set, and no other
pub record Sets (done : List ℕ) (before after : List Bool) : Type 0 where
  pub long : length after ≡ length before
  pub only : (i : ℕ) → IsSet after i → IsSet before i ⊎ Contains done i
