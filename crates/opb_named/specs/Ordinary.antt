-- Names that can stand in any text.
use Rattle.std.specs.Prelude.{◌≡◌, ◌≤◌, ◌&&◌, nat_le, ℕ, Bool, List, ◌∷◌}
use Rattle.std.specs.List.{AllPass}

-- a printable byte, and no space
abbrev pub is_visible : ℕ → Bool
is_visible b = nat_le 33 b && nat_le b 126

-- a lower-case letter with such bytes behind it
pub record IsOrdinary (name : List ℕ) : Type 0 where
  pub letter : ℕ
  pub rest : List ℕ
  pub is : name ≡ letter ∷ rest
  pub least : 97 ≤ letter
  pub most : letter ≤ 122
  pub visible : AllPass is_visible rest
