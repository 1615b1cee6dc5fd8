-- What bytes are a name.
use Rattle.std.specs.Prelude.{◌==◌, ◌&&◌, ◌||◌, not, ℕ, Bool, IsTrue, List, length}
use Rattle.std.specs.List.{list_all}

-- a space, a tab or a line feed
abbrev pub is_break : ℕ → Bool
is_break b = (b == 32) || (b == 9) || (b == 10)

-- whether bytes are a name: some, and none of them a break
abbrev pub is_name : List ℕ → Bool
is_name bytes = not (length bytes == 0) && list_all (λ b. not (is_break b)) bytes

abbrev pub IsName : List ℕ → Type 0
IsName bytes = IsTrue (is_name bytes)
