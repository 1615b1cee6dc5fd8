-- Names that can be told from the rest of a solution's text.
use Rattle.std.specs.Prelude.{◌≢◌, ℕ, ◌<◌, ◌==◌, ◌||◌, Bool, false, ◌≡◌, length, codes, All}
use Rattle.mps_profile.specs.Texts.{Text}

-- a space, a tab, a line feed or a carriage return
abbrev pub is_break : ℕ → Bool
is_break b = (b == 32) || (b == 9) || (b == 10) || (b == 13)

pub record Plain (name : Text) : Type 0 where
  pub filled : 0 < length name
  pub unbroken : All (λ b. is_break b ≡ false) name
  pub no_objective : name ≢ codes "=obj="
