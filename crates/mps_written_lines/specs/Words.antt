-- Words that can stand in a text in free format.
use Rattle.std.specs.Prelude.{◌≡◌, ℕ, ◌==◌, ◌||◌, not, Bool, true, false, length, codes}
use Rattle.std.specs.List.{list_all}
use Rattle.std.specs.Str.{bytes_eq}
use Rattle.mps_profile.specs.Texts.{Text}
use Rattle.mps_profile.specs.Fields.{is_blank}

-- whether a byte ends a word: a space, a tab, a line feed or a carriage return
abbrev pub ends_word : ℕ → Bool
ends_word b = is_blank b || (b == 10) || (b == 13)

-- some bytes, none of which ends a word
pub record IsWord (word : Text) : Type 0 where
  pub some : (length word == 0) ≡ false
  pub plain : list_all (λ b. not (ends_word b)) word ≡ true

-- a word, and not the one that tells marker cards
pub record IsRowName (name : Text) : Type 0 where
  pub word : IsWord name
  pub other : bytes_eq name (codes "'MARKER'") ≡ false
