-- What the lines of a text give to names.
use Rattle.std.specs.Prelude.{◌≡◌, ◌≢◌, ℕ, List, [], ◌∷◌, Contains, codes}
use Rattle.text_lines.specs.Lines.{lines_of}
use Rattle.mps_profile.specs.Texts.{Text}
use Rattle.mps_profile.specs.Fields.{fields_of}

-- the two fields of a line are the name and the number, and the line is not the objective's
pub record IsGiven (text : List ℕ) (name number : Text) : Type 0 where
  pub line : Text
  pub stands : Contains (lines_of text) line
  pub fields : fields_of line ≡ name ∷ number ∷ []
  pub counts : name ≢ codes "=obj="
