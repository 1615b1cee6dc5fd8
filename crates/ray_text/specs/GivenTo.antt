-- What the lines of a text give to names.
use Rattle.std.specs.Prelude.{◌≡◌, ℕ, List, [], ◌∷◌, Contains}
use Rattle.text_lines.specs.Lines.{lines_of}
use Rattle.mps_profile.specs.Texts.{Text}
use Rattle.mps_profile.specs.Fields.{fields_of}
use Rattle.ray_text.specs.declared.weights.EndWeights.{EndWeights}
use Rattle.ray_text.specs.Given.{of_rows, of_columns, given, weights_or_none}
use Rattle.ray_text.specs.Reading.{said}

-- the four fields of a line are the word, the name and the two numbers
pub record IsGiven (word : Text) (text : List ℕ) (name lower upper : Text) : Type 0 where
  pub line : Text
  pub stands : Contains (lines_of text) line
  pub fields : fields_of line ≡ word ∷ name ∷ lower ∷ upper ∷ []

-- the weights of the row, and of the column, with a name
abbrev pub row_weights : List ℕ → Text → EndWeights
row_weights text name = weights_or_none (given (of_rows (said text)) name)

abbrev pub column_weights : List ℕ → Text → EndWeights
column_weights text name = weights_or_none (given (of_columns (said text)) name)
