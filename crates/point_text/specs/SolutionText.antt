-- The text of a solution, by the texts of numbers.
use Rattle.std.specs.Prelude.{ℕ, List, [], ◌∷◌, ◌++◌}
use Rattle.fractions.specs.Number.{Number}
use Rattle.number_texts.specs.Written.{written}
use Rattle.exact_texts.specs.Texts.{Writing}
use Rattle.mps_profile.specs.Texts.{Text}

-- a name, a space, its value and a line feed
abbrev pub value_line_by : Writing → Text → Number → List ℕ
value_line_by w name value = name ++ 32 ∷ (w value ++ 10 ∷ [])

abbrev pub solution_text_by : Writing → List Text → List Number → List ℕ
solution_text_by w [] values = []
solution_text_by w (name ∷ names) [] = []
solution_text_by w (name ∷ names) (value ∷ values) = value_line_by w name value ++ solution_text_by w names values

-- the same of a `Frac`
abbrev pub solution_text : List Text → List Number → List ℕ
solution_text names values = solution_text_by written names values
