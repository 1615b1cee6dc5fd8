-- The weights that lines give to names. The nearest line stands first.
use Rattle.std.specs.Prelude.{List, [], ◌∷◌, Option, Some, None, unwrap_or, if◌then◌else◌}
use Rattle.std.specs.Str.{bytes_eq}
use Rattle.fractions.specs.Number.{zero_ℚ}
use Rattle.fractions.specs.declared.Numbers.TheVariants.{Fractions}
use Rattle.number_texts.specs.Read.{read_of}
use Rattle.mps_profile.specs.Texts.{Text}
use Rattle.point_text.specs.Values.{number_in}
use Rattle.ray_text.specs.declared.weights.EndWeights.{EndWeights}
use Rattle.ray_text.specs.RayLines.{Giving, Line, Silent, Opens, OfRow, OfColumn, Odd}

-- what the lines give to rows, and to columns
abbrev pub of_rows : List Line → List Giving
of_rows [] = []
of_rows (Silent ∷ before) = of_rows before
of_rows (Opens ∷ before) = of_rows before
of_rows (OfRow g ∷ before) = g ∷ of_rows before
of_rows (OfColumn g ∷ before) = of_rows before
of_rows (Odd ∷ before) = of_rows before

abbrev pub of_columns : List Line → List Giving
of_columns [] = []
of_columns (Silent ∷ before) = of_columns before
of_columns (Opens ∷ before) = of_columns before
of_columns (OfRow g ∷ before) = of_columns before
of_columns (OfColumn g ∷ before) = g ∷ of_columns before
of_columns (Odd ∷ before) = of_columns before

-- the two numbers of a line; 0 stands for one that is none, which is a fault of its line
abbrev pub weights_in : Giving → EndWeights
weights_in g = record { lower = number_in (read_of Fractions g.lower); upper = number_in (read_of Fractions g.upper) }

-- those of the nearest line that names it
abbrev pub given : List Giving → Text → Option EndWeights
given [] name = None
given (g ∷ before) name = if bytes_eq g.name name then Some (weights_in g) else given before name

-- two zeros where no line names it
abbrev pub no_weights : EndWeights
no_weights = record { lower = zero_ℚ; upper = zero_ℚ }

abbrev pub weights_or_none : Option EndWeights → EndWeights
weights_or_none o = unwrap_or o no_weights
