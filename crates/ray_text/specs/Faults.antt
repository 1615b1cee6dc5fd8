-- The faults of lines, each by the lines before it, of which the nearest stands first.
use Rattle.std.specs.Prelude.{Bool, true, false, ◌||◌, List, [], ◌∷◌, Option, Some, None, Result, Ok, Err, is_some, if◌then◌else◌}
use Rattle.fractions.specs.Number.{Number}
use Rattle.fractions.specs.declared.Numbers.TheVariants.{Fractions}
use Rattle.number_texts.specs.Read.{read_of}
use Rattle.number_texts.specs.declared.reading.ReadNumber.{ReadNumber}
use Rattle.mps_profile.specs.Texts.{Text}
use Rattle.point_text.specs.Values.{number_in}
use Rattle.point_text.specs.Faults.{is_unknown, is_bad, is_past, first_of}
use Rattle.point_text.specs.declared.faults.SolFaultKind.{SolFaultKind}
use Rattle.point_text.specs.declared.faults.SolFaultKind.TheVariants.{BadLine, UnknownName, TwiceNamed, NumberPast, BadNumber}
use Rattle.ray_text.specs.declared.weights.EndWeights.{EndWeights}
use Rattle.ray_text.specs.RayLines.{Giving, Line, Silent, Opens, OfRow, OfColumn, Odd}
use Rattle.ray_text.specs.Given.{of_rows, of_columns, given}

-- whether one of the lines starts a ray
abbrev pub is_open : List Line → Bool
is_open [] = false
is_open (Silent ∷ before) = is_open before
is_open (Opens ∷ before) = true
is_open (OfRow g ∷ before) = is_open before
is_open (OfColumn g ∷ before) = is_open before
is_open (Odd ∷ before) = is_open before

-- the fault of a line that names one of these: the first of the table, which is in the order of the numbers
abbrev pub giving_fault : List Text → List Giving → Giving → Option SolFaultKind
giving_fault names before g = first_of (
    (is_unknown names g.name, UnknownName) ∷ (is_some (given before g.name), TwiceNamed)
    ∷ (is_past (read_of Fractions g.lower) || is_past (read_of Fractions g.upper), NumberPast)
    ∷ (is_bad (read_of Fractions g.lower) || is_bad (read_of Fractions g.upper), BadNumber) ∷ [])

-- the fault of a line where rows and columns have these names. Nothing but a blank line stands before the one that starts the ray, and
-- there is one of that.
abbrev pub line_fault : List Text → List Text → List Line → Line → Option SolFaultKind
line_fault rows columns before Silent = None
line_fault rows columns before Opens = if is_open before then Some BadLine else None
line_fault rows columns before (OfRow g) = if is_open before then giving_fault rows (of_rows before) g else Some BadLine
line_fault rows columns before (OfColumn g) = if is_open before then giving_fault columns (of_columns before) g else Some BadLine
line_fault rows columns before Odd = Some BadLine

-- the weights that were read, or the fault of their line
abbrev pub weights_result : Result Number ReadNumber → Result Number ReadNumber → Result EndWeights SolFaultKind
weights_result lower upper =
    if is_past lower || is_past upper then Err NumberPast
    else if is_bad lower || is_bad upper then Err BadNumber
    else Ok (record { lower = number_in lower; upper = number_in upper })
