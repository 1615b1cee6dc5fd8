-- The first fault of a text, and the point that it gives, by what texts of numbers mean.
use Rattle.std.specs.Prelude.{ℕ, ◌+◌, List, [], ◌∷◌, length, map, Option, None}
use Rattle.fractions.specs.Number.{Number}
use Rattle.fractions.specs.declared.Numbers.TheVariants.{Fractions}
use Rattle.number_texts.specs.Read.{read_of}
use Rattle.exact_texts.specs.Texts.{Reading}
use Rattle.text_lines.specs.Faults.{or_later}
use Rattle.text_lines.specs.Lines.{lines_of}
use Rattle.mps_profile.specs.Texts.{Text}
use Rattle.point_text.specs.SolutionLines.{Line, line_of}
use Rattle.point_text.specs.Values.{value_of_by}
use Rattle.point_text.specs.Faults.{line_fault_by}
use Rattle.point_text.specs.declared.faults.SolFaultKind.{SolFaultKind}

-- the first line with a fault, and its fault
abbrev pub fault_from_by : Reading → List Text → List Line → List Text → Option (SolFaultKind × ℕ)
fault_from_by r names before [] = None
fault_from_by r names before (line ∷ after) = or_later (line_fault_by r names before (line_of line)) (length before + 1) (fault_from_by r names (line_of line ∷ before) after)

-- where columns have these names
abbrev pub first_fault_by : Reading → List Text → List ℕ → Option (SolFaultKind × ℕ)
first_fault_by r names text = fault_from_by r names [] (lines_of text)

-- what the lines say, the nearest to the end first
abbrev pub said_from : List Line → List Text → List Line
said_from before [] = before
said_from before (line ∷ after) = said_from (line_of line ∷ before) after

abbrev pub said : List ℕ → List Line
said text = said_from [] (lines_of text)

-- the value of each column, by the columns' names
abbrev pub point_of_by : Reading → List Text → List ℕ → List Number
point_of_by r names text = map (value_of_by r (said text)) names

-- ---- the same in a `Frac`
abbrev pub first_fault : List Text → List ℕ → Option (SolFaultKind × ℕ)
first_fault names text = first_fault_by (read_of Fractions) names text

abbrev pub point_of : List Text → List ℕ → List Number
point_of names text = point_of_by (read_of Fractions) names text
