-- The first fault of a text, and the ray that it gives.
use Rattle.std.specs.Prelude.{◌≡◌, ℕ, ◌+◌, List, [], ◌∷◌, length, map, Option, Some, None, Result, Ok, Err}
use Rattle.fractions.specs.Number.{Number}
use Rattle.text_lines.specs.Faults.{or_later}
use Rattle.mps_profile.specs.Texts.{Text}
use Rattle.lp_rays.specs.RayData.{RayData}
use Rattle.point_text.specs.declared.faults.SolFaultKind.{SolFaultKind}
use Rattle.point_text.specs.declared.faults.SolError.{SolError}
use Rattle.point_text.specs.declared.faults.SolError.TheVariants.{Fault, NoMemory}
use Rattle.ray_text.specs.RayLines.{Giving, Line, lines_said}
use Rattle.ray_text.specs.Given.{of_rows, of_columns, given, weights_or_none}
use Rattle.ray_text.specs.Faults.{line_fault}

-- the first line with a fault, and its fault
abbrev pub fault_from : List Text → List Text → List Line → List Line → Option (SolFaultKind × ℕ)
fault_from rows columns before [] = None
fault_from rows columns before (line ∷ after) = or_later (line_fault rows columns before line) (length before + 1) (fault_from rows columns (line ∷ before) after)

-- where rows and columns have these names
abbrev pub ray_fault : List Text → List Text → List ℕ → Option (SolFaultKind × ℕ)
ray_fault rows columns text = fault_from rows columns [] (lines_said text)

-- what lines say after those before them, the nearest to the end first
abbrev pub said_from : List Line → List Line → List Line
said_from before [] = before
said_from before (line ∷ after) = said_from (line ∷ before) after

abbrev pub said : List ℕ → List Line
said text = said_from [] (lines_said text)

-- the weights of names: of their lower ends, and of their upper ends
abbrev pub lower_of : List Text → List Giving → List Number
lower_of names gs = map (λ name. (weights_or_none (given gs name)).lower) names

abbrev pub upper_of : List Text → List Giving → List Number
upper_of names gs = map (λ name. (weights_or_none (given gs name)).upper) names

-- the weights that a text gives to each row and each column
abbrev pub ray_in : List Text → List Text → List ℕ → RayData
ray_in rows columns text = record {
  lower_sides = lower_of rows (of_rows (said text));
  upper_sides = upper_of rows (of_rows (said text));
  lower_bounds = lower_of columns (of_columns (said text));
  upper_bounds = upper_of columns (of_columns (said text));
}

-- the ray of a text without a fault, or the first fault with its line
abbrev pub IsRayRead : List Text → List Text → List ℕ → Result RayData SolError → Type 0
IsRayRead rows columns text (Ok ray) = (ray_fault rows columns text ≡ None) × (ray ≡ ray_in rows columns text)
IsRayRead rows columns text (Err (Fault fault)) = ray_fault rows columns text ≡ Some (fault.kind, fault.line)
IsRayRead rows columns text (Err NoMemory) = Unit {0}
