-- The faults of lines, each by the lines before it, of which the nearest stands first.
use Rattle.std.specs.Prelude.{ℕ, Bool, true, false, List, [], ◌∷◌, Option, Some, None, Result, Ok, Err, is_some, is_none, if◌then◌else◌}
use Rattle.fractions.specs.Number.{Number}
use Rattle.names.specs.Names.{place}
use Rattle.number_texts.specs.declared.reading.ReadNumber.{ReadNumber}
use Rattle.number_texts.specs.declared.reading.ReadNumber as reasons
use Rattle.exact_texts.specs.Texts.{Reading}
use Rattle.mps_profile.specs.Texts.{Text}
use Rattle.point_text.specs.SolutionLines.{Line, Silent, Gives, Odd}
use Rattle.point_text.specs.Values.{value_named_by}
use Rattle.point_text.specs.declared.faults.SolFaultKind.{SolFaultKind}
use Rattle.point_text.specs.declared.faults.SolFaultKind.TheVariants.{BadLine, UnknownName, TwiceNamed, NumberPast, BadNumber}

abbrev pub number_of_kind : SolFaultKind → ℕ
number_of_kind BadLine = 1
number_of_kind UnknownName = 2
number_of_kind TwiceNamed = 3
number_of_kind NumberPast = 4
number_of_kind BadNumber = 5

-- nothing has the name
abbrev pub is_unknown : List Text → Text → Bool
is_unknown names name = is_none (place name names)

abbrev pub is_bad : Result Number ReadNumber → Bool
is_bad (Ok value) = false
is_bad (Err reasons.TheVariants.NotNumber) = true
is_bad (Err reasons.TheVariants.NumberPast) = false

abbrev pub is_past : Result Number ReadNumber → Bool
is_past (Ok value) = false
is_past (Err reasons.TheVariants.NotNumber) = false
is_past (Err reasons.TheVariants.NumberPast) = true

-- the number that was read, or the fault of its line
abbrev pub number_result : {A : Type 0} → Result A ReadNumber → Result A SolFaultKind
number_result (Ok value) = Ok value
number_result (Err reasons.TheVariants.NotNumber) = Err BadNumber
number_result (Err reasons.TheVariants.NumberPast) = Err NumberPast

-- the first fault of a table whose test holds
abbrev pub first_of : List (Bool × SolFaultKind) → Option SolFaultKind
first_of [] = None
first_of ((holds, fault) ∷ more) = if holds then Some fault else first_of more

-- the fault of a line, by what texts of numbers mean: the first of the table, which is in the order of the numbers
abbrev pub line_fault_by : Reading → List Text → List Line → Line → Option SolFaultKind
line_fault_by r names before Silent = None
line_fault_by r names before (Gives name number) = first_of (
    (is_unknown names name, UnknownName) ∷ (is_some (value_named_by r before name), TwiceNamed)
    ∷ (is_past (r number), NumberPast) ∷ (is_bad (r number), BadNumber) ∷ [])
line_fault_by r names before Odd = Some BadLine
