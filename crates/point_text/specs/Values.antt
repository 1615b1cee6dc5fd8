-- The values that lines give to names, by what texts of numbers mean. The nearest line stands first.
use Rattle.std.specs.Prelude.{List, [], ◌∷◌, Option, Some, None, Result, Ok, Err, unwrap_or, if◌then◌else◌}
use Rattle.std.specs.Str.{bytes_eq}
use Rattle.fractions.specs.Number.{Number, zero_ℚ}
use Rattle.fractions.specs.declared.Numbers.TheVariants.{Fractions}
use Rattle.number_texts.specs.Read.{read_of}
use Rattle.number_texts.specs.declared.reading.ReadNumber.{ReadNumber}
use Rattle.exact_texts.specs.Texts.{Reading}
use Rattle.mps_profile.specs.Texts.{Text}
use Rattle.point_text.specs.SolutionLines.{Line, Silent, Gives, Odd}

-- the number that was read; 0 stands for one that is none, which is a fault of its line
abbrev pub number_in : Result Number ReadNumber → Number
number_in (Ok value) = value
number_in (Err reason) = zero_ℚ

-- the number on the nearest line that names it
abbrev pub value_named_by : Reading → List Line → Text → Option Number
value_named_by r [] name = None
value_named_by r (Silent ∷ before) name = value_named_by r before name
value_named_by r (Gives other number ∷ before) name = if bytes_eq other name then Some (number_in (r number)) else value_named_by r before name
value_named_by r (Odd ∷ before) name = value_named_by r before name

-- 0 where no line names it
abbrev pub value_of_by : Reading → List Line → Text → Number
value_of_by r lines name = unwrap_or (value_named_by r lines name) zero_ℚ

-- the same in a `Frac`
abbrev pub value_of : List Line → Text → Number
value_of lines name = value_of_by (read_of Fractions) lines name
