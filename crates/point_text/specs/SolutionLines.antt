-- What a line of a solution says.
use Rattle.std.specs.Prelude.{List, [], ◌∷◌, codes, if◌then◌else◌}
use Rattle.std.specs.Str.{bytes_eq}
use Rattle.mps_profile.specs.Texts.{Text}
use Rattle.mps_profile.specs.Fields.{fields_of}
use Rattle.point_text.specs.declared.solution_lines.SolutionLine as code

pub data Line : Type 0 where
  -- a blank line, or one with the objective's value
  Silent : Line
  -- a number by a name
  Gives : (name number : Text) → Line
  -- not two fields
  Odd : Line

abbrev pub line_with : List Text → Line
line_with [] = Silent
line_with (name ∷ []) = Odd
line_with (name ∷ number ∷ []) = if bytes_eq name (codes "=obj=") then Silent else Gives name number
line_with (name ∷ number ∷ third ∷ more) = Odd

abbrev pub line_of : Text → Line
line_of text = line_with (fields_of text)

-- what a line in the code says
abbrev pub text_line : code.SolutionLine → Line
text_line code.TheVariants.Silent = Silent
text_line (code.TheVariants.Gives name number) = Gives name.now number.now
text_line code.TheVariants.Odd = Odd
