-- What a line of a ray's text says.
use Rattle.std.specs.Prelude.{Bool, true, false, ℕ, List, [], ◌∷◌, map, codes, if◌then◌else◌}
use Rattle.std.specs.Str.{bytes_eq}
use Rattle.text_lines.specs.Lines.{lines_of}
use Rattle.mps_profile.specs.Texts.{Text}
use Rattle.mps_profile.specs.Fields.{fields_of}
use Rattle.ray_text.specs.declared.ray_lines.NamedTexts as code
use Rattle.ray_text.specs.declared.ray_lines.RayLine as coded

-- a name, and the two numbers that a line gives to it: those of its lower and of its upper end
pub record Giving : Type 0 where
  pub name : Text
  pub lower : Text
  pub upper : Text

pub data Line : Type 0 where
  -- a blank line
  Silent : Line
  -- the line that starts a ray
  Opens : Line
  -- numbers by the name of a row
  OfRow : Giving → Line
  -- numbers by the name of a column
  OfColumn : Giving → Line
  -- none of these
  Odd : Line

-- four fields, the first of which says what has the name
abbrev pub line_of_four : Text → Giving → Line
line_of_four word g = if bytes_eq word (codes "row") then OfRow g else if bytes_eq word (codes "column") then OfColumn g else Odd

abbrev pub line_with : List Text → Line
line_with [] = Silent
line_with (word ∷ []) = if bytes_eq word (codes "=ray=") then Opens else Odd
line_with (word ∷ name ∷ []) = Odd
line_with (word ∷ name ∷ lower ∷ []) = Odd
line_with (word ∷ name ∷ lower ∷ upper ∷ []) = line_of_four word (record { name = name; lower = lower; upper = upper })
line_with (word ∷ name ∷ lower ∷ upper ∷ fifth ∷ more) = Odd

abbrev pub line_of : Text → Line
line_of text = line_with (fields_of text)

-- what the lines of a text say
abbrev pub lines_said : List ℕ → List Line
lines_said text = map line_of (lines_of text)

-- a text is one of a ray where its first line that is not blank starts one
abbrev pub opens_first : List Line → Bool
opens_first [] = false
opens_first (Silent ∷ after) = opens_first after
opens_first (Opens ∷ after) = true
opens_first (OfRow g ∷ after) = false
opens_first (OfColumn g ∷ after) = false
opens_first (Odd ∷ after) = false

abbrev pub is_ray_text : List ℕ → Bool
is_ray_text text = opens_first (lines_said text)

-- what a line in the code says
abbrev pub text_giving : code.NamedTexts → Giving
text_giving g = record { name = g.name.now; lower = g.lower.now; upper = g.upper.now }

abbrev pub text_line : coded.RayLine → Line
text_line coded.TheVariants.Silent = Silent
text_line coded.TheVariants.Opens = Opens
text_line (coded.TheVariants.OfRow g) = OfRow (text_giving g)
text_line (coded.TheVariants.OfColumn g) = OfColumn (text_giving g)
text_line coded.TheVariants.Odd = Odd
