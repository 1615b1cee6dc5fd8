-- How the text of a program is read.
use Rattle.std.specs.Prelude.{Bool, true, false, if◌then◌else◌}
use Rattle.command_words.specs.declared.words.InputFormat.{InputFormat}
use Rattle.command_words.specs.declared.words.InputFormat.TheVariants as formats
use Rattle.command_words.specs.declared.words.PresolveOptions.{PresolveOptions}
use Rattle.fractions.specs.declared.Numbers.{Numbers}
use Rattle.fractions.specs.declared.Numbers.TheVariants.{Decimal, Fractions}
use Rattle.mps_profile.specs.declared.dialect.Format.TheVariants.{Free, Fixed}
use Rattle.endings.specs.declared.forms.Form.{Form}
use Rattle.endings.specs.declared.forms.Form.TheVariants.{Mps, Opb}

-- MPS of the fixed format, or of the free one, with these numbers
abbrev pub mps_form : Bool → Numbers → Form
mps_form fixed numbers = Mps (record { format = if fixed then Fixed else Free; numbers = numbers })

-- how a text of this format is read, with these numbers
abbrev pub form_with : InputFormat → Numbers → Form
form_with formats.Free numbers = mps_form false numbers
form_with formats.Fixed numbers = mps_form true numbers
form_with formats.Opb numbers = Opb numbers

abbrev pub numbers_of : PresolveOptions → Numbers
numbers_of options = if options.fractions then Fractions else Decimal

-- how presolve reads IN
abbrev pub form_of : PresolveOptions → Form
form_of options = form_with options.format (numbers_of options)

-- how MPS is read whose numbers may be fractions
abbrev pub fractions_form : Bool → Form
fractions_form fixed = mps_form fixed Fractions

-- the numbers that are taken
abbrev pub numbers_in : Form → Numbers
numbers_in (Mps dialect) = dialect.numbers
numbers_in (Opb numbers) = numbers
