-- How a text is read tells what numbers it is read with, in each format.
use Rattle.std.proofs.Common.{◌≡◌, refl}
use Rattle.fractions.specs.declared.Numbers.{Numbers}
use Rattle.command_words.specs.declared.words.InputFormat.{InputFormat}
use Rattle.command_words.specs.declared.words.InputFormat.TheVariants.{Free, Fixed, Opb}
use Rattle.endings.specs.Forms.{form_with, numbers_in}

pub same_numbers : (format : InputFormat) (numbers : Numbers) → numbers_in (form_with format numbers) ≡ numbers
same_numbers Free numbers = refl
same_numbers Fixed numbers = refl
same_numbers Opb numbers = refl
