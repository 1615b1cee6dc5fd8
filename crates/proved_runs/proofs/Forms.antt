-- What holds of the texts of programs in each format.
use Rattle.std.proofs.Common.{◌≡◌, ℕ, ◌≤◌, List, length, None, refl, arith}
use Rattle.fractions.specs.declared.Numbers.{Numbers}
use Rattle.fractions.specs.declared.Numbers.TheVariants.{Decimal, Fractions}
use Rattle.command_words.specs.declared.words.InputFormat.{InputFormat}
use Rattle.command_words.specs.declared.words.InputFormat.TheVariants as formats
use Rattle.lp_model.specs.Names.{WellNamed}
use Rattle.mps_profile.specs.Program.{program_of}
use Rattle.mps_profile.specs.Reading.{first_fault}
use Rattle.mps_profile.specs.declared.dialect.Format.{Format}
use Rattle.mps_profile.specs.declared.dialect.Format.TheVariants.{Fixed, Free}
use Rattle.mps_laws.proofs.Names.{program_well_named}
use Rattle.mps_decimal_texts.proofs.Texts.{no_fault, one_program}
use Rattle.opb_laws.proofs.Named.{text_well_named}
use Rattle.endings.specs.Forms.{form_with}
use Rattle.endings.specs.ProgramTexts.{HasNoFault, program_in}
use Rattle.endings.specs.declared.forms.Form.{Form}
use Rattle.endings.specs.declared.forms.Form.TheVariants.{Mps, Opb}
use Rattle.endings.specs.declared.reads.TheConstants.{INPUT_LIMIT}
use Rattle.endings.proofs.FirstFaults.{mps_sound, sound_mps, sound_opb}

-- the program of a text has names, and they differ
pub well_named : (form : Form) (text : List ℕ) → length text ≤ INPUT_LIMIT → HasNoFault form text → WellNamed (program_in form text).objective (program_in form text).rows (program_in form text).columns
well_named (Mps dialect) text few sound = program_well_named dialect text (sound_mps dialect text sound)
well_named (Opb numbers) text few sound = text_well_named text (omega (arith, few))

-- with fractions an MPS text gives the same program
by_numbers : (numbers : Numbers) (format : Format) (text : List ℕ) → first_fault (record { format = format; numbers = numbers }) text ≡ None
    → (first_fault (record { format = format; numbers = Fractions }) text ≡ None)
    × (program_of (record { format = format; numbers = Fractions }) text ≡ program_of (record { format = format; numbers = numbers }) text)
by_numbers Decimal format text sound = (no_fault format text sound, one_program format text sound)
by_numbers Fractions format text sound = (sound, refl)

of_mps : (numbers : Numbers) (format : Format) (text : List ℕ) → HasNoFault (Mps (record { format = format; numbers = numbers })) text
    → HasNoFault (Mps (record { format = format; numbers = Fractions })) text
    × (program_of (record { format = format; numbers = Fractions }) text ≡ program_of (record { format = format; numbers = numbers }) text)
of_mps numbers format text sound =
    let same = by_numbers numbers format text (sound_mps (record { format = format; numbers = numbers }) text sound) in
    (mps_sound (record { format = format; numbers = Fractions }) text same.0, same.1)

-- and so does a text of each format
pub with_fractions : (format : InputFormat) (numbers : Numbers) (text : List ℕ) → HasNoFault (form_with format numbers) text
    → HasNoFault (form_with format Fractions) text × (program_in (form_with format Fractions) text ≡ program_in (form_with format numbers) text)
with_fractions formats.Free numbers text sound = of_mps numbers Free text sound
with_fractions formats.Fixed numbers text sound = of_mps numbers Fixed text sound
with_fractions formats.Opb numbers text sound = (sound, refl)
