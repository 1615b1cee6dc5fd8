-- What the bytes that reads found give, by text; none where they are more than is read.
use Rattle.std.specs.Prelude.{◌≡◌, ℕ, false, List, [], ◌∷◌, ◌++◌, codes, Option, Some, None, Result, Ok, Err}
use Rattle.command_words.specs.Names.{VerifyNames}
use Rattle.fractions.specs.declared.Numbers.TheVariants.{Fractions}
use Rattle.lp_model.specs.ProgramData.{ProgramData}
use Rattle.endings.specs.declared.forms.Form.{Form}
use Rattle.endings.specs.declared.forms.ProgramFault.{ProgramFault}
use Rattle.endings.specs.Forms.{form_with, fractions_form}
use Rattle.endings.specs.Moments.{IfFound}
use Rattle.endings.specs.ProgramTexts.{IsFaultOf, IsProgramOf, fault_text}
use Rattle.record_texts.specs.declared.no_records.NoRecords.{NoRecords}
use Rattle.record_texts.specs.declared.no_records.NoRecords.TheVariants as no_records
use Rattle.verify_command.specs.declared.refusal.Refusal.{Refusal}
use Rattle.verify_command.specs.declared.refusal.Refusal.TheVariants.{Program, Records, NoMemory}

-- how IN is read: with fractions
abbrev pub input_form : VerifyNames → Form
input_form names = form_with names.format Fractions

-- how OUT is read: in the free format, with fractions
abbrev pub output_form : Form
output_form = fractions_form false

abbrev pub FaultsProgram : Form → Option (List ℕ) → List ℕ → Type 0
FaultsProgram form None said = said ≡ codes "error M17" ++ 10 ∷ []
FaultsProgram form (Some text) said = (fault : ProgramFault) × IsFaultOf form text fault × (said ≡ fault_text fault)

-- the program, or the line that refuses it
abbrev pub GivesProgram : Form → Option (List ℕ) → Result ProgramData Refusal → Type 0
GivesProgram form found (Ok program) = IfFound found (λ text. IsProgramOf form text program)
GivesProgram form found (Err (Program line)) = FaultsProgram form found line.items
GivesProgram form found (Err NoMemory) = Unit {0}
GivesProgram form found (Err other) = ⊥

-- why there are no records, as a refusal
abbrev pub records_refusal : NoRecords → Refusal
records_refusal (no_records.Refused line) = Records line
records_refusal no_records.NoMemory = NoMemory
