-- What the bytes that a read found give, by text; none where they are more than is read.
use Rattle.std.specs.Prelude.{◌≡◌, ◌⊎◌, ℕ, List, [], ◌∷◌, ◌++◌, codes, Option, Some, None, Result, Ok, Err}
use Rattle.lp_model.specs.Meaning.{meaning}
use Rattle.lp_model.specs.Optimality.{Continuous}
use Rattle.lp_model.specs.ProgramData.{ProgramData}
use Rattle.endings.specs.Continuity.{NamesFirstNotContinuous}
use Rattle.endings.specs.declared.ending.Ending.{Ending}
use Rattle.endings.specs.declared.ending.Ending.TheVariants.{Refused}
use Rattle.endings.specs.declared.forms.Form.{Form}
use Rattle.endings.specs.declared.forms.ProgramFault.{ProgramFault}
use Rattle.endings.specs.Moments.{IfFound}
use Rattle.endings.specs.ProgramTexts.{IsFaultOf, IsProgramOf, fault_text}
use Rattle.solve_command.specs.declared.refusal.Unsolved.{Unsolved}
use Rattle.solve_command.specs.declared.refusal.Unsolved.TheVariants.{Ends, NoMemory}

-- the line that refuses the text
abbrev pub Faults : Form → Option (List ℕ) → List ℕ → Type 0
Faults form None said = said ≡ codes "error M17" ++ 10 ∷ []
Faults form (Some text) said = (fault : ProgramFault) × IsFaultOf form text fault × (said ≡ fault_text fault)

abbrev pub FaultsBy : Form → Option (List ℕ) → Ending → Type 0
FaultsBy form found (Refused line) = Faults form found line.items
FaultsBy form found other = ⊥

-- the program, or the line that refuses its text
abbrev pub GivesProgram : Form → Option (List ℕ) → Result ProgramData Unsolved → Type 0
GivesProgram form found (Ok program) = IfFound found (λ text. IsProgramOf form text program)
GivesProgram form found (Err (Ends ending)) = FaultsBy form found ending
GivesProgram form found (Err NoMemory) = Unit {0}

-- the line names the first column of the text's program that has to be whole or is semi-continuous
abbrev pub IsNotContinuous : Form → Option (List ℕ) → List ℕ → Type 0
IsNotContinuous form found said = (program : ProgramData) × IfFound found (λ text. IsProgramOf form text program) × NamesFirstNotContinuous program said

abbrev pub IsNotTaken : Form → Option (List ℕ) → Ending → Type 0
IsNotTaken form found (Refused line) = Faults form found line.items ⊎ IsNotContinuous form found line.items
IsNotTaken form found other = ⊥

-- the program, in which no column has to be whole or is semi-continuous; or the line that refuses its text, or that names the first such column
abbrev pub GivesContinuous : Form → Option (List ℕ) → Result ProgramData Unsolved → Type 0
GivesContinuous form found (Ok program) = IfFound found (λ text. IsProgramOf form text program) × Continuous (meaning program)
GivesContinuous form found (Err (Ends ending)) = IsNotTaken form found ending
GivesContinuous form found (Err NoMemory) = Unit {0}
