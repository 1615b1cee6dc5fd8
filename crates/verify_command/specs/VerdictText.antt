-- What is said of records, as text.
use Rattle.std.specs.Prelude.{◌≡◌, ℕ, List, [], ◌∷◌, ◌++◌, codes}
use Rattle.std.specs.Fmt.{decimal}
use Rattle.fractions.specs.Number.{Number}
use Rattle.number_texts.specs.Written.{written}
use Rattle.endings.specs.declared.ending.Ending.{Ending}
use Rattle.endings.specs.declared.ending.Ending.TheVariants.{Done, Violated}
use Rattle.record_verify.specs.declared.verdict.Verified.{Verified}
use Rattle.record_verify.specs.declared.verdict.Verified.TheVariants.{No, Yes}
use Rattle.walk_laws.specs.declared.flaw.Flaw.{Flaw}
use Rattle.walk_laws.specs.declared.flaw.Flaw.TheVariants.{Header, Step, Program, Offset}
use Rattle.walk_laws.specs.declared.flaw.StepFlaw.{StepFlaw}
use Rattle.walk_laws.specs.declared.flaw.StepFlaw.TheVariants.{NotEnabled, Reading, Past, Fields}

abbrev pub yes_text : ℕ → Number → List ℕ
yes_text records offset = codes "yes records " ++ (decimal records ++ (codes " offset " ++ (written offset ++ 10 ∷ [])))

abbrev pub part_text : StepFlaw → List ℕ
part_text NotEnabled = codes "not enabled" ++ 10 ∷ []
part_text Reading = codes "reading" ++ 10 ∷ []
part_text Past = codes "past" ++ 10 ∷ []
part_text Fields = codes "fields" ++ 10 ∷ []

abbrev pub step_text : ℕ → StepFlaw → List ℕ
step_text number why = codes "no record " ++ (decimal number ++ (32 ∷ part_text why))

abbrev pub flaw_text : Flaw → List ℕ
flaw_text Header = codes "no header" ++ 10 ∷ []
flaw_text (Step number why) = step_text number why
flaw_text Program = codes "no program" ++ 10 ∷ []
flaw_text Offset = codes "no offset" ++ 10 ∷ []

-- an ending by what is said of records, with its line
abbrev pub TellsVerified : Verified → Ending → Type 0
TellsVerified (Yes records offset) (Done text) = text.items ≡ yes_text records offset
TellsVerified (No why) (Violated line) = line.items ≡ flaw_text why
TellsVerified said ending = ⊥
