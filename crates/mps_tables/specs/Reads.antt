-- Reading numbers.
use Rattle.std.specs.Prelude.{◌≡◌, ◌||◌, true, false, Result, Ok, Err}
use Rattle.fractions.specs.Number.{Number}
use Rattle.number_texts.specs.declared.reading.ReadNumber.{ReadNumber}
use Rattle.number_texts.specs.declared.reading.ReadNumber.TheVariants.{NotNumber, NumberPast}
use Rattle.mps_profile.specs.declared.faults.MpsFaultKind.{MpsFaultKind}
use Rattle.mps_profile.specs.declared.faults.MpsFaultKind.TheVariants.{BadNumber}
use Rattle.mps_profile.specs.declared.faults.MpsFaultKind as faults
use Rattle.mps_profile.specs.CardFaults.{is_bad, is_past}

-- the fault of a card whose number cannot be read
abbrev pub number_fault : ReadNumber → MpsFaultKind
number_fault NotNumber = BadNumber
number_fault NumberPast = faults.TheVariants.NumberPast

-- both numbers, or the fault of one: no number comes before a number that is past
abbrev pub AreRead : Result Number ReadNumber → Result Number ReadNumber → Result (Number × Number) ReadNumber → Type 0
AreRead first second (Ok values) = (first ≡ Ok values.0) × (second ≡ Ok values.1)
AreRead first second (Err NotNumber) = (is_bad first || is_bad second) ≡ true
AreRead first second (Err NumberPast) = ((is_bad first || is_bad second) ≡ false) × ((is_past first || is_past second) ≡ true)
