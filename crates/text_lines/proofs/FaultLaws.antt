-- Where there is no first fault.
use Rattle.std.proofs.Common.{◌≡◌, ℕ, Option, Some, None, refl}
use Rattle.text_lines.specs.Faults.{or_later}

-- neither the line nor what is after it has a fault
pub later_none : {Fault : Type 0} (o : Option Fault) (number : ℕ) (later : Option (Fault × ℕ)) → or_later o number later ≡ None → (o ≡ None) × (later ≡ None)
later_none None number later is = (refl, is)
later_none (Some fault) number later is = cc
