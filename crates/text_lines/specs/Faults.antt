-- The first fault of a text by line.
use Rattle.std.specs.Prelude.{ℕ, Option, Some, None}

-- the fault of a line with its number, or else the first fault after it
abbrev pub or_later : {Fault : Type 0} → Option Fault → ℕ → Option (Fault × ℕ) → Option (Fault × ℕ)
or_later (Some fault) number later = Some (fault, number)
or_later None number later = later
