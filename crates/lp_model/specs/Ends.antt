-- Two ends of a row's sides or of a column's bounds; none is infinite. Their width, and when they have room and can be written.
use Rattle.std.specs.Prelude.{◌≢◌, ⊤, Option, Some, None, IfSome, if◌then◌else◌}
use Rattle.fractions.specs.Number.{Number, ◌-ℚ◌, neg_ℚ}
use Rattle.fractions.specs.Compare.{eq_ℚ}
use Rattle.fractions.specs.declared.Numbers.{Numbers}
use Rattle.fractions.specs.FracWords.{SumFits}
use Rattle.lp_model.specs.Writable.{IsNear, WritableNumber}

-- the width of two finite ends that differ
abbrev pub width : Option Number → Option Number → Option Number
width None u = None
width (Some l) None = None
width (Some l) (Some u) = if eq_ℚ l u then None else Some (u -ℚ l)

-- the width of two finite sides that differ: it has room, and so has the lower side with it
abbrev pub WidthFits : Option Number → Option Number → Type 0
WidthFits None u = ⊤
WidthFits (Some l) None = ⊤
WidthFits (Some l) (Some u) = l ≢ u → SumFits u (neg_ℚ l) × SumFits l (u -ℚ l)

-- finite ends, and the width of two that differ, can be written
abbrev pub WidthIsWritten : Numbers → Option Number → Option Number → Type 0
WidthIsWritten numbers None u = ⊤
WidthIsWritten numbers (Some l) None = ⊤
WidthIsWritten numbers (Some l) (Some u) = l ≢ u → WritableNumber numbers (u -ℚ l)

abbrev pub IsWritten : Numbers → Option Number → Option Number → Type 0
IsWritten numbers l u = IfSome l (WritableNumber numbers) × IfSome u (WritableNumber numbers)

-- new bounds are finite below 10^20, or infinite
abbrev pub AreNear : Option Number → Option Number → Type 0
AreNear l u = IfSome l IsNear × IfSome u IsNear

-- an end is finite
abbrev pub IsSided : Option Number → Option Number → Type 0
IsSided None None = ⊥
IsSided None (Some u) = ⊤
IsSided (Some l) u = ⊤
