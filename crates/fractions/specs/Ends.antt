-- Ends of ranges of numbers: no number where the range has no end on that side.
use Rattle.std.specs.Prelude.{Bool, true, false, ⊤, Option, Some, None}
use Rattle.fractions.specs.Number.{Number, ◌+ℚ◌, ◌-ℚ◌, ◌*ℚ◌}
use Rattle.fractions.specs.Order.{◌≤ℚ◌}
use Rattle.fractions.specs.Compare.{eq_ℚ}
use Rattle.fractions.specs.Division.{◌/ℚ◌}
use Rattle.fractions.specs.MinMax.{min_ℚ, max_ℚ}

-- x is at or above a lower end
abbrev pub AtLeast : Option Number → Number → Type 0
AtLeast None x = ⊤
AtLeast (Some l) x = l ≤ℚ x

-- x is at or below an upper end
abbrev pub AtMost : Option Number → Number → Type 0
AtMost None x = ⊤
AtMost (Some u) x = x ≤ℚ u

pub record Between (l u : Option Number) (x : Number) : Type 0 where
  pub low : AtLeast l x
  pub high : AtMost u x

-- whether two ends are the same
abbrev pub same_end : Option Number → Option Number → Bool
same_end None None = true
same_end None (Some b) = false
same_end (Some a) None = false
same_end (Some a) (Some b) = eq_ℚ a b

-- the greater of two lower ends: both hold
abbrev pub meet_low : Option Number → Option Number → Option Number
meet_low None q = q
meet_low (Some a) None = Some a
meet_low (Some a) (Some b) = Some (max_ℚ a b)

-- the less of two upper ends: both hold
abbrev pub meet_high : Option Number → Option Number → Option Number
meet_high None q = q
meet_high (Some a) None = Some a
meet_high (Some a) (Some b) = Some (min_ℚ a b)

-- an end plus a number, and less a number
abbrev pub more : Option Number → Number → Option Number
more None c = None
more (Some b) c = Some (b +ℚ c)

abbrev pub less : Option Number → Number → Option Number
less None c = None
less (Some b) c = Some (b -ℚ c)

-- a number times an end; below 0 a lower end becomes an upper one
abbrev pub scaled : Number → Option Number → Option Number
scaled a None = None
scaled a (Some b) = Some (a *ℚ b)

-- an end over a number
abbrev pub over : Option Number → Number → Option Number
over None a = None
over (Some b) a = Some (b /ℚ a)

-- the sum and the difference of two ends
abbrev pub plus : Option Number → Option Number → Option Number
plus None q = None
plus (Some a) None = None
plus (Some a) (Some b) = Some (a +ℚ b)

abbrev pub minus_ends : Option Number → Option Number → Option Number
minus_ends None q = None
minus_ends (Some a) None = None
minus_ends (Some a) (Some b) = Some (a -ℚ b)

-- what is at least q is at least p
abbrev pub LowBelow : Option Number → Option Number → Type 0
LowBelow None q = ⊤
LowBelow (Some a) None = ⊥
LowBelow (Some a) (Some b) = a ≤ℚ b

-- what is at most q is at most p
abbrev pub HighAbove : Option Number → Option Number → Type 0
HighAbove None q = ⊤
HighAbove (Some a) None = ⊥
HighAbove (Some a) (Some b) = b ≤ℚ a
