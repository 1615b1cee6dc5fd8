-- The number nearest to 0 between two ends.
use Rattle.std.specs.Prelude.{⊤, if◌then◌else◌, Option, Some, None}
use Rattle.fractions.specs.Number.{Number, zero_ℚ}
use Rattle.fractions.specs.Compare.{lt_ℚ}
use Rattle.fractions.specs.Ends.{AtMost}

-- the lower end is not above the upper end
abbrev pub InOrder : Option Number → Option Number → Type 0
InOrder None u = ⊤
InOrder (Some l) u = AtMost u l

-- the number nearest to 0 at or below an upper end
abbrev pub near_below : Option Number → Number
near_below None = zero_ℚ
near_below (Some u) = if lt_ℚ u zero_ℚ then u else zero_ℚ

-- the number nearest to 0 between two ends: the lower end above 0, else the upper end below 0, else 0
abbrev pub near : Option Number → Option Number → Number
near None u = near_below u
near (Some l) u = if lt_ℚ zero_ℚ l then l else near_below u
