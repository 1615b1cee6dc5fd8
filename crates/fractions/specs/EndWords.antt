-- When the ends that are computed have room.
use Rattle.std.specs.Prelude.{⊤, Option, Some, None}
use Rattle.fractions.specs.Number.{Number, neg_ℚ}
use Rattle.fractions.specs.Division.{◌/ℚ◌}
use Rattle.fractions.specs.Lowest.{Fits}
use Rattle.fractions.specs.FracWords.{SumFits}

-- an end over a number, where there is an end
abbrev pub OverFits : Option Number → Number → Type 0
OverFits None a = ⊤
OverFits (Some b) a = Fits (b /ℚ a)

-- an end less a number, where there is an end
abbrev pub LessFits : Option Number → Number → Type 0
LessFits None c = ⊤
LessFits (Some b) c = SumFits b (neg_ℚ c)
