-- Kinds of numbers, and which of their numbers and sums have room.
use Rattle.std.specs.Prelude.{⊤}
use Rattle.fractions.specs.Number.{Number}
use Rattle.fractions.specs.Lowest.{Fits}
use Rattle.fractions.specs.FracWords.{SumFits}

-- a kind of numbers: when a number has room in it, and when a sum has
pub record Room : Type 1 where
  pub number : Number → Type 0
  pub sum : Number → Number → Type 0

-- a `Frac`
abbrev pub in_frac : Room
in_frac = record { number = Fits; sum = SumFits }

-- numbers of any width
abbrev pub in_any_width : Room
in_any_width = record { number = λ q. ⊤; sum = λ p q. ⊤ }
