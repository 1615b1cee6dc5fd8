-- A list of reductions, the first applied first, is undone last first.
use Rattle.std.specs.Prelude.{List, [], ◌∷◌}
use Rattle.fractions.specs.Number.{Number, zero_ℚ, ◌+ℚ◌}
use Rattle.lp_model.specs.declared.program.Sense.{Sense}
use Rattle.lp_model.specs.Vectors.{Vector}
use Rattle.lp_model.specs.LinearProgram.{LinearProgram}
use Rattle.lp_model.specs.Reductions.{Reduces, ReducesPairs, Priced}

-- one reduction: the program that it leaves, what undoes it, and its part of the offset
pub record Step : Type 0 where
  pub left : LinearProgram
  pub point : Vector → Vector
  pub pair : Priced → Priced
  pub offset : Number

-- the program that the steps leave of M
abbrev pub end_of : LinearProgram → List Step → LinearProgram
end_of M [] = M
end_of M (s ∷ ss) = end_of s.left ss

abbrev pub lift : List Step → Vector → Vector
lift [] x = x
lift (s ∷ ss) x = s.point (lift ss x)

abbrev pub lift_pair : List Step → Priced → Priced
lift_pair [] p = p
lift_pair (s ∷ ss) p = s.pair (lift_pair ss p)

abbrev pub offset_of : List Step → Number
offset_of [] = zero_ℚ
offset_of (s ∷ ss) = s.offset +ℚ offset_of ss

-- each step reduces the program before it
abbrev pub EachReduces : Sense → LinearProgram → List Step → Type 0
EachReduces d M [] = Unit {0}
EachReduces d M (s ∷ ss) = Reduces d M s.left s.point s.offset × EachReduces d s.left ss

abbrev pub EachReducesPairs : Sense → LinearProgram → List Step → Type 0
EachReducesPairs d M [] = Unit {0}
EachReducesPairs d M (s ∷ ss) = ReducesPairs d M s.left s.pair × EachReducesPairs d s.left ss
