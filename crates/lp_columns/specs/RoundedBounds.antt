-- K4: the bounds of a whole column become whole.
use Rattle.std.specs.Prelude.{ℕ, ◌<◌, IsTrue, Option, Some, None}
use Rattle.fractions.specs.Number.{Number, of_ℤ}
use Rattle.fractions.specs.Floor.{floor_of, ceil_of}
use Rattle.lp_model.specs.LinearProgram.{LinearProgram}
use Rattle.lp_model.specs.Edits.{with_bounds}

-- enabled at column j, which has to be whole (that one of its bounds isn't, and that they aren't crossed, is a matter of the scan alone)
pub record IsWholeColumn (M : LinearProgram) (j : ℕ) : Type 0 where
  pub column : j < M.columns
  pub whole : IsTrue (M.whole j)

-- an end up, and an end down, to the next whole number
abbrev pub rounded_up : Option Number → Option Number
rounded_up None = None
rounded_up (Some l) = Some (of_ℤ (ceil_of l))

abbrev pub rounded_down : Option Number → Option Number
rounded_down None = None
rounded_down (Some u) = Some (of_ℤ (floor_of u))

-- l goes up and u goes down; nothing is to be undone
abbrev pub bounds_rounded : LinearProgram → ℕ → LinearProgram
bounds_rounded M j = with_bounds M j (rounded_up (M.lower_bound j)) (rounded_down (M.upper_bound j))
