-- Sums of products that have room, and the reduced costs of columns made of them.
use Rattle.std.specs.Prelude.{◌≡◌, ℕ, ◌<◌, Option, Some, None}
use Rattle.fractions.specs.Number.{Number, neg_ℚ, ◌*ℚ◌}
use Rattle.fractions.specs.Total.{total}
use Rattle.fractions.specs.Room.{Room, in_frac}
use Rattle.lp_model.specs.Vectors.{Vector}
use Rattle.lp_model.specs.Room.{ProductsFitIn}
use Rattle.lp_model.specs.LinearProgram.{LinearProgram}

-- the sum of the first n products of a and x, or none where a product or a step has no room in a kind of numbers
abbrev pub IsSumIn : Room → ℕ → Vector → Vector → Option Number → Type 0
IsSumIn m n a x None = ProductsFitIn m n a x → ⊥
IsSumIn m n a x (Some s) = (s ≡ total n (λ k. a k *ℚ x k)) × ProductsFitIn m n a x × m.number s

-- the reduced cost of column j has room: the sum over the rows, by ascending id, and the difference
abbrev pub ReducedCostFitsIn : Room → LinearProgram → Vector → ℕ → Type 0
ReducedCostFitsIn m M y j = ProductsFitIn m M.rows y (λ i. M.coefficient i j) × m.sum (M.costs j) (neg_ℚ (total M.rows (λ i. y i *ℚ M.coefficient i j)))

abbrev pub ReducedCostsFitIn : Room → LinearProgram → Vector → Type 0
ReducedCostsFitIn m M y = (j : ℕ) → j < M.columns → ReducedCostFitsIn m M y j

-- the same in a `Frac`
abbrev pub IsSum : ℕ → Vector → Vector → Option Number → Type 0
IsSum n a x s = IsSumIn in_frac n a x s

abbrev pub ReducedCostFits : LinearProgram → Vector → ℕ → Type 0
ReducedCostFits M y j = ReducedCostFitsIn in_frac M y j

abbrev pub ReducedCostsFit : LinearProgram → Vector → Type 0
ReducedCostsFit M y = ReducedCostsFitIn in_frac M y
