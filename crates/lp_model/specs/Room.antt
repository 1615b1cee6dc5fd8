-- When a sum of products that is made term by term, by ascending id, has room.
use Rattle.std.specs.Prelude.{ℕ, zero, suc, ◌<◌}
use Rattle.fractions.specs.Number.{◌*ℚ◌}
use Rattle.fractions.specs.Total.{total}
use Rattle.fractions.specs.Room.{Room, in_frac}
use Rattle.lp_model.specs.Vectors.{Vector}
use Rattle.lp_model.specs.LinearProgram.{LinearProgram}

-- each product of the first n has room in a kind of numbers, and so has each sum with the products before it
abbrev pub ProductsFitIn : Room → ℕ → Vector → Vector → Type 0
ProductsFitIn m zero a x = Unit {0}
ProductsFitIn m (suc n) a x = ProductsFitIn m n a x × m.number (a n *ℚ x n) × m.sum (total n (λ k. a k *ℚ x k)) (a n *ℚ x n)

-- the value of row i has room
abbrev pub ValueFitsIn : Room → LinearProgram → ℕ → Vector → Type 0
ValueFitsIn m M i x = ProductsFitIn m M.columns (M.coefficient i) x

-- the cost has room: the sum, then the constant
abbrev pub CostFitsIn : Room → LinearProgram → Vector → Type 0
CostFitsIn m M x = ProductsFitIn m M.columns M.costs x × m.sum (total M.columns (λ j. M.costs j *ℚ x j)) M.constant

-- the same in a `Frac`
abbrev pub ProductsFit : ℕ → Vector → Vector → Type 0
ProductsFit n a x = ProductsFitIn in_frac n a x

abbrev pub ValueFits : LinearProgram → ℕ → Vector → Type 0
ValueFits M i x = ValueFitsIn in_frac M i x

abbrev pub CostFits : LinearProgram → Vector → Type 0
CostFits M x = CostFitsIn in_frac M x

-- the value of each row has room in a `Frac`
abbrev pub ValuesFit : LinearProgram → Vector → Type 0
ValuesFit M x = (i : ℕ) → i < M.rows → ValueFits M i x
