-- The minimizing sense and the sense of a file.
use Rattle.fractions.specs.Number.{Number, neg_ℚ}
use Rattle.lp_model.specs.declared.program.Sense.{Sense}
use Rattle.lp_model.specs.declared.program.Sense.TheVariants.{Min, Max}
use Rattle.lp_model.specs.LinearProgram.{LinearProgram}
use Rattle.lp_model.specs.Reductions.{Priced}

-- costs and constant negated
abbrev pub negated : LinearProgram → LinearProgram
negated M = record M { costs = λ j. neg_ℚ (M.costs j); constant = neg_ℚ M.constant }

-- a program as it is minimized
abbrev pub minimizing : Sense → LinearProgram → LinearProgram
minimizing Min M = M
minimizing Max M = negated M

-- an offset of the minimizing sense in the sense of the file
abbrev pub signed : Sense → Number → Number
signed Min k = k
signed Max k = neg_ℚ k

-- duals and reduced costs negated
abbrev pub turned : Priced → Priced
turned p = record { x = p.x; y = λ i. neg_ℚ (p.y i); z = λ j. neg_ℚ (p.z j) }

-- an undoing in the minimizing sense, used in the sense of the file: costs and duals negated before, and back after
abbrev pub in_sense : Sense → (Priced → Priced) → Priced → Priced
in_sense Min f p = f p
in_sense Max f p = turned (f (turned p))
