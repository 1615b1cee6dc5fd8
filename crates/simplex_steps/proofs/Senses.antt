-- The ends of a program don't depend on the sense.
use Rattle.std.proofs.Common.{◌≡◌, ℕ, refl}
use Rattle.lp_model.specs.declared.program.Sense.{Sense}
use Rattle.lp_model.specs.declared.program.Sense.TheVariants.{Min, Max}
use Rattle.lp_model.specs.LinearProgram.{LinearProgram}
use Rattle.lp_model.specs.Turning.{minimizing}
use Rattle.tableau_laws.specs.Variables.{variables, lower_end, upper_end}

pub lower_same : (s : Sense) (M : LinearProgram) (k : ℕ) → lower_end M k ≡ lower_end (minimizing s M) k
lower_same Min M k = refl
lower_same Max M k = refl

pub upper_same : (s : Sense) (M : LinearProgram) (k : ℕ) → upper_end M k ≡ upper_end (minimizing s M) k
upper_same Min M k = refl
upper_same Max M k = refl

pub variables_same : (s : Sense) (M : LinearProgram) → variables (minimizing s M) ≡ variables M
variables_same Min M = refl
variables_same Max M = refl
