-- The program that a tableau is of.
use Rattle.lp_model.specs.LinearProgram.{LinearProgram}
use Rattle.lp_model.specs.ProgramData.{ProgramData}
use Rattle.lp_model.specs.Meaning.{meaning}
use Rattle.lp_model.specs.Turning.{minimizing}

-- what the data mean, as it is minimized: with negated costs where the greatest cost is wanted
abbrev pub minimized : ProgramData → LinearProgram
minimized p = minimizing p.sense (meaning p)
