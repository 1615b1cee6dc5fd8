use Rattle.std.proofs.Common.{inr}
use Rattle.solve_command.proofs.program.continuous_program.Goals as goal

pub returns-in_ok-line-in-Some : goal.returns-in_ok-line-in-Some
returns-in_ok-line-in-Some c = inr (c.in_ok-program.program, c.in_ok-program.ensures.program, record { column = c.in-Some.column; whole = c.in-Some.ensures; line = c.in_ok-line-in-Some.ensures })
