use Rattle.presolve_command.proofs.reduce.reduce_taken.Goals as goal

pub returns-in_ok-line-in-Some : goal.returns-in_ok-line-in-Some
returns-in_ok-line-in-Some g c =
    (c.in-Some.ensures.0, record { column = c.in-Some.column; whole = c.in-Some.ensures.1; line = c.in_ok-line-in-Some.ensures })
