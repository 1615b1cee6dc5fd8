use Rattle.program_laws.proofs.ProblemsShow.{problem_shows_program}
use Rattle.program_laws.proofs.laws.problems_show_programs.Goals as goal

pub returns : goal.returns
returns c = λ program p a h. problem_shows_program program p h
