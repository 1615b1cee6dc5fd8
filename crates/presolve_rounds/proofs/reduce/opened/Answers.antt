use Rattle.program_laws.proofs.Writing.{problem_writable}
use Rattle.round_laws.proofs.Numbers.{never_changed}
use Rattle.presolve_rounds.proofs.reduce.opened.Goals as goal

pub open-requires : goal.open-requires
open-requires c = record {
  writable = problem_writable c.args.options.now.numbers c.args.program.now c.in_ok-problem.problem c.requires.writable c.in_ok-problem.ensures;
  unchanged = never_changed c.args.program.now c.in_ok-problem.problem c.in_ok-problem.ensures;
}
