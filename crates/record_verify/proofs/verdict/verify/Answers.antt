use Rattle.std.proofs.Common.{rules}
use Rattle.record_verify.proofs.Saying.{other_offset, other_program, walks}
use Rattle.record_verify.proofs.verdict.verify.Goals as goal

pub returns-then-not-branch : goal.returns-then-not-branch
returns-then-not-branch c = other_program c.args.program.now c.args.reduced.now c.args.records.now c.in_ok-problem.problem c.follow_all.new.problem
    (search rules) c.in_ok-problem.ensures (search rules) (search rules)

pub returns-then-not-is_same : goal.returns-then-not-is_same
returns-then-not-is_same c = other_offset c.args.program.now c.args.reduced.now c.args.records.now c.in_ok-problem.problem c.follow_all.new.problem
    (search rules) c.in_ok-problem.ensures (search rules) (search rules) (search rules)

pub returns : goal.returns
returns c = (
  walks c.args.program.now c.args.reduced.now c.args.records.now c.in_ok-problem.problem c.follow_all.new.problem
      (search rules) c.in_ok-problem.ensures (search rules) (search rules) (search rules),
  search rules,
  search rules,
)
