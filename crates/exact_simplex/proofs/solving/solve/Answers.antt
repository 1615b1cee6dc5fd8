use Rattle.std.proofs.Common.{inl}
use Rattle.simplex_tableau.proofs.Firsts.{if_ok}
use Rattle.exact_simplex.specs.Answers.{IsTrueOf}
use Rattle.exact_simplex.specs.declared.solving.Solved.{Solved}
use Rattle.exact_simplex.specs.declared.solving.Solved.TheVariants.{Infeasible}
use Rattle.exact_simplex.proofs.AnswerLaws.{answer_true}
use Rattle.exact_simplex.proofs.solving.solve.Goals as goal

pub returns-then-any_crossed-clause-right : goal.returns-then-any_crossed-clause-right
returns-then-any_crossed-clause-right c = λ k. answer_true c.args.program.now c.args.pivots Infeasible k (inl (c.any_crossed.ensures.crossed c.if-any_crossed.true))

pub returns-clause-right : goal.returns-clause-right
returns-clause-right c = λ k. if_ok c.answer.result _ (λ (a : Solved). IsTrueOf c.args.program.now a) c.answer.ensures (λ a h. answer_true c.args.program.now c.args.pivots a k (h c.args.pivots c.run-ending.ensures))
