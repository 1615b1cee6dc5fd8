use Rattle.std.proofs.Common.{◌≡◌, ap, Err, map, Vec, Global}
use Rattle.std.specs.List.{All}
use Rattle.problem_model.specs.declared.edit.Edit.{Edit}
use Rattle.column_laws.specs.SoleEntry.{cost_less, CostComputes}
use Rattle.rule_words.proofs.TermsInTurn.{made_more, all_more, one_of, past_answer}
use Rattle.column_rules.proofs.sole_entry.all_costs.Goals as goal

pub loop-term-preserved : goal.loop-term-preserved
loop-term-preserved c = (
  made_more (cost_less c.args.problem.now c.args.price.now) c.args.terms.now c.loop-term.term-index c.term-item.result _ _ c.loop-term-test.true c.term-item.is c.loop-term.invariant.0 c.in_default.ensures.made,
  all_more (CostComputes c.args.problem.now c.args.price.now) c.args.terms.now c.loop-term.term-index c.term-item.result c.loop-term-test.true c.term-item.is c.loop-term.invariant.1 c.in_default.ensures.fits,
)

pub returns-in-Err : goal.returns-in-Err
returns-in-Err c = past_answer {T = Vec Edit Global} (λ all. all.items ≡ map (cost_less c.args.problem.now c.args.price.now) c.args.terms.now) (All (CostComputes c.args.problem.now c.args.price.now) c.args.terms.now) c.in-Err.refusal
    (λ e h. c.in-Err.ensures.past (ap Err e) (one_of (CostComputes c.args.problem.now c.args.price.now) c.args.terms.now c.loop-term.term-index c.term-item.result c.loop-term-test.true c.term-item.is h))
    (λ e. c.in-Err.ensures.written (ap Err e))
