use Rattle.std.proofs.Common.{◌≡◌, ◌++◌, ap, Err, map}
use Rattle.std.specs.List.{All}
use Rattle.rule_words.proofs.TermsInTurn.{all_more, made_after, one_of, past_answer}
use Rattle.rule_words.specs.MovedSides.{sides_less, SidesFit}
use Rattle.singleton_rules.proofs.moved_sides.add_sides.Goals as goal

pub loop-term-preserved : goal.loop-term-preserved
loop-term-preserved c = (
  made_after (sides_less c.args.problem.now c.args.shift.now) c.args.terms.now c.loop-term.term-index c.term-item.result c.args.all.now.items _ _ c.loop-term-test.true c.term-item.is c.loop-term.invariant.0 c.in_default.ensures.made,
  all_more (SidesFit c.args.problem.now c.args.shift.now) c.args.terms.now c.loop-term.term-index c.term-item.result c.loop-term-test.true c.term-item.is c.loop-term.invariant.1 c.in_default.ensures.fits,
)

pub returns-in-Err : goal.returns-in-Err
returns-in-Err c = past_answer {T = Unit {0}} (λ done. c.add.new.all.items ≡ c.args.all.now.items ++ map (sides_less c.args.problem.now c.args.shift.now) c.args.terms.now) (All (SidesFit c.args.problem.now c.args.shift.now) c.args.terms.now) c.in-Err.refusal
    (λ e h. c.in-Err.ensures.past (ap Err e) (one_of (SidesFit c.args.problem.now c.args.shift.now) c.args.terms.now c.loop-term.term-index c.term-item.result c.loop-term-test.true c.term-item.is h))
    (λ e. c.in-Err.ensures.written (ap Err e))
