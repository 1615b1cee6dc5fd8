use Rattle.std.proofs.Common.{refl, arith, ◌∙◌}
use Rattle.lp_model.specs.Vectors.{vector_of}
use Rattle.exact_numbers.proofs.Turns.{negating_more, negating_all}
use Rattle.exact_numbers.proofs.numbers.Numbers.negate.Goals as goal

pub loop-i-preserved : goal.loop-i-preserved
loop-i-preserved g c = record {
  size = c.negate_at.ensures.size ∙ c.loop-i.invariant.size;
  negating = negating_more c.loop-i.i _ _ _ _ refl c.negate_at.ensures.value c.loop-i.invariant.negating;
}

pub returns-clause-negated : goal.returns-clause-negated
returns-clause-negated g c = negating_all c.loop-i.i c.args.self.now (vector_of c.loop-i.self) (omega (arith, c.loop-i-test.false)) c.loop-i.invariant.negating
