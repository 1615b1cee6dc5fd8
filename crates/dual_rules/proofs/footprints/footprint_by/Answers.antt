use Rattle.dual_rules.specs.Footprints.{asked, offered}
use Rattle.dual_rules.proofs.FootprintSets.{all_bits, next_bits}
use Rattle.dual_rules.proofs.footprints.footprint_by.Goals as goal

pub loop-rest-preserved : goal.loop-rest-preserved
loop-rest-preserved c = (
  next_bits (asked c.args.problem.now) c.args.problem.now.matrix.rows c.term-item.result c.loop-rest.rest.now _ _ _ c.in-len1-up.len_at_least c.term-item.is c.with_live-sets.ensures.asked c.loop-rest.invariant.0,
  next_bits (offered c.args.problem.now) c.args.problem.now.matrix.rows c.term-item.result c.loop-rest.rest.now _ _ _ c.in-len1-up.len_at_least c.term-item.is c.with_live-sets.ensures.offered c.loop-rest.invariant.1,
)

pub returns : goal.returns
returns c = record {
  asked = all_bits (asked c.args.problem.now) c.args.problem.now.matrix.rows c.loop-rest.rest.now _ _ c.in_default.len_below c.loop-rest.invariant.0;
  offered = all_bits (offered c.args.problem.now) c.args.problem.now.matrix.rows c.loop-rest.rest.now _ _ c.in_default.len_below c.loop-rest.invariant.1;
}
