use Rattle.entry_lines.proofs.Below.{below_step, place_step}
use Rattle.entry_lines.proofs.entries.count_below.Goals as goal

pub loop-place-preserved : goal.loop-place-preserved
loop-place-preserved c = record {
  below = below_step c.args.terms.now c.args.k c.loop-place.place c.index-terms-place.result c.loop-place-test.true c.if-terms-place.false c.loop-place.invariant.below;
  place = λ q. place_step c.args.terms.now c.args.k c.loop-place.place c.index-terms-place.result q c.loop-place-test.true c.if-terms-place.false (c.loop-place.invariant.place q);
}
