use Rattle.std.proofs.Common.{◌∙◌, ◌<◌, sym, arith}
use Rattle.record_fields.specs.Views.{words_left}
use Rattle.record_fields.proofs.WordLaws.{skip-next}
use Rattle.record_words.proofs.agreement.skip.Goals as goal

pub loop-preserved : goal.loop-preserved
loop-preserved c =
    let lt : c.loop.counter < c.args.count = omega (arith, c.loop-test.true) in
    rw c.next_word.ensures.left (sym (skip-next c.args.count c.loop.counter (words_left c.loop.rest) lt) ∙ c.loop.invariant)
