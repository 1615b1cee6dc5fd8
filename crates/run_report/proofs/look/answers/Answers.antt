use Rattle.std.proofs.Common.{◌∙◌, sym}
use Rattle.round_marks.proofs.Watching.{first_and_rest}
use Rattle.run_report.proofs.Holding.{next_held}
use Rattle.run_report.proofs.look.answers.Goals as goal

pub loop-rest-preserved : goal.loop-rest-preserved
loop-rest-preserved c =
    let more = next_held c.args.book.now c.loop-rest.book c.args.found.now c.loop-rest.held.items c.push.new.self.items _ c.loop-rest.rest.now _ (sym (first_and_rest c.loop-rest.rest.now _ c.in-len1-up.len_at_least)) c.loop-rest.invariant.book c.in_ok-push.ensures.items c.in_ok-answer.ensures.why c.loop-rest.invariant.all c.loop-rest.invariant.why c.loop-rest.invariant.left in
    record { book = c.answer.ensures.book ∙ c.loop-rest.invariant.book; all = more.0; why = more.1; left = more.2 }
