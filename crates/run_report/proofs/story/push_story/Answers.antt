use Rattle.run_report.proofs.Retold.{along_first, along_none, along_stops, along_untold}
use Rattle.run_report.proofs.story.push_story.Goals as goal

pub loop-left-init : goal.loop-left-init
loop-left-init c = along_first c.args.options.now c.args.program.now c.args.history.now c.args.records.now c.args.subject c.in_ok-book.book c.args.text.now.items c.in_ok-book.ensures.new

pub returns-in_default-rest : goal.returns-in_default-rest
returns-in_default-rest c = λ p other replays within.
    along_untold c.args.program.now c.args.history.now c.args.records.now c.args.subject c.in_ok-book.book c.args.text.now.items c.args.options.now p c.in_ok-book.ensures.start c.in_ok-book.ensures.new other
    c.loop-left.left.now c.loop-left.rest.now c.loop-left.book c.loop-left.text.items c.in_default-rest.len_below c.loop-left.invariant

pub returns-then-not-branch : goal.returns-then-not-branch
returns-then-not-branch c = λ p other replays within. absurd (
    along_stops c.args.program.now c.args.history.now c.args.records.now c.args.subject c.in_ok-book.book c.args.text.now.items c.args.options.now p c.in_ok-book.ensures.start c.in_ok-book.ensures.new other
    c.loop-left.left.now _ c.loop-left.rest.now c.loop-left.book c.step.new.book c.loop-left.text.items c.in_ok-step.field-0 c.in-len1-up.len_at_least c.if-not-branch.true c.in_ok-step.ensures replays within c.loop-left.invariant
    )

pub returns : goal.returns
returns c = λ p other replays within.
    along_none c.args.program.now c.args.history.now c.args.records.now c.args.subject c.in_ok-book.book c.args.text.now.items c.args.options.now p c.in_ok-book.ensures.start c.in_ok-book.ensures.new other
    c.loop-left.left.now c.loop-left.rest.now c.loop-left.book c.loop-left.text.items c.in_default.len_below c.loop-left.invariant
