use Rattle.std.proofs.lemmas.Result.{on_ok_weaker}
use Rattle.round_marks.proofs.Watching.{first_and_rest}
use Rattle.explain_command.proofs.Joining.{held_full, held_next, held_none}
use Rattle.explain_command.proofs.telling.push_some_held.Goals as goal

pub returns-then-room-eq0 : goal.returns-then-room-eq0
returns-then-room-eq0 c =
    on_ok_weaker c.push_more.result (λ adds. c.loop-rest.invariant c.push_more.new.text.items (held_full c.args.program.now c.args.problem.now c.loop-rest.room c.loop-rest.rest.now c.loop-rest.text.items c.push_more.new.text.items c.in-len1-up.len_at_least c.if-room-eq0.true adds))
    c.push_more.ensures

pub loop-rest-preserved : goal.loop-rest-preserved
loop-rest-preserved c = λ new more.
    c.loop-rest.invariant new
    (held_next c.args.program.now c.args.problem.now c.loop-rest.room _ c.loop-rest.rest.now _ c.loop-rest.text.items c.push_held.new.text.items new (first_and_rest c.loop-rest.rest.now _ c.in-len1-up.len_at_least) c.if-room-eq0.false c.in_ok-push_held.ensures more)

pub returns : goal.returns
returns c = c.loop-rest.invariant c.loop-rest.text.items (held_none c.args.program.now c.args.problem.now c.loop-rest.room c.loop-rest.rest.now c.loop-rest.text.items c.in_default.len_below)
