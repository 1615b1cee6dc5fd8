use Rattle.std.proofs.lemmas.Result.{on_ok_weaker}
use Rattle.explain_command.proofs.Joining.{story_found}
use Rattle.explain_command.proofs.telling.push_story_of.Goals as goal

pub returns : goal.returns
returns c =
    on_ok_weaker c.push_events.result
    (story_found c.args.options.now c.args.program.now c.args.told.now.ended.history.items c.args.told.now.ended.records.items c.args.what.now c.args.name.now c.args.subject c.in-Some.subject c.args.text.now.items c.push_heading.new.text.items c.push_events.new.text.items c.in-Some.is
    c.in_ok-push_heading.ensures)
    c.push_events.ensures
