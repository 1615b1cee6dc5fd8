use Rattle.explain_command.proofs.Joining.{whole_text}
use Rattle.explain_command.proofs.telling.tell.Goals as goal

pub returns : goal.returns
returns c = λ start replayed.
    whole_text c.args.program.now c.args.words.now start c.args.log.now.sizes.items c.args.told.now c.in_ok-text.text.items c.push_asked_column.new.text.items c.push_asked_row.new.text.items
    c.in_ok-text.ensures (c.in_ok-push_asked_column.ensures start replayed) (c.in_ok-push_asked_row.ensures start replayed)
