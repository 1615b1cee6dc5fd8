use Rattle.line_groups.proofs.Inserted.{put_ascends, put_kept}
use Rattle.line_groups.proofs.ids.Ids.add.Goals as goal

pub returns-in_ok-insert-in-Err-clause-kept : goal.returns-in_ok-insert-in-Err-clause-kept
returns-in_ok-insert-in-Err-clause-kept c = put_kept c.args.self.now c.self.inside.items.items c.insert.new.self.items c.in-Err.place c.args.id c.self.view_is c.in_ok-insert-in-Err.ensures.items

pub returns-in_ok-insert-in-Err-clause-ascends : goal.returns-in_ok-insert-in-Err-clause-ascends
returns-in_ok-insert-in-Err-clause-ascends c =
    put_ascends c.args.self.now c.self.inside.items.items c.deref.result.now c.insert.new.self.items c.in-Err.place c.args.id c.self.view_is c.deref.ensures.value c.in_ok-insert-in-Err.ensures.items
    c.in-Err.ensures.position
