use Rattle.problem_model.specs.declared.part.Part.TheVariants as part
use Rattle.round_tasks.proofs.Noticing.{noticed_more}
use Rattle.round_tasks.proofs.changes.add_changed_rows.Goals as goal

pub loop-row-preserved : goal.loop-row-preserved
loop-row-preserved c = noticed_more c.args.before.now c.args.after.now part.Row part.Sides c.loop-row.row c.args.parts.now.items c.loop-row.parts.items c.add_changed.new.parts.items c.add_changed-in-loop-row.new.parts.items
    c.loop-row.invariant c.in_ok-add_changed.ensures c.in_ok-add_changed-2.ensures
