use Rattle.problem_model.specs.declared.part.Part.TheVariants as part
use Rattle.round_tasks.proofs.Noticing.{noticed_more}
use Rattle.round_tasks.proofs.changes.add_changed_columns.Goals as goal

pub loop-column-preserved : goal.loop-column-preserved
loop-column-preserved c = noticed_more c.args.before.now c.args.after.now part.Col part.Bounds c.loop-column.column c.args.parts.now.items c.loop-column.parts.items c.add_changed.new.parts.items c.add_changed-in-loop-column.new.parts.items
    c.loop-column.invariant c.in_ok-add_changed.ensures c.in_ok-add_changed-2.ensures
