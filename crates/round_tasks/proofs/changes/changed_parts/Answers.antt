use Rattle.std.proofs.Common.{List, [], subst}
use Rattle.problem_model.specs.declared.part.Part.{Part}
use Rattle.problem_model.specs.declared.part.Part.TheVariants as part
use Rattle.round_tasks.specs.Changes.{NoticesBelow}
use Rattle.round_tasks.proofs.Noticing.{noticed_all}
use Rattle.round_tasks.proofs.changes.changed_parts.Goals as goal

pub returns : goal.returns
returns c =
    let rows : NoticesBelow c.args.before.now c.args.after.now part.Row part.Sides c.args.after.now.matrix.rows [] c.add_changed_rows.new.parts.items =
    subst (λ (ps : List Part). NoticesBelow c.args.before.now c.args.after.now part.Row part.Sides c.args.after.now.matrix.rows ps c.add_changed_rows.new.parts.items) c.new-parts.ensures.items c.in_ok-add_changed_rows.ensures in
    noticed_all c.args.before.now c.args.after.now c.add_changed_rows.new.parts.items c.add_changed_columns.new.parts.items c.is_sparse.ensures c.requires rows c.in_ok-add_changed_columns.ensures
