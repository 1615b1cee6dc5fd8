use Rattle.problem_model.specs.declared.part.Part.TheVariants as part
use Rattle.round_tasks.proofs.Noticing.{AreNoticed}
use Rattle.round_tasks.proofs.changes.add_changed_rows.Given as goal

-- those so far
abbrev pub invariant-loop-row : goal.invariant-loop-row
invariant-loop-row l = AreNoticed l.before l.after part.Row part.Sides l.row l.initial.parts.items l.parts.items
