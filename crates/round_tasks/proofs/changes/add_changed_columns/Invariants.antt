use Rattle.problem_model.specs.declared.part.Part.TheVariants as part
use Rattle.round_tasks.proofs.Noticing.{AreNoticed}
use Rattle.round_tasks.proofs.changes.add_changed_columns.Given as goal

-- those so far
abbrev pub invariant-loop-column : goal.invariant-loop-column
invariant-loop-column l = AreNoticed l.before l.after part.Col part.Bounds l.column l.initial.parts.items l.parts.items
