use Rattle.std.proofs.Common.{◌↔◌, length}
use Rattle.undo_records.specs.Walk.{Walks, all_live, lives}
use Rattle.undo_records.proofs.whole_run.lead_to.Given as goal

abbrev pub invariant-loop-rest : goal.invariant-loop-rest
invariant-loop-rest l = Walks l.walk l.rest (record { rows = lives l.rows; columns = lives l.columns }) ↔ Walks (all_live (length l.rows) (length l.columns)) l.undos (record { rows = lives l.rows; columns = lives l.columns })

abbrev pub decreases-loop-rest : goal.decreases-loop-rest
decreases-loop-rest l = length l.rest
