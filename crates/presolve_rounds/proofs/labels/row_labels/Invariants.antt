use Rattle.std.proofs.Common.{◌≡◌, take}
use Rattle.lp_model.specs.Names.{names_of_rows}
use Rattle.undo_records.specs.Walk.{lives}
use Rattle.presolve_model.specs.Telling.{names_in}
use Rattle.presolve_model.specs.Telling.{are_live}
use Rattle.presolve_rounds.proofs.labels.row_labels.Given as goal

-- the labels so far
abbrev pub invariant-loop-i : goal.invariant-loop-i
invariant-loop-i l = record {
  names : names_in l.labels.items ≡ names_of_rows (take l.i l.rows);
  live : lives l.labels.items ≡ are_live (take l.i l.lines);
}
