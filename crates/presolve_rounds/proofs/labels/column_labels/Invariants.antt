use Rattle.std.proofs.Common.{◌≡◌, take}
use Rattle.lp_model.specs.Names.{names_of_columns}
use Rattle.undo_records.specs.Walk.{lives}
use Rattle.presolve_model.specs.Telling.{names_in}
use Rattle.presolve_model.specs.Telling.{are_live}
use Rattle.presolve_rounds.proofs.labels.column_labels.Given as goal

-- the labels so far
abbrev pub invariant-loop-j : goal.invariant-loop-j
invariant-loop-j l = record {
  names : names_in l.labels.items ≡ names_of_columns (take l.j l.columns);
  live : lives l.labels.items ≡ are_live (take l.j l.lines);
}
