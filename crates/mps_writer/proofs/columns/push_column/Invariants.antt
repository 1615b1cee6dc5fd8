use Rattle.std.proofs.Common.{◌≡◌, ◌++◌, length}
use Rattle.std.specs.Prelude.{flat_map}
use Rattle.mps_writer.specs.Sections.{entry_text, column_text}
use Rattle.mps_writer.proofs.columns.push_column.Given as goal

abbrev pub invariant-loop-rest : goal.invariant-loop-rest
invariant-loop-rest l = l.out.items ++ flat_map (entry_text l.rows l.column.name) l.rest ≡ l.fn.out.items ++ column_text l.objective l.rows l.column

abbrev pub decreases-loop-rest : goal.decreases-loop-rest
decreases-loop-rest l = length l.rest
