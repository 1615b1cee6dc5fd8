use Rattle.std.proofs.Common.{◌≡◌, ◌++◌, length}
use Rattle.mps_writer.specs.Sections.{columns_text}
use Rattle.mps_writer.specs.MpsText.{columns_section}
use Rattle.mps_writer.proofs.columns.push_columns.Given as goal

abbrev pub invariant-loop-rest : goal.invariant-loop-rest
invariant-loop-rest l = l.out.items ++ columns_text l.objective l.rows l.whole l.rest ≡ l.fn.out.items ++ columns_section l.objective l.rows l.columns

abbrev pub decreases-loop-rest : goal.decreases-loop-rest
decreases-loop-rest l = length l.rest
