use Rattle.std.proofs.Common.{◌≡◌, ◌++◌, length}
use Rattle.std.specs.Prelude.{flat_map}
use Rattle.mps_writer.specs.Sections.{row_text}
use Rattle.mps_writer.specs.MpsText.{rows_section}
use Rattle.mps_writer.proofs.rows.push_rows.Given as goal

abbrev pub invariant-loop-rest : goal.invariant-loop-rest
invariant-loop-rest l = l.out.items ++ flat_map row_text l.rest ≡ l.fn.out.items ++ rows_section l.objective l.rows

abbrev pub decreases-loop-rest : goal.decreases-loop-rest
decreases-loop-rest l = length l.rest
