use Rattle.std.proofs.Common.{◌≡◌, ◌++◌, length}
use Rattle.std.specs.Prelude.{flat_map}
use Rattle.mps_writer.specs.Sections.{right_side_text}
use Rattle.mps_writer.specs.MpsText.{right_sides}
use Rattle.mps_writer.proofs.rows.right_sides.Given as goal

abbrev pub invariant-loop-rest : goal.invariant-loop-rest
invariant-loop-rest l = l.out.items ++ flat_map right_side_text l.rest ≡ right_sides l.objective l.constant l.rows

abbrev pub decreases-loop-rest : goal.decreases-loop-rest
decreases-loop-rest l = length l.rest
