use Rattle.std.proofs.Common.{◌≡◌, ◌++◌, length}
use Rattle.std.specs.Prelude.{flat_map}
use Rattle.mps_writer.specs.Sections.{range_text}
use Rattle.mps_writer.specs.MpsText.{WidthsFit}
use Rattle.mps_writer.proofs.rows.ranges.Given as goal

abbrev pub invariant-loop-rest : goal.invariant-loop-rest
invariant-loop-rest l = (l.out.items ++ flat_map range_text l.rest ≡ flat_map range_text l.rows) × (WidthsFit l.rows → WidthsFit l.rest)

abbrev pub decreases-loop-rest : goal.decreases-loop-rest
decreases-loop-rest l = length l.rest
