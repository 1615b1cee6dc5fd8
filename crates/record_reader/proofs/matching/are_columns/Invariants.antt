use Rattle.std.proofs.Common.{◌≡◌, length}
use Rattle.lp_model.specs.Names.{names_of_columns}
use Rattle.undo_records.specs.Named.{live_names}
use Rattle.record_reader.specs.Matching.{same_names}
use Rattle.record_reader.proofs.matching.are_columns.Given as goal

abbrev pub invariant-loop-rest : goal.invariant-loop-rest
invariant-loop-rest l = same_names (live_names l.rest) (names_of_columns l.left) ≡ same_names (live_names l.labels) (names_of_columns l.columns)

abbrev pub decreases-loop-rest : goal.decreases-loop-rest
decreases-loop-rest l = length l.rest
